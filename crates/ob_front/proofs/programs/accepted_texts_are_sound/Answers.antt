use Rattle.ob_front.proofs.CompiledLaws.{checked_texts_are_compiled, compiled_is_sound}
use Rattle.ob_front.proofs.programs.accepted_texts_are_sound.Goals as goal

pub returns : goal.returns
returns c = λ text table bodies is. compiled_is_sound table bodies (checked_texts_are_compiled text table bodies is.checked)
