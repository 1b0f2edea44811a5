use Rattle.ob_front.proofs.CompiledLaws.{checked_texts_are_compiled, compiled_has_sound_code}
use Rattle.ob_front.proofs.programs.accepted_texts_have_sound_code.Goals as goal

pub returns : goal.returns
returns c = λ text table bodies is. compiled_has_sound_code table bodies (checked_texts_are_compiled text table bodies is.checked)
