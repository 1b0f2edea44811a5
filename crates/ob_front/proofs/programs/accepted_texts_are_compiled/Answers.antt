use Rattle.ob_front.proofs.CompiledLaws.{checked_texts_are_compiled}
use Rattle.ob_front.proofs.programs.accepted_texts_are_compiled.Goals as goal

pub returns : goal.returns
returns c = λ text table bodies is. checked_texts_are_compiled text table bodies is.checked
