use Rattle.ob_words.specs.Asked.{check}
use Rattle.ob_run.proofs.telling.check_text.Goals as goal

pub returns-in-Ok-clause-tells : goal.returns-in-Ok-clause-tells
returns-in-Ok-clause-tells g c = λ name. c.accept.ensures.tells name c.args.text.now c.in-Ok.ensures.accepted

pub returns-in-Err-clause-tells : goal.returns-in-Err-clause-tells
returns-in-Err-clause-tells g c = λ name. c.refuse.ensures.tells (check name) c.args.text.now c.in-Err.ensures.fault
