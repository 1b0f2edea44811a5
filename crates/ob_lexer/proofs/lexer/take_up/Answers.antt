use Rattle.ob_lexer.proofs.Taking.{begins_with}
use Rattle.ob_lexer.proofs.lexer.take_up.Goals as goal

pub returns-in-Flaw-clause-err : goal.returns-in-Flaw-clause-err
returns-in-Flaw-clause-err c = begins_with _ _ _ _ _ _ (rw c.in-Flaw.is at c.in_ok-length.ensures) c.fault_after.ensures
