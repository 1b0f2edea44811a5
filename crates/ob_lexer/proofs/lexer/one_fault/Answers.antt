use Rattle.ob_lexer.proofs.Readings.{one_fault_lem}
use Rattle.ob_lexer.proofs.lexer.one_fault.Goals as goal

pub returns : goal.returns
returns c = one_fault_lem
