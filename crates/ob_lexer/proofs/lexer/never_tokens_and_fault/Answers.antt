use Rattle.ob_lexer.proofs.Readings.{never_tokens_and_fault_lem}
use Rattle.ob_lexer.proofs.lexer.never_tokens_and_fault.Goals as goal

pub returns : goal.returns
returns c = never_tokens_and_fault_lem
