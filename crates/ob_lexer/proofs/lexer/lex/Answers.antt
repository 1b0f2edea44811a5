use Rattle.std.proofs.Common.{arith}
use Rattle.ob_lexer.proofs.Progress.{broken_at}
use Rattle.ob_lexer.proofs.lexer.lex.Goals as goal

pub returns-in-Some-clause-fault : goal.returns-in-Some-clause-fault
returns-in-Some-clause-fault c =
    broken_at c.args.text.now c.in-Some.valid c.fault_after-fault.result (omega arith) c.in-Some.ensures c.fault_after-fault.ensures
