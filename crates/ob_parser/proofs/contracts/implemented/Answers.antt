use Rattle.std.proofs.Common.{rules}
use Rattle.ob_parser_expressions.proofs.Halts.{halts_bind}
use Rattle.ob_parser.proofs.contracts.implemented.Goals as goal

pub returns-in_err-rest : goal.returns-in_err-rest
returns-in_err-rest c = search (rules, halts_bind)

pub returns-in_err-of : goal.returns-in_err-of
returns-in_err-of c = search (rules, halts_bind)
