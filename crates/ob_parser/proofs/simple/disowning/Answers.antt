use Rattle.std.proofs.Common.{rules}
use Rattle.ob_parser_expressions.proofs.Halts.{halts_bind}
use Rattle.ob_parser.proofs.simple.disowning.Goals as goal

pub returns-in_err-rest : goal.returns-in_err-rest
returns-in_err-rest c = search (rules, halts_bind)

pub returns-in_err-name : goal.returns-in_err-name
returns-in_err-name c = search (rules, halts_bind)

pub returns-in_err-name-2 : goal.returns-in_err-name-2
returns-in_err-name-2 c = search (rules, halts_bind)
