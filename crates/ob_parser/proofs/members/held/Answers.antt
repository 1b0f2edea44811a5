use Rattle.std.proofs.Common.{rules}
use Rattle.ob_parser_expressions.proofs.Halts.{halts_bind}
use Rattle.ob_parser.proofs.members.held.Goals as goal

pub returns-in_err-name : goal.returns-in_err-name
returns-in_err-name c = search (rules, halts_bind)

pub returns-in_err-name-2 : goal.returns-in_err-name-2
returns-in_err-name-2 c = search (rules, halts_bind)
