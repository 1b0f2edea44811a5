use Rattle.std.proofs.Common.{rules}
use Rattle.ob_parser_expressions.proofs.Halts.{halts_bind}
use Rattle.ob_parser.proofs.members.promise.Goals as goal

pub returns-in_err-head : goal.returns-in_err-head
returns-in_err-head c = search (rules, halts_bind)

pub returns-in_err-head-2 : goal.returns-in_err-head-2
returns-in_err-head-2 c = search (rules, halts_bind)
