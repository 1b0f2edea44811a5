use Rattle.std.proofs.Common.{rules}
use Rattle.ob_parser_expressions.proofs.Halts.{halts_bind}
use Rattle.ob_parser.proofs.members.after_reference.Goals as goal

pub returns-in_err-of : goal.returns-in_err-of
returns-in_err-of c = search (rules, halts_bind)

pub returns-in_err-of-2 : goal.returns-in_err-of-2
returns-in_err-of-2 c = search (rules, halts_bind)
