use Rattle.std.proofs.Common.{rules}
use Rattle.ob_parser_expressions.proofs.Halts.{halts_bind}
use Rattle.ob_parser.proofs.members.member.Goals as goal

pub returns-in_err-field : goal.returns-in_err-field
returns-in_err-field c = search (rules, halts_bind)
