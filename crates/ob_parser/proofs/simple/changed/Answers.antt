use Rattle.std.proofs.Common.{rules}
use Rattle.ob_parser_expressions.proofs.Halts.{halts_bind}
use Rattle.ob_parser.proofs.simple.changed.Goals as goal

pub returns-in_err-given : goal.returns-in_err-given
returns-in_err-given c = search (rules, halts_bind)

pub returns-in_err-given-2 : goal.returns-in_err-given-2
returns-in_err-given-2 c = search (rules, halts_bind)
