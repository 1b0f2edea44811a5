use Rattle.std.proofs.Common.{rules}
use Rattle.ob_parser_expressions.proofs.Halts.{halts_bind}
use Rattle.ob_parser_expressions.proofs.expressions.named_call.Goals as goal

pub returns-in_err-name : goal.returns-in_err-name
returns-in_err-name c = search (rules, halts_bind)

pub returns-in_err-tail : goal.returns-in_err-tail
returns-in_err-tail c = search (rules, halts_bind)
