use Rattle.std.proofs.Common.{rules}
use Rattle.ob_parser_expressions.proofs.Halts.{halts_bind}
use Rattle.ob_parser.proofs.simple.given.Goals as goal

pub returns-in_err-field : goal.returns-in_err-field
returns-in_err-field c = search (rules, halts_bind)

pub returns-in_err-field-2 : goal.returns-in_err-field-2
returns-in_err-field-2 c = search (rules, halts_bind)

pub returns-in_err-field-3 : goal.returns-in_err-field-3
returns-in_err-field-3 c = search (rules, halts_bind)
