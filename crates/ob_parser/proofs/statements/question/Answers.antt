use Rattle.std.proofs.Common.{rules}
use Rattle.ob_parser_expressions.proofs.Halts.{halts_bind}
use Rattle.ob_parser.proofs.statements.question.Goals as goal

pub returns-in_err-condition : goal.returns-in_err-condition
returns-in_err-condition c = search (rules, halts_bind)
