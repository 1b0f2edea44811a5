use Rattle.std.proofs.Common.{rules}
use Rattle.ob_parser_expressions.proofs.Halts.{halts_bind}
use Rattle.ob_parser.proofs.simple.enclosed_given.Goals as goal

pub returns-in_err-rest : goal.returns-in_err-rest
returns-in_err-rest c = search (rules, halts_bind)

pub returns-in_err-list : goal.returns-in_err-list
returns-in_err-list c = search (rules, halts_bind)
