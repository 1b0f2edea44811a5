use Rattle.std.proofs.Common.{rules}
use Rattle.ob_parser_expressions.proofs.Halts.{halts_bind}
use Rattle.ob_parser.proofs.simple.assertion.Goals as goal

pub returns-in_err-rest : goal.returns-in_err-rest
returns-in_err-rest c = search (rules, halts_bind)

pub returns-in_err-subject : goal.returns-in_err-subject
returns-in_err-subject c = search (rules, halts_bind)

pub returns-in_err-subject-2 : goal.returns-in_err-subject-2
returns-in_err-subject-2 c = search (rules, halts_bind)

pub returns-in_err-subject-3 : goal.returns-in_err-subject-3
returns-in_err-subject-3 c = search (rules, halts_bind)

pub returns-in_err-parts : goal.returns-in_err-parts
returns-in_err-parts c = search (rules, halts_bind)

pub returns-in_err-subject-4 : goal.returns-in_err-subject-4
returns-in_err-subject-4 c = search (rules, halts_bind)
