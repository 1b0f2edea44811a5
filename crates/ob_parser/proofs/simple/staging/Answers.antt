use Rattle.std.proofs.Common.{rules}
use Rattle.ob_parser_expressions.proofs.Halts.{halts_bind}
use Rattle.ob_parser.specs.CodeStatements.{named_value}
use Rattle.ob_tree.specs.StmtsView.{stmt_views}
use Rattle.ob_parser_expressions.proofs.Nexts.{next_done}
use Rattle.ob_parser.proofs.simple.staging.Goals as goal

pub returns-in_err-state : goal.returns-in_err-state
returns-in_err-state c = search (rules, halts_bind)

pub returns-in_err-state-2 : goal.returns-in_err-state-2
returns-in_err-state-2 c = search (rules, halts_bind)

pub returns-in_err-state-3 : goal.returns-in_err-state-3
returns-in_err-state-3 c = search (rules, halts_bind)

pub returns : goal.returns
returns c =
    let value = next_done named_value c.name_assigned.result _ _ _ c.in_ok-state-3.ensures.ok c.name_assigned.ensures in
    rw (c.span_between-span.ensures, c.in_ok-state-3.ensures.part, c.in_ok-state-2.ensures.part, c.in_ok-state.ensures, c.in_ok-state-2.ensures.ok, value) (search (rules, stmt_views))
