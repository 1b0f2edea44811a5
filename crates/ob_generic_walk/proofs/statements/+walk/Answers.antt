use Rattle.std.proofs.Common.{ap, ◌∙◌}
use Rattle.std.proofs.lemmas.Result.{on_ok_weaker}
use Rattle.ob_tree.specs.StmtsView.{block_of, else_of}
use Rattle.ob_generic_spec.specs.Uses.{types_in_block, types_in_else}
use Rattle.ob_generic_walk.specs.Seen.{met}
use Rattle.ob_generic_walk.proofs.WalkTurns.{if_met}
use Rattle.ob_generic_walk.proofs.statements.+walk.Goals as goal

pub walk_stmt-returns-in_ok-walk_block-in-If : goal.walk_stmt-returns-in_ok-walk_block-in-If
walk_stmt-returns-in_ok-walk_block-in-If t c =
    let a = c.args.around.now in
    on_ok_weaker c.walk_else-in-If.result (λ e. e
    ∙ ap (λ found. met a found (types_in_else (else_of c.in-If.otherwise)))
    (c.in_ok-walk_block-in-If.ensures
    ∙ ap (λ found. met a found (types_in_block (block_of c.in-If.then))) c.in_ok-walk_expr-in-If.ensures)
    ∙ if_met a c.args.found.now c.args.statement.now c.in-If.condition c.in-If.then c.in-If.otherwise c.in-If.span c.in-If.is)
    c.walk_else-in-If.ensures
