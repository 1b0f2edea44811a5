use Rattle.std.proofs.Common.{◌≡◌, List, ◌∷◌, ◌++◌, IfOk, OnOk, map, ap, sym, subst, ◌∙◌}
use Rattle.ob_tree.specs.ExprsView.{expr_of}
use Rattle.ob_tree.specs.declared.stmt.GivenNode.{GivenNode}
use Rattle.ob_tree.specs.Stmts.{declare_stmt, stage_stmt}
use Rattle.ob_tree.specs.StmtsView.{local_of, block_of, else_of, given_of, stmt_of, stmt_of-Declare, stmt_of-Stage, stmt_of-Change, stmt_of-Test, stmt_of-If, stmt_of-While}
use Rattle.ob_resolve_spec.specs.Reached.{ends, block_ends, else_ends}
use Rattle.ob_resolve_spec.specs.Scopes.{past, after_stmt, locals_in_block, locals_in_else}
use Rattle.ob_resolve_spec.specs.declared.kind.InferredKind.TheVariants.{Bool as a_bool}
use Rattle.ob_resolve_spec.specs.ExpressionSites.{value_sites}
use Rattle.ob_resolve_spec.specs.Sites.{names_state}
use Rattle.ob_resolve_spec.specs.StatementSites.{given_sites, change_sites, block_sites, else_sites, stmt_sites}
use Rattle.ob_resolve_scope.specs.Around.{around_of}
use Rattle.ob_resolve_sites.specs.Noted.{noted, noted-append, names_in}
use Rattle.ob_resolve_statements.specs.Walked.{rest_of_row, row_kept}
use Rattle.ob_resolve_statements.proofs.BranchLemmas.{after_both, both_end, after_one, going_on}
use Rattle.ob_resolve_statements.proofs.StatementLemmas.{past_both, test_sites, if_sites}
use Rattle.ob_resolve_statements.proofs.statements.+walk.Goals as goal

pub walk_stmt-returns-in-Test-clause-sites : goal.walk_stmt-returns-in-Test-clause-sites
walk_stmt-returns-in-Test-clause-sites t c =
    let a = around_of c.args.around.now in
    let s = c.args.scope.now in
    let row = names_in c.args.row.now in
    let w = c.in-Test in
    let branch = c.walk_block-then in
    let other = c.walk_else-otherwise in
    after_both (branch.new.least ≡ noted c.walk_tested.new.least (block_sites a s (block_of w.then)))
    (branch.new.scope ≡ past s (locals_in_block (block_of w.then)))
    (other.new.least ≡ noted branch.new.least (else_sites a branch.new.scope (else_of w.otherwise)))
    (other.new.least ≡ noted c.args.least.now (stmt_sites a s row (stmt_of c.args.statement.now)))
    c.both_end.result branch.result other.result c.both_end.ensures branch.ensures.sites branch.ensures.scope
    other.ensures.sites
    (λ p q v. rw (v, q, p, c.walk_tested.ensures, w.is, stmt_of-Test)
    (test_sites a s row c.args.least.now w.subject w.state (block_of w.then) (else_of w.otherwise) w.span))

pub walk_stmt-returns-in-Test-clause-scope : goal.walk_stmt-returns-in-Test-clause-scope
walk_stmt-returns-in-Test-clause-scope t c =
    let a = around_of c.args.around.now in
    let s = c.args.scope.now in
    let w = c.in-Test in
    let branch = c.walk_block-then in
    let other = c.walk_else-otherwise in
    let m = locals_in_block (block_of w.then) in
    let n = locals_in_else (else_of w.otherwise) in
    after_both (branch.new.scope ≡ past s m) (branch.new.scope ≡ past s m)
    (other.new.scope ≡ past branch.new.scope n) (other.new.scope ≡ after_stmt a s (stmt_of c.args.statement.now))
    c.both_end.result branch.result other.result c.both_end.ensures branch.ensures.scope branch.ensures.scope
    other.ensures.scope
    (λ p q v. v ∙ ap (λ u. past u n) p ∙ past_both s m n ∙ sym (ap (after_stmt a s) (ap stmt_of w.is
    ∙ stmt_of-Test w.subject w.state w.then w.otherwise w.span)))

pub walk_stmt-returns-in-Test-clause-ends : goal.walk_stmt-returns-in-Test-clause-ends
walk_stmt-returns-in-Test-clause-ends t c =
    let w = c.in-Test in
    let branch = c.walk_block-then in
    let other = c.walk_else-otherwise in
    subst (λ x. IfOk c.both_end.result (λ b. b ≡ ends x)) (sym (ap stmt_of w.is
    ∙ stmt_of-Test w.subject w.state w.then w.otherwise w.span))
    (both_end c.both_end.result branch.result other.result (block_ends (block_of w.then))
    (else_ends (else_of w.otherwise)) c.both_end.ensures branch.ensures.ends other.ensures.ends)

pub walk_stmt-returns-in-If-clause-sites : goal.walk_stmt-returns-in-If-clause-sites
walk_stmt-returns-in-If-clause-sites t c =
    let a = around_of c.args.around.now in
    let s = c.args.scope.now in
    let row = names_in c.args.row.now in
    let w = c.in-If in
    let branch = c.walk_block-then-in-If in
    let other = c.walk_else-otherwise-in-If in
    after_both (branch.new.least ≡ noted c.walk_value.new.least (block_sites a s (block_of w.then)))
    (branch.new.scope ≡ past s (locals_in_block (block_of w.then)))
    (other.new.least ≡ noted branch.new.least (else_sites a branch.new.scope (else_of w.otherwise)))
    (other.new.least ≡ noted c.args.least.now (stmt_sites a s row (stmt_of c.args.statement.now)))
    c.both_end-in-If.result branch.result other.result c.both_end-in-If.ensures branch.ensures.sites branch.ensures.scope
    other.ensures.sites
    (λ p q v. rw (v, q, p, c.walk_value.ensures, w.is, stmt_of-If)
    (if_sites a s row c.args.least.now (expr_of w.condition) (block_of w.then) (else_of w.otherwise) w.span))

pub walk_stmt-returns-in-If-clause-scope : goal.walk_stmt-returns-in-If-clause-scope
walk_stmt-returns-in-If-clause-scope t c =
    let a = around_of c.args.around.now in
    let s = c.args.scope.now in
    let w = c.in-If in
    let branch = c.walk_block-then-in-If in
    let other = c.walk_else-otherwise-in-If in
    let m = locals_in_block (block_of w.then) in
    let n = locals_in_else (else_of w.otherwise) in
    after_both (branch.new.scope ≡ past s m) (branch.new.scope ≡ past s m)
    (other.new.scope ≡ past branch.new.scope n) (other.new.scope ≡ after_stmt a s (stmt_of c.args.statement.now))
    c.both_end-in-If.result branch.result other.result c.both_end-in-If.ensures branch.ensures.scope branch.ensures.scope
    other.ensures.scope
    (λ p q v. v ∙ ap (λ u. past u n) p ∙ past_both s m n ∙ sym (ap (after_stmt a s) (ap stmt_of w.is
    ∙ stmt_of-If w.condition w.then w.otherwise w.span)))

pub walk_stmt-returns-in-If-clause-ends : goal.walk_stmt-returns-in-If-clause-ends
walk_stmt-returns-in-If-clause-ends t c =
    let w = c.in-If in
    let branch = c.walk_block-then-in-If in
    let other = c.walk_else-otherwise-in-If in
    subst (λ x. IfOk c.both_end-in-If.result (λ b. b ≡ ends x)) (sym (ap stmt_of w.is
    ∙ stmt_of-If w.condition w.then w.otherwise w.span))
    (both_end c.both_end-in-If.result branch.result other.result (block_ends (block_of w.then))
    (else_ends (else_of w.otherwise)) c.both_end-in-If.ensures branch.ensures.ends other.ensures.ends)

pub walk_stmt-returns-in-While-clause-sites : goal.walk_stmt-returns-in-While-clause-sites
walk_stmt-returns-in-While-clause-sites t c =
    let a = around_of c.args.around.now in
    let s = c.args.scope.now in
    let row = names_in c.args.row.now in
    let w = c.in-While in
    let body = c.walk_block-body in
    let asked = value_sites a s a_bool (expr_of w.condition) in
    let inside = block_sites a s (block_of w.body) in
    subst (λ x. OnOk c.past_loop.result (body.new.least ≡ noted c.args.least.now (stmt_sites a s row x)))
    (sym (ap stmt_of w.is ∙ stmt_of-While w.condition w.body w.span))
    (after_one (body.new.least ≡ noted c.walk_value-in-While.new.least inside)
    (body.new.least ≡ noted c.args.least.now (asked ++ inside)) c.past_loop.result body.result c.past_loop.ensures
    body.ensures.sites
    (λ p. p ∙ ap (λ l. noted l inside) c.walk_value-in-While.ensures ∙ sym (noted-append c.args.least.now asked inside)))

pub walk_stmt-returns-in-While-clause-scope : goal.walk_stmt-returns-in-While-clause-scope
walk_stmt-returns-in-While-clause-scope t c =
    let a = around_of c.args.around.now in
    let s = c.args.scope.now in
    let w = c.in-While in
    let body = c.walk_block-body in
    let after = past s (locals_in_block (block_of w.body)) in
    subst (λ x. OnOk c.past_loop.result (body.new.scope ≡ after_stmt a s x))
    (sym (ap stmt_of w.is ∙ stmt_of-While w.condition w.body w.span))
    (after_one (body.new.scope ≡ after) (body.new.scope ≡ after) c.past_loop.result body.result c.past_loop.ensures
    body.ensures.scope (λ p. p))

pub walk_stmt-returns-in-While-clause-ends : goal.walk_stmt-returns-in-While-clause-ends
walk_stmt-returns-in-While-clause-ends t c =
    let w = c.in-While in
    subst (λ x. IfOk c.past_loop.result (λ b. b ≡ ends x)) (sym (ap stmt_of w.is ∙ stmt_of-While w.condition w.body w.span))
    (going_on c.past_loop.result c.walk_block-body.result c.past_loop.ensures)

pub walk_stmt-returns-in-Declare-clause-sites : goal.walk_stmt-returns-in-Declare-clause-sites
walk_stmt-returns-in-Declare-clause-sites t c =
    let a = around_of c.args.around.now in
    let s = c.args.scope.now in
    let row = names_in c.args.row.now in
    let w = c.in-Declare in
    let declared = declare_stmt (local_of w.of) w.name (expr_of w.value) w.span in
    subst (λ x. OnOk c.goes_on.result (c.walk_declare.new.least ≡ noted c.args.least.now (stmt_sites a s row x)))
    (sym (ap stmt_of w.is ∙ stmt_of-Declare w.of w.name w.value w.span))
    (after_one (c.walk_declare.new.least ≡ noted c.args.least.now (stmt_sites a s row declared))
    (c.walk_declare.new.least ≡ noted c.args.least.now (stmt_sites a s row declared)) c.goes_on.result
    c.walk_declare.result c.goes_on.ensures c.walk_declare.ensures.sites (λ p. p))

pub walk_stmt-returns-in-Declare-clause-scope : goal.walk_stmt-returns-in-Declare-clause-scope
walk_stmt-returns-in-Declare-clause-scope t c =
    let a = around_of c.args.around.now in
    let s = c.args.scope.now in
    let w = c.in-Declare in
    let declared = declare_stmt (local_of w.of) w.name (expr_of w.value) w.span in
    subst (λ x. OnOk c.goes_on.result (c.walk_declare.new.scope ≡ after_stmt a s x))
    (sym (ap stmt_of w.is ∙ stmt_of-Declare w.of w.name w.value w.span))
    (after_one (c.walk_declare.new.scope ≡ after_stmt a s declared)
    (c.walk_declare.new.scope ≡ after_stmt a s declared) c.goes_on.result c.walk_declare.result c.goes_on.ensures
    c.walk_declare.ensures.scope (λ p. p))

pub walk_stmt-returns-in-Declare-clause-ends : goal.walk_stmt-returns-in-Declare-clause-ends
walk_stmt-returns-in-Declare-clause-ends t c =
    let w = c.in-Declare in
    subst (λ x. IfOk c.goes_on.result (λ b. b ≡ ends x)) (sym (ap stmt_of w.is ∙ stmt_of-Declare w.of w.name w.value w.span))
    (going_on c.goes_on.result c.walk_declare.result c.goes_on.ensures)

pub walk_stmt-returns-in-Stage-clause-sites : goal.walk_stmt-returns-in-Stage-clause-sites
walk_stmt-returns-in-Stage-clause-sites t c =
    let a = around_of c.args.around.now in
    let s = c.args.scope.now in
    let row = names_in c.args.row.now in
    let w = c.in-Stage in
    let given = given_sites a s row w.field (expr_of w.value) in
    subst (λ x. OnOk c.goes_on-in-Stage.result (c.walk_given.new.least ≡ noted c.args.least.now
    (stmt_sites a s row x))) (sym (ap stmt_of w.is ∙ stmt_of-Stage w.state w.field w.value w.span))
    (after_one (c.walk_given.new.least ≡ noted c.note_own_state.new.least given) (c.walk_given.new.least ≡ noted c.args.least.now (names_state a.own w.state ∷ given))
    c.goes_on-in-Stage.result c.walk_given.result c.goes_on-in-Stage.ensures c.walk_given.ensures.sites
    (λ p. p ∙ ap (λ l. noted l given) c.note_own_state.ensures))

pub walk_stmt-returns-in-Stage-clause-row : goal.walk_stmt-returns-in-Stage-clause-row
walk_stmt-returns-in-Stage-clause-row t c =
    let w = c.in-Stage in
    let staged = stage_stmt w.state w.field (expr_of w.value) w.span in
    subst (λ x. OnOk c.goes_on-in-Stage.result (row_kept c.walk_given.new.row x ≡ rest_of_row c.args.row.now x))
    (sym (ap stmt_of w.is ∙ stmt_of-Stage w.state w.field w.value w.span))
    (after_one (row_kept c.walk_given.new.row staged ≡ rest_of_row c.args.row.now staged)
    (row_kept c.walk_given.new.row staged ≡ rest_of_row c.args.row.now staged) c.goes_on-in-Stage.result
    c.walk_given.result c.goes_on-in-Stage.ensures c.walk_given.ensures.row (λ p. p))

pub walk_stmt-returns-in-Stage-clause-ends : goal.walk_stmt-returns-in-Stage-clause-ends
walk_stmt-returns-in-Stage-clause-ends t c =
    let w = c.in-Stage in
    subst (λ x. IfOk c.goes_on-in-Stage.result (λ b. b ≡ ends x))
    (sym (ap stmt_of w.is ∙ stmt_of-Stage w.state w.field w.value w.span))
    (going_on c.goes_on-in-Stage.result c.walk_given.result c.goes_on-in-Stage.ensures)

pub walk_stmt-returns-in-Change-clause-sites : goal.walk_stmt-returns-in-Change-clause-sites
walk_stmt-returns-in-Change-clause-sites t c =
    let a = around_of c.args.around.now in
    let s = c.args.scope.now in
    let row = names_in c.args.row.now in
    let w = c.in-Change in
    let given = λ (gs : List GivenNode). change_sites a s row (map given_of gs) in
    subst (λ x. OnOk c.goes_on-in-Change.result (c.walk_change.new.least ≡ noted c.args.least.now
    (stmt_sites a s row x))) (sym (ap stmt_of w.is ∙ stmt_of-Change w.state w.given w.span))
    (after_one (c.walk_change.new.least ≡ noted c.note_own_state-in-Change.new.least (given c.as_slice.result.now))
    (c.walk_change.new.least ≡ noted c.args.least.now (names_state a.own w.state ∷ given w.given))
    c.goes_on-in-Change.result c.walk_change.result c.goes_on-in-Change.ensures c.walk_change.ensures
    (λ p. p ∙ ap (λ l. noted l (given c.as_slice.result.now)) c.note_own_state-in-Change.ensures
    ∙ ap (λ gs. noted c.args.least.now (names_state a.own w.state ∷ given gs)) c.as_slice.ensures))

pub walk_stmt-returns-in-Change-clause-ends : goal.walk_stmt-returns-in-Change-clause-ends
walk_stmt-returns-in-Change-clause-ends t c =
    let w = c.in-Change in
    subst (λ x. IfOk c.goes_on-in-Change.result (λ b. b ≡ ends x))
    (sym (ap stmt_of w.is ∙ stmt_of-Change w.state w.given w.span))
    (going_on c.goes_on-in-Change.result c.walk_change.result c.goes_on-in-Change.ensures)
