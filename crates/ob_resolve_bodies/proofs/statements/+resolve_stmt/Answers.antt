use Rattle.std.proofs.Common.{◌≡◌, IfOk, map, ap, sym, subst, ◌∙◌}
use Rattle.ob_tree.specs.ExprsView.{expr_of}
use Rattle.ob_tree.specs.StmtsView.{block_of, else_of, stmt_of, stmt_of-Test, stmt_of-If, stmt_of-While}
use Rattle.ob_table.specs.Statements.{resolved_test, resolved_if, resolved_while}
use Rattle.ob_table.specs.ExpressionsView.{expression_of}
use Rattle.ob_table.specs.StatementsView.{statement_of, resolved_block_of, otherwise_of}
use Rattle.ob_resolve_spec.specs.Kinds.{contract_of_kind}
use Rattle.ob_resolve_spec.specs.Numbers.{state_id}
use Rattle.ob_resolve_spec.specs.Scopes.{kind_of_subject, past, after_stmt, locals_in_block, locals_in_else}
use Rattle.ob_resolve_spec.specs.Bodies.{seen_subject, resolved_expr, resolved_stmt, block_resolved, else_resolved}
use Rattle.ob_resolve_scope.specs.Around.{around_of}
use Rattle.ob_resolve_bodies.proofs.BranchLemmas.{after_branches, after_loop, test_made, if_made, while_made}
use Rattle.ob_resolve_bodies.proofs.ResolvedLemmas.{stmts_turn, stmts_all, scope_turn}
use Rattle.ob_resolve_bodies.proofs.ScopeLemmas.{past-past}
use Rattle.ob_resolve_bodies.proofs.statements.+resolve_stmt.Goals as goal

pub resolve_stmts-loop-statement-preserved : goal.resolve_stmts-loop-statement-preserved
resolve_stmts-loop-statement-preserved t c =
    let a = around_of c.args.around.now in
    let l = c.loop-statement in
    let one = c.in_ok-resolve_stmt in
    record {
      value = rw (c.in_ok-push.ensures.ok, one.ensures.scope)
          (stmts_turn a l.scope l.resolved one.field-0 c.args.statements.now l.statement-index c.statement-item.result
          c.loop-statement-test.true c.statement-item.is one.ensures.value ∙ l.invariant.value);
      scope = rw one.ensures.scope (scope_turn a l.scope c.args.statements.now l.statement-index c.statement-item.result
          c.loop-statement-test.true c.statement-item.is ∙ l.invariant.scope);
    }

pub resolve_stmts-returns-clause-value : goal.resolve_stmts-returns-clause-value
resolve_stmts-returns-clause-value t c =
    let l = c.loop-statement in
    stmts_all (around_of c.args.around.now) l.scope (map statement_of l.resolved) c.args.statements.now
    l.statement-index c.loop-statement-test.false ∙ l.invariant.value

pub resolve_stmt-returns-in-Test-clause-value : goal.resolve_stmt-returns-in-Test-clause-value
resolve_stmt-returns-in-Test-clause-value t c =
    let a = around_of c.args.around.now in
    let s = c.args.scope.now in
    let w = c.in-Test in
    let branch = c.resolve_block-then in
    let other = c.resolve_else-otherwise in
    subst (λ x. IfOk c.test_with.result (λ y. statement_of y ≡ resolved_stmt a s x)) (sym (ap stmt_of w.is ∙ stmt_of-Test w.subject w.state w.then w.otherwise w.span))
    (test_made c.test_with.result c.resolve_tested-tested.result branch.result other.result (seen_subject a s w.subject)
    (state_id (contract_of_kind a.program (kind_of_subject a s w.subject)) w.state.name)
    (block_resolved a s (block_of w.then)) (λ u. else_resolved a u (else_of w.otherwise)) branch.new.scope
    (past s (locals_in_block (block_of w.then))) w.span c.test_with.ensures c.resolve_tested-tested.ensures.subject
    c.resolve_tested-tested.ensures.state branch.ensures.value
    branch.ensures.scope other.ensures.value)

pub resolve_stmt-returns-in-Test-clause-scope : goal.resolve_stmt-returns-in-Test-clause-scope
resolve_stmt-returns-in-Test-clause-scope t c =
    let a = around_of c.args.around.now in
    let s = c.args.scope.now in
    let w = c.in-Test in
    let branch = c.resolve_block-then in
    let other = c.resolve_else-otherwise in
    let m = locals_in_block (block_of w.then) in
    let n = locals_in_else (else_of w.otherwise) in
    after_branches (branch.new.scope ≡ past s m) (other.new.scope ≡ past branch.new.scope n)
    (other.new.scope ≡ after_stmt a s (stmt_of c.args.statement.now)) c.test_with.result c.resolve_tested-tested.result branch.result
    other.result (λ x t b o. statement_of x ≡ resolved_test t.0 t.1 (resolved_block_of b) (otherwise_of o) w.span) c.test_with.ensures branch.ensures.scope other.ensures.scope
    (λ p q. q ∙ ap (λ u. past u n) p ∙ past-past s m n ∙ sym (ap (after_stmt a s) (ap stmt_of w.is
    ∙ stmt_of-Test w.subject w.state w.then w.otherwise w.span)))

pub resolve_stmt-returns-in-If-clause-value : goal.resolve_stmt-returns-in-If-clause-value
resolve_stmt-returns-in-If-clause-value t c =
    let a = around_of c.args.around.now in
    let s = c.args.scope.now in
    let w = c.in-If in
    let branch = c.resolve_block-then-in-If in
    let other = c.resolve_else-otherwise-in-If in
    subst (λ x. IfOk c.if_with.result (λ y. statement_of y ≡ resolved_stmt a s x)) (sym (ap stmt_of w.is ∙ stmt_of-If w.condition w.then w.otherwise w.span))
    (if_made c.if_with.result c.resolve_expr-condition.result branch.result other.result (resolved_expr a s (expr_of w.condition))
    (block_resolved a s (block_of w.then)) (λ u. else_resolved a u (else_of w.otherwise)) branch.new.scope
    (past s (locals_in_block (block_of w.then))) w.span c.if_with.ensures c.resolve_expr-condition.ensures branch.ensures.value
    branch.ensures.scope other.ensures.value)

pub resolve_stmt-returns-in-If-clause-scope : goal.resolve_stmt-returns-in-If-clause-scope
resolve_stmt-returns-in-If-clause-scope t c =
    let a = around_of c.args.around.now in
    let s = c.args.scope.now in
    let w = c.in-If in
    let branch = c.resolve_block-then-in-If in
    let other = c.resolve_else-otherwise-in-If in
    let m = locals_in_block (block_of w.then) in
    let n = locals_in_else (else_of w.otherwise) in
    after_branches (branch.new.scope ≡ past s m) (other.new.scope ≡ past branch.new.scope n)
    (other.new.scope ≡ after_stmt a s (stmt_of c.args.statement.now)) c.if_with.result c.resolve_expr-condition.result branch.result
    other.result (λ x e b o. statement_of x ≡ resolved_if (expression_of e) (resolved_block_of b) (otherwise_of o) w.span) c.if_with.ensures branch.ensures.scope other.ensures.scope
    (λ p q. q ∙ ap (λ u. past u n) p ∙ past-past s m n ∙ sym (ap (after_stmt a s) (ap stmt_of w.is
    ∙ stmt_of-If w.condition w.then w.otherwise w.span)))

pub resolve_stmt-returns-in-While-clause-value : goal.resolve_stmt-returns-in-While-clause-value
resolve_stmt-returns-in-While-clause-value t c =
    let a = around_of c.args.around.now in
    let s = c.args.scope.now in
    let w = c.in-While in
    let condition = c.resolve_expr-condition-in-While in
    let body = c.resolve_block-body in
    subst (λ x. IfOk c.while_with.result (λ y. statement_of y ≡ resolved_stmt a s x)) (sym (ap stmt_of w.is ∙ stmt_of-While w.condition w.body w.span))
    (while_made c.while_with.result condition.result body.result (resolved_expr a s (expr_of w.condition))
    (block_resolved a s (block_of w.body)) w.span c.while_with.ensures condition.ensures body.ensures.value)

pub resolve_stmt-returns-in-While-clause-scope : goal.resolve_stmt-returns-in-While-clause-scope
resolve_stmt-returns-in-While-clause-scope t c =
    let a = around_of c.args.around.now in
    let s = c.args.scope.now in
    let w = c.in-While in
    let body = c.resolve_block-body in
    after_loop (body.new.scope ≡ past s (locals_in_block (block_of w.body)))
    (body.new.scope ≡ after_stmt a s (stmt_of c.args.statement.now)) c.while_with.result
    c.resolve_expr-condition-in-While.result body.result
    (λ x e b. statement_of x ≡ resolved_while (expression_of e) (resolved_block_of b) w.span) c.while_with.ensures
    body.ensures.scope (λ p. p ∙ sym (ap (after_stmt a s) (ap stmt_of w.is ∙ stmt_of-While w.condition w.body w.span)))
