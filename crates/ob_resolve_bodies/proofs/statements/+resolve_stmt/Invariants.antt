use Rattle.std.proofs.Common.{◌≡◌, map, drop}
use Rattle.ob_tree.specs.StmtsView.{stmts_of}
use Rattle.ob_table.specs.StatementsView.{statement_of}
use Rattle.ob_resolve_spec.specs.Bodies.{resolved_stmts}
use Rattle.ob_resolve_scope.specs.Around.{around_of}
use Rattle.ob_resolve_bodies.specs.Resolved.{before_statements, after_stmts}
use Rattle.ob_resolve_bodies.proofs.statements.+resolve_stmt.Given as goal

abbrev pub invariant-resolve_stmts-loop-statement : goal.invariant-resolve_stmts-loop-statement
invariant-resolve_stmts-loop-statement l = record {
  value : before_statements (map statement_of l.resolved)
      (resolved_stmts (around_of l.around) l.scope (stmts_of (drop l.statement-index l.statements)))
      ≡ resolved_stmts (around_of l.around) l.fn.scope (stmts_of l.statements);
  scope : after_stmts (around_of l.around) l.scope (stmts_of (drop l.statement-index l.statements))
      ≡ after_stmts (around_of l.around) l.fn.scope (stmts_of l.statements);
}
