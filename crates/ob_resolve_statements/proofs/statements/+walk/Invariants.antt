use Rattle.std.proofs.Common.{◌≡◌, ◌||◌, [], false, drop}
use Rattle.ob_tree.specs.StmtsView.{stmts_of}
use Rattle.ob_resolve_spec.specs.Reached.{one_ends}
use Rattle.ob_resolve_spec.specs.StatementSites.{stmts_sites}
use Rattle.ob_resolve_scope.specs.Around.{around_of}
use Rattle.ob_resolve_sites.specs.Noted.{noted, names_in}
use Rattle.ob_resolve_statements.specs.Walked.{after_stmts}
use Rattle.ob_resolve_statements.proofs.statements.+walk.Given as goal

abbrev pub invariant-walk_stmts-loop-statement : goal.invariant-walk_stmts-loop-statement
invariant-walk_stmts-loop-statement l = record {
  sites : noted l.least
      (stmts_sites (around_of l.around) l.scope (names_in l.row) l.ended
      (stmts_of (drop l.statement-index l.statements)))
      ≡ noted l.fn.least (stmts_sites (around_of l.around) l.fn.scope [] false (stmts_of l.statements));
  scope : after_stmts (around_of l.around) l.scope (stmts_of (drop l.statement-index l.statements))
      ≡ after_stmts (around_of l.around) l.fn.scope (stmts_of l.statements);
  ends : (l.ended || one_ends (stmts_of (drop l.statement-index l.statements))) ≡ one_ends (stmts_of l.statements);
}
