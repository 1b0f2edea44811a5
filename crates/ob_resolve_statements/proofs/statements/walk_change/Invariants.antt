use Rattle.std.proofs.Common.{◌≡◌, drop, map}
use Rattle.ob_tree.specs.StmtsView.{given_of}
use Rattle.ob_resolve_spec.specs.StatementSites.{change_sites}
use Rattle.ob_resolve_scope.specs.Around.{around_of}
use Rattle.ob_resolve_sites.specs.Noted.{noted, names_in}
use Rattle.ob_resolve_statements.proofs.statements.walk_change.Given as goal

abbrev pub invariant-loop-one : goal.invariant-loop-one
invariant-loop-one l =
    noted l.least (change_sites (around_of l.around) l.scope (names_in l.row) (map given_of (drop l.one-index l.given)))
    ≡ noted l.fn.least (change_sites (around_of l.around) l.scope (names_in l.fn.row) (map given_of l.given))
