use Rattle.std.proofs.Common.{◌≡◌, map, take}
use Rattle.ob_tree.specs.StmtsView.{given_of}
use Rattle.ob_table.specs.StatementsView.{given_field_of}
use Rattle.ob_resolve_spec.specs.Bodies.{resolved_given}
use Rattle.ob_resolve_scope.specs.Around.{around_of}
use Rattle.ob_resolve_bodies.proofs.statements.resolve_all_given.Given as goal

abbrev pub invariant-loop-one : goal.invariant-loop-one
invariant-loop-one l = map given_field_of l.resolved ≡ map
    (λ g. resolved_given (around_of l.around) l.scope g.field g.value) (map given_of (take l.one-index l.given))
