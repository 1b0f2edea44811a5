use Rattle.std.proofs.Common.{◌≡◌, drop}
use Rattle.std.specs.Prelude.{is_some}
use Rattle.std.specs.List.{list_all}
use Rattle.ob_resolve_scope.specs.Numbered.{find}
use Rattle.ob_resolve_scope.proofs.types.are_named.Given as goal

abbrev pub invariant-loop-state : goal.invariant-loop-state
invariant-loop-state l =
    list_all (λ s. is_some (find s.name l.names)) (drop l.state-index l.states)
    ≡ list_all (λ s. is_some (find s.name l.names)) l.states
