use Rattle.std.proofs.Common.{◌≡◌, map, take}
use Rattle.ob_resolve_scope.specs.Numbered.{numbered}
use Rattle.ob_generic_names.proofs.heads.states_of_heads.Given as goal

abbrev pub invariant-loop-head : goal.invariant-loop-head
invariant-loop-head l = l.all ≡ map (λ h. numbered h.states) (take l.head-index l.heads)
