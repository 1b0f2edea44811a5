use Rattle.std.proofs.Common.{◌≡◌, take, map}
use Rattle.ob_tree.specs.MembersView.{contract_of}
use Rattle.ob_perm.specs.Masks.{states_of}
use Rattle.ob_resolve_spec.specs.Declarations.{state_names}
use Rattle.ob_resolve_spec.specs.Numbers.{numbers_of_states}
use Rattle.ob_resolve_bodies.proofs.permissions.states_named.Given as goal

abbrev pub invariant-loop-name : goal.invariant-loop-name
invariant-loop-name l = states_of l.states ≡ numbers_of_states (state_names (contract_of l.node))
    (map (λ s. s.name) (take l.name-index l.names))
