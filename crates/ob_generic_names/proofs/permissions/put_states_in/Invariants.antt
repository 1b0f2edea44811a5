use Rattle.std.proofs.Common.{◌≡◌, ◌++◌, take}
use Rattle.std.specs.List.{flat_map}
use Rattle.ob_generic_spec.specs.Substitution.{state_in}
use Rattle.ob_generic_names.proofs.permissions.put_states_in.Given as goal

abbrev pub invariant-loop-state : goal.invariant-loop-state
invariant-loop-state l = l.out ≡ l.fn.out ++ flat_map (state_in l.own) (take l.state-index l.states)
