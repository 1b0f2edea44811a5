use Rattle.std.proofs.Common.{◌≡◌, ◌++◌, take}
use Rattle.ob_generic_spec.specs.Substitution.{states_at}
use Rattle.ob_generic_names.proofs.permissions.put_states_at.Given as goal

abbrev pub invariant-loop-state : goal.invariant-loop-state
invariant-loop-state l = l.out ≡ l.fn.out ++ states_at l.span (take l.state-index l.states)
