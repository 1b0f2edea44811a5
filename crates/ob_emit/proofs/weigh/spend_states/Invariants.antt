use Rattle.std.proofs.Common.{◌≡◌, ◌+◌, drop}
use Rattle.ob_weight_laws.specs.Counting.{size_of_states}
use Rattle.ob_emit.proofs.weigh.spend_states.Given as goal

abbrev pub invariant-loop-state : goal.invariant-loop-state
invariant-loop-state l = l.left + size_of_states l.states ≡ l.fn.left + size_of_states (drop l.state-index l.states)
