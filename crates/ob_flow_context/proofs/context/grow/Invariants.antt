use Rattle.std.proofs.Common.{◌≡◌, ◌-◌, length}
use Rattle.ob_flow_context.specs.View.{known_at}
use Rattle.ob_flow_context.proofs.context.grow.Given as goal

abbrev pub decreases-loop-known : goal.decreases-loop-known
decreases-loop-known l = l.count - length l.known

abbrev pub invariant-loop-known : goal.invariant-loop-known
invariant-loop-known l = known_at l.known ≡ known_at l.fn.known
