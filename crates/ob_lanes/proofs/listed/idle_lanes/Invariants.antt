use Rattle.std.proofs.Common.{◌≡◌, None, replicate}
use Rattle.ob_lanes.proofs.listed.idle_lanes.Given as goal

abbrev pub invariant-loop-lane : goal.invariant-loop-lane
invariant-loop-lane l = l.lanes.items ≡ replicate l._lane None
