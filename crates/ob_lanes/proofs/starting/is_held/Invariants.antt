use Rattle.std.proofs.Common.{◌≡◌, drop}
use Rattle.ob_lanes.specs.Starting.{is_held}
use Rattle.ob_lanes.proofs.starting.is_held.Given as goal

abbrev pub invariant-loop-lane : goal.invariant-loop-lane
invariant-loop-lane l = is_held l.number (drop l.lane-index l.lanes) ≡ is_held l.number l.lanes
