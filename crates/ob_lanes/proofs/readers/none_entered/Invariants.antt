use Rattle.std.proofs.Common.{◌≡◌, [], replicate}
use Rattle.ob_lanes.proofs.readers.none_entered.Given as goal

abbrev pub invariant-loop-lane : goal.invariant-loop-lane
invariant-loop-lane l = l.entered.items ≡ replicate l._lane []
