use Rattle.std.proofs.Common.{length}
use Rattle.ob_lanes.specs.Readers.{IsWithin, OthersStay}
use Rattle.ob_lanes.proofs.readers.clear.Given as goal

-- the lane is in the lists of what is left, at most
abbrev pub invariant-loop-lists : goal.invariant-loop-lists
invariant-loop-lists l = record {
  within : IsWithin l.lists l.lane l.entered;
  others : OthersStay l.lane l.fn.lists l.lists;
}

abbrev pub decreases-loop-lists : goal.decreases-loop-lists
decreases-loop-lists l = length l.entered
