use Rattle.std.proofs.Common.{◌≡◌, ◌++◌, length, map}
use Rattle.ob_lanes.specs.Standing.{waiting}
use Rattle.ob_lanes.proofs.lanes.entries_of.Given as goal

-- those that are kept, and those that wait to be, are the batch
abbrev pub invariant-loop-batch : goal.invariant-loop-batch
invariant-loop-batch l = l.entries.items ++ map waiting l.batch ≡ map waiting l.fn.batch

abbrev pub decreases-loop-batch : goal.decreases-loop-batch
decreases-loop-batch l = length l.batch
