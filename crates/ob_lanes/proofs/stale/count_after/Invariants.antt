use Rattle.ob_lanes.proofs.Counting.{AreCounted}
use Rattle.ob_lanes.proofs.stale.count_after.Given as goal

-- the handles so far are counted
abbrev pub invariant-loop-entry : goal.invariant-loop-entry
invariant-loop-entry l = AreCounted l.before.handles l.handles l.entry-index l.count
