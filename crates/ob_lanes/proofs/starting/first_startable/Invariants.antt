use Rattle.std.proofs.Common.{◌≡◌, drop}
use Rattle.ob_lanes.specs.Starting.{first_from}
use Rattle.ob_lanes.proofs.starting.first_startable.Given as goal

abbrev pub invariant-loop-at : goal.invariant-loop-at
invariant-loop-at l = first_from l.entries l.lanes l.at (drop l.at l.entries) ≡ first_from l.entries l.lanes 0 l.entries
