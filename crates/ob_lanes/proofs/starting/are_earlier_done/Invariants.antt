use Rattle.std.proofs.Common.{◌≡◌, drop}
use Rattle.ob_lanes.specs.Starting.{are_earlier_done}
use Rattle.ob_lanes.proofs.starting.are_earlier_done.Given as goal

abbrev pub invariant-loop-at : goal.invariant-loop-at
invariant-loop-at l = are_earlier_done l.who l.number l.at (drop l.at l.entries) ≡ are_earlier_done l.who l.number 0 l.entries
