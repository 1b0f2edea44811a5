use Rattle.std.proofs.Common.{◌≡◌, drop}
use Rattle.ob_lanes.specs.Starting.{are_all_done}
use Rattle.ob_lanes.proofs.starting.are_all_done.Given as goal

abbrev pub invariant-loop-entry : goal.invariant-loop-entry
invariant-loop-entry l = are_all_done (drop l.entry-index l.entries) ≡ are_all_done l.entries
