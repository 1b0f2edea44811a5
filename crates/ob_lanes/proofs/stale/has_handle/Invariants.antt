use Rattle.std.proofs.Common.{◌≡◌, drop}
use Rattle.ob_lanes.specs.Committing.{has_handle}
use Rattle.ob_lanes.proofs.stale.has_handle.Given as goal

abbrev pub invariant-loop-item : goal.invariant-loop-item
invariant-loop-item l = has_handle (record { who = l.who; name = l.name }) (drop l.item-index l.handles) ≡ has_handle (record { who = l.who; name = l.name }) l.handles
