use Rattle.std.proofs.Common.{◌≡◌, drop}
use Rattle.ob_lanes.specs.Committing.{has_new}
use Rattle.ob_lanes.proofs.stale.has_new.Given as goal

abbrev pub invariant-loop-item : goal.invariant-loop-item
invariant-loop-item l = has_new l.count (drop l.item-index l.objects) ≡ has_new l.count l.objects
