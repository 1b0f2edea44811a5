use Rattle.std.proofs.Common.{◌≡◌, drop, map}
use Rattle.std.specs.List.{list_any}
use Rattle.ob_exec_handles.specs.Spending.{item_of}
use Rattle.ob_lanes.specs.Readers.{is_other_changed}
use Rattle.ob_lanes.proofs.stale.is_one_changed.Given as goal

abbrev pub invariant-loop-item : goal.invariant-loop-item
invariant-loop-item l = list_any (is_other_changed l.before l.delta) (map item_of (drop l.item-index l.items)) ≡ list_any (is_other_changed l.before l.delta) (map item_of l.items)
