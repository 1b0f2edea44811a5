use Rattle.std.proofs.Common.{◌≡◌, ◌-◌, ◌≤◌, length, map, take}
use Rattle.ob_exec_handles.specs.Spending.{item_of}
use Rattle.ob_lanes.specs.Readers.{objects_of}
use Rattle.ob_lanes.proofs.readers.known.Given as goal

-- the items so far have just the objects that were found
abbrev pub invariant-loop-found : goal.invariant-loop-found
invariant-loop-found l = record {
  so_far : take l.found l.objects ≡ objects_of (take l.at (map item_of l.items));
  within : l.found ≤ length l.objects;
  items : l.at ≤ length l.items;
}

abbrev pub decreases-loop-found : goal.decreases-loop-found
decreases-loop-found l = length l.items - l.at
