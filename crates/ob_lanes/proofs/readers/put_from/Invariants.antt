use Rattle.std.proofs.Common.{◌≡◌, map, take}
use Rattle.ob_exec_handles.specs.Spending.{item_of}
use Rattle.ob_lanes.specs.Readers.{objects_of, IsTied, OthersStay}
use Rattle.ob_lanes.proofs.readers.put_from.Given as goal

-- the objects of the items so far are entered
abbrev pub invariant-loop-at : goal.invariant-loop-at
invariant-loop-at l = record {
  so_far : l.entered ≡ objects_of (take l.at (map item_of l.items));
  tied : IsTied l.lists l.lane l.entered;
  others : OthersStay l.lane l.fn.lists l.lists;
}
