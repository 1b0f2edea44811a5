use Rattle.std.proofs.Common.{◌≡◌, map, take}
use Rattle.ob_lanes.specs.Readers.{objects_read, freed_by_all}
use Rattle.ob_lanes.proofs.stale.reopen_by_all.Given as goal

-- the objects so far have opened requests again
abbrev pub invariant-loop-item : goal.invariant-loop-item
invariant-loop-item l = record {
  so_far : l.lanes ≡ map (freed_by_all (take l.item-index l.objects)) l.fn.lanes;
  entered : l.readers ≡ map objects_read l.lanes;
}
