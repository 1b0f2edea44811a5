use Rattle.std.proofs.Common.{◌≡◌, ◌++◌, map, take, drop}
use Rattle.ob_lanes.specs.Readers.{objects_read, freed_by_others}
use Rattle.ob_lanes.proofs.stale.reopen_each.Given as goal

-- the lanes so far are done
abbrev pub invariant-loop-lane : goal.invariant-loop-lane
invariant-loop-lane l = record {
  so_far : l.lanes ≡ map (freed_by_others l.before l.delta) (take l.lane l.fn.lanes) ++ drop l.lane l.fn.lanes;
  entered : l.readers ≡ map objects_read l.lanes;
}
