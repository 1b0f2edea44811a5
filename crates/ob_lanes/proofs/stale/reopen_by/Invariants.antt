use Rattle.std.proofs.Common.{◌≡◌, map}
use Rattle.std.specs.List.{sum_by}
use Rattle.ob_lanes.specs.Readers.{objects_read, freed_by, IsReader}
use Rattle.ob_lanes.proofs.StaleLemmas.{one_if}
use Rattle.ob_lanes.proofs.stale.reopen_by.Given as goal

-- what is left to do leads to the same lanes, and one of those that are left is known
abbrev pub invariant-loop-reader : goal.invariant-loop-reader
invariant-loop-reader l = record {
  same : map (freed_by l.object) l.lanes ≡ map (freed_by l.object) l.fn.lanes;
  entered : l.readers ≡ map objects_read l.lanes;
  reader : IsReader l.object l.readers l.reader;
}

abbrev pub decreases-loop-reader : goal.decreases-loop-reader
decreases-loop-reader l = sum_by (one_if l.object) l.readers
