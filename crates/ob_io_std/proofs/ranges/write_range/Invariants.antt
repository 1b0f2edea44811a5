-- The calls so far wrote a front of the bytes.
use Rattle.std.proofs.Common.{◌≤◌, List, length, take}
use Rattle.ob_io_std.specs.Calls.{Call, Adds, written}
use Rattle.ob_io_std.specs.Ranges.{Cover}
use Rattle.ob_io_std.proofs.ranges.write_range.Given as goal

abbrev pub invariant-pieces : goal.invariant-pieces
invariant-pieces g l = record {
  calls : List Call;
  within : l.done ≤ length l.bytes;
  cover : Cover written l.at (take l.done l.bytes) calls;
  adds : Adds (g.F.SystemFile.calls l.fn.file) (g.F.SystemFile.calls l.file) calls;
}
