-- The calls so far took a front of the range.
use Rattle.std.proofs.Common.{◌≡◌, ◌≤◌, List, length, take}
use Rattle.ob_io_std.specs.Calls.{Call, Adds, read}
use Rattle.ob_io_std.specs.Ranges.{Cover}
use Rattle.ob_io_std.proofs.ranges.read_range.Given as goal

abbrev pub invariant-pieces : goal.invariant-pieces
invariant-pieces g l = record {
  calls : List Call;
  within : l.done ≤ length l.into;
  same : length l.into ≡ length l.fn.into;
  cover : Cover read l.at (take l.done l.into) calls;
  adds : Adds (g.F.SystemFile.calls l.fn.file) (g.F.SystemFile.calls l.file) calls;
}
