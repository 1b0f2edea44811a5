-- So many of the names mean other files.
use Rattle.std.proofs.Common.{◌≤◌, ◌-◌, List, length, take, map}
use Rattle.ob_io_std.specs.Calls.{Call, Adds, AddsSome}
use Rattle.ob_io_std.specs.Taking.{MeanOthers, AreLooks}
use Rattle.ob_io_std.proofs.taking.mean_others.Given as goal

abbrev pub invariant-names : goal.invariant-names
invariant-names g l = record {
  calls : List Call;
  within : l.at ≤ length l.names;
  others : MeanOthers l.own (map (λ name. name.now) (take l.at l.names)) calls;
  adds : Adds (g.F.SystemFile.calls l.fn.file) (g.F.SystemFile.calls l.file) calls;
  looked : AddsSome (g.F.SystemFile.calls l.fn.file) (g.F.SystemFile.calls l.file) AreLooks;
}

abbrev pub decreases-names : goal.decreases-names
decreases-names g l = length l.names - l.at
