use Rattle.std.proofs.Common.{◌≡◌, ◌++◌, length, take, drop}
use Rattle.ob_verify_spec.specs.Passing.{meet}
use Rattle.ob_verify.proofs.rows.meet_with.Given as goal

abbrev pub invariant-loop-slot : goal.invariant-loop-slot
invariant-loop-slot l = record {
  many : length l.row ≡ l.slot-end;
  met : meet l.image l.fn.row l.other ≡ take l.slot l.row ++ meet l.image (drop l.slot l.row) (drop l.slot l.other);
}
