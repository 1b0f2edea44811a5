use Rattle.std.proofs.Common.{◌≡◌, ◌++◌, length, take, drop}
use Rattle.ob_verify_spec.specs.Passing.{merged}
use Rattle.ob_verify.proofs.known.merge.Given as goal

abbrev pub invariant-loop-place : goal.invariant-loop-place
invariant-loop-place l = record {
  many : length l.rows ≡ l.place-end;
  as_many : length l.left ≡ l.place-end;
  merged : merged l.image l.fn.rows l.fn.left ≡ take l.place l.rows ++ merged l.image (drop l.place l.rows) (drop l.place l.left);
}
