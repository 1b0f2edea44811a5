use Rattle.std.proofs.Common.{◌≡◌, drop}
use Rattle.ob_verify_spec.specs.Passing.{all_passed}
use Rattle.ob_verify.proofs.known.pass_all.Given as goal

abbrev pub invariant-loop-place : goal.invariant-loop-place
invariant-loop-place l = all_passed l.frame 0 l.frame.body.instructions l.fn.rows ≡ all_passed l.frame l.place (drop l.place l.instructions) l.rows
