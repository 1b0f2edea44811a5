use Rattle.std.proofs.Common.{◌≡◌, drop}
use Rattle.ob_verify.proofs.ListLoops.{same}
use Rattle.ob_verify.proofs.answers.same_params.Given as goal

abbrev pub invariant-loop-i : goal.invariant-loop-i
invariant-loop-i l = same l.asked l.given ≡ same (drop l.i l.asked) (drop l.i l.given)
