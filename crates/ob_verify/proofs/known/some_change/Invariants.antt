use Rattle.std.proofs.Common.{◌≡◌, drop}
use Rattle.ob_verify.specs.Changing.{some_change}
use Rattle.ob_verify.proofs.known.some_change.Given as goal

abbrev pub invariant-loop-place : goal.invariant-loop-place
invariant-loop-place l = some_change l.image l.rows l.left ≡ some_change l.image (drop l.place l.rows) (drop l.place l.left)
