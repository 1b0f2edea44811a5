use Rattle.std.proofs.Common.{◌≡◌, drop}
use Rattle.ob_verify_spec.specs.Passing.{some_lead_behind}
use Rattle.ob_verify.proofs.known.some_lead_behind.Given as goal

abbrev pub invariant-loop-place : goal.invariant-loop-place
invariant-loop-place l = some_lead_behind 0 l.instructions ≡ some_lead_behind l.place (drop l.place l.instructions)
