use Rattle.std.proofs.Common.{◌≡◌, drop}
use Rattle.ob_verify_spec.specs.Passing.{first_fault, first_fault_from}
use Rattle.ob_verify.proofs.pass.first_fault.Given as goal

abbrev pub invariant-loop-place : goal.invariant-loop-place
invariant-loop-place l = first_fault l.frame ≡ first_fault_from l.frame l.place (drop l.place l.instructions) l.rows.items
