use Rattle.std.proofs.Common.{◌≡◌, ◌+◌, drop}
use Rattle.ob_verify_spec.specs.Passing.{first_fault_of}
use Rattle.ob_verify.specs.Bodies.{frames_in}
use Rattle.ob_verify.proofs.ImageLoops.{left_of}
use Rattle.ob_verify.proofs.image.fault_in_contract.Given as goal

abbrev pub invariant-loop-i : goal.invariant-loop-i
invariant-loop-i l = first_fault_of l.first (frames_in l.image l.here l.own) ≡ left_of l.image l.here l.own (l.first + l.i) (drop l.i l.bodies)
