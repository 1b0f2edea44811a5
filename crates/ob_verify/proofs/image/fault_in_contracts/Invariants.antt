use Rattle.std.proofs.Common.{◌≡◌}
use Rattle.ob_verify_spec.specs.Frames.{frames_from}
use Rattle.ob_verify_spec.specs.Passing.{first_fault_of}
use Rattle.ob_verify.proofs.ImageLoops.{left_in}
use Rattle.ob_verify.proofs.image.fault_in_contracts.Given as goal

abbrev pub invariant-loop-i : goal.invariant-loop-i
invariant-loop-i l = first_fault_of 0 (frames_from l.image 0 l.contracts) ≡ left_in l.image l.first l.i l.contracts
