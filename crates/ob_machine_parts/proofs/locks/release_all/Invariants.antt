use Rattle.std.proofs.Common.{◌≡◌, length}
use Rattle.ob_machine_parts.specs.Guarding.{all_released}
use Rattle.ob_machine_parts.specs.Shown.{tests_of}
use Rattle.ob_machine_parts.proofs.locks.release_all.Given as goal

abbrev pub invariant-loop-lock : goal.invariant-loop-lock
invariant-loop-lock l = all_released (tests_of l.tests) l.guard ≡ all_released (tests_of l.fn.tests) l.fn.guard

abbrev pub decreases-loop-lock : goal.decreases-loop-lock
decreases-loop-lock l = length (tests_of l.tests)
