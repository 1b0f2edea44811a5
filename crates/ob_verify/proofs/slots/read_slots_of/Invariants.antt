use Rattle.std.proofs.Common.{take}
use Rattle.std.specs.Prelude.{All}
use Rattle.ob_verify.specs.Slots.{FitsByte}
use Rattle.ob_verify.proofs.slots.read_slots_of.Given as goal

abbrev pub invariant-loop-body : goal.invariant-loop-body
invariant-loop-body l = All FitsByte (take l.body-index l.bodies)
