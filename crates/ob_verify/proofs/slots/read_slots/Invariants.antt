use Rattle.std.proofs.Common.{take}
use Rattle.std.specs.Prelude.{All}
use Rattle.ob_verify.specs.Slots.{AllFitByte}
use Rattle.ob_verify.proofs.slots.read_slots.Given as goal

abbrev pub invariant-loop-own : goal.invariant-loop-own
invariant-loop-own l = All AllFitByte (take l.own-index l.contracts)
