use Rattle.std.proofs.Common.{◌≡◌, ◌-◌, length}
use Rattle.ob_silica_kinds.specs.Kinds.{kinds_of}
use Rattle.ob_silica_kinds.proofs.kinds.grow.Given as goal

abbrev pub decreases-loop-slots : goal.decreases-loop-slots
decreases-loop-slots l = l.count - length l.slots

abbrev pub invariant-loop-slots : goal.invariant-loop-slots
invariant-loop-slots l = kinds_of l.slots ≡ kinds_of l.fn.slots
