use Rattle.std.proofs.Common.{◌≡◌, drop}
use Rattle.ob_verify.specs.Changing.{row_changes}
use Rattle.ob_verify.proofs.known.row_changes.Given as goal

abbrev pub invariant-loop-slot : goal.invariant-loop-slot
invariant-loop-slot l = row_changes l.image l.known l.other ≡ row_changes l.image (drop l.slot l.known) (drop l.slot l.other)
