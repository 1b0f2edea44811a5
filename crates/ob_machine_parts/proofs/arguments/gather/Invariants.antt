use Rattle.std.proofs.Common.{◌≡◌, drop}
use Rattle.ob_machine_parts.specs.Arguments.{gathered}
use Rattle.ob_machine_parts.specs.Shown.{slots_of}
use Rattle.ob_machine_parts.proofs.arguments.gather.Given as goal

abbrev pub invariant-loop-slot : goal.invariant-loop-slot
invariant-loop-slot l = gathered (slots_of l.slots) (drop l.slot-index l.args) (slots_of l.gathered.items) ≡ gathered (slots_of l.slots) l.args (slots_of l.fn.out.items)
