use Rattle.std.proofs.Common.{◌≡◌, ℕ, drop}
use Rattle.std.specs.List.{list_all}
use Rattle.ob_machine_parts.specs.Arguments.{are_set}
use Rattle.ob_machine_parts.specs.Changes.{is_set}
use Rattle.ob_machine_parts.specs.Shown.{slots_of}
use Rattle.ob_machine_parts.proofs.slots.are_set.Given as goal

abbrev pub invariant-loop-slot : goal.invariant-loop-slot
invariant-loop-slot l = list_all (λ (k : ℕ). is_set (slots_of l.slots) k) (drop l.slot-index l.args) ≡ are_set (slots_of l.slots) l.args
