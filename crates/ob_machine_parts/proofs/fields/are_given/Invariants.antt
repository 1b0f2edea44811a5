use Rattle.std.proofs.Common.{◌≡◌, ℕ, drop}
use Rattle.std.specs.List.{list_all}
use Rattle.ob_base.specs.declared.id.FieldId.{FieldId}
use Rattle.ob_machine_parts.specs.Changes.{is_set, are_given}
use Rattle.ob_machine_parts.specs.Shown.{slots_of}
use Rattle.ob_machine_parts.proofs.fields.are_given.Given as goal

abbrev pub invariant-loop-field : goal.invariant-loop-field
invariant-loop-field l = list_all (λ (g : FieldId × ℕ). is_set (slots_of l.slots) g.1) (drop l.field-index l.given) ≡ are_given (slots_of l.slots) l.given
