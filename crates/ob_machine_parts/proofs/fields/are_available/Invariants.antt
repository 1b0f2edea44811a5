use Rattle.std.proofs.Common.{◌≡◌, ℕ, drop, Some}
use Rattle.std.specs.List.{list_all}
use Rattle.ob_base.specs.declared.id.FieldId.{FieldId}
use Rattle.ob_code_table.specs.Images.{has_field_code}
use Rattle.ob_machine_steps.specs.Changing.{are_available}
use Rattle.ob_machine_parts.proofs.fields.are_available.Given as goal

abbrev pub invariant-loop-field : goal.invariant-loop-field
invariant-loop-field l = list_all (λ (g : FieldId × ℕ). has_field_code l.own (Some l.state) g.0.0) (drop l.field-index l.given) ≡ are_available l.own l.state l.given
