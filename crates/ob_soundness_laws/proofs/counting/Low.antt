-- The places of a body are among those that are counted.
use Rattle.std.proofs.Common.{◌≡◌, ℕ, ◌<◌, ◌≤◌, true, false, List, length, Option, Some, None, slice_get, refl, sym, ◌∙◌, subst, arith, true≢false, ⊎_elim}
use Rattle.std.specs.Option.{option_map_or}
use Rattle.std.proofs.lemmas.Bool.{cases_Bool, cases_lt}
use Rattle.std.proofs.lemmas.Option.{slice_get_within, get_or_from_slice_get, none-some}
use Rattle.std.proofs.lemmas.List.Elements.{All-get_or}
use Rattle.ob_base.specs.Limits.{most_slots, most_fields}
use Rattle.ob_base.specs.declared.id.ContractId.{ContractId}
use Rattle.ob_table.specs.Tables.{ClassTable, contract_at}
use Rattle.ob_table.specs.declared.contract.Contract.{Contract}
use Rattle.ob_table.specs.declared.contract.Field.{Field}
use Rattle.ob_table_spec.specs.Conditions.{IsContract, IsClassTable}
use Rattle.ob_heap_spec.specs.Objects.{Object, is_available, has_field}
use Rattle.ob_silica_places.specs.Places.{Location, slot, field}
use Rattle.ob_silica_steps.specs.Cells.{Cell}
use Rattle.ob_silica_steps.specs.Configurations.{SilicaFrame, Notes}
use Rattle.ob_coherent_spec.specs.Counting.{nth_object, field_cell, fields_counted}
use Rattle.ob_coherent_spec.specs.Standing.{IsObjectInRun}
use Rattle.ob_coherent_spec.specs.Remaining.{BodyParts, body_of, IsPlaceIn}
use Rattle.ob_coherent_spec.specs.Waiting.{IsFrame}
use Rattle.ob_soundness_laws.proofs.counting.Objects.{no_field_cell}
use Rattle.ob_soundness_laws.proofs.counting.Places.{few_fields}
use Rattle.ob_soundness_laws.proofs.counting.Writing.{IsLow}

-- each contract of a class table has few fields
pub contract_fields : (table : ClassTable) → IsClassTable table → (id : ContractId) (own : Contract)
    → contract_at table id ≡ Some own → length own.fields ≤ most_fields
contract_fields table conditions id own at =
    let own_is : IsContract table own = subst (IsContract table) (get_or_from_slice_get table.contracts id.0 own own at)
    (All-get_or (IsContract table) table.contracts id.0 own (slice_get_within table.contracts id.0 own at)
    conditions.contracts) in
    own_is.few_fields

-- a field of a contract is among those that are counted
pub contract_field_low : (table : ClassTable) → IsClassTable table → (id : ContractId) (own : Contract)
    → contract_at table id ≡ Some own → (k : ℕ) → k < length own.fields → k < fields_counted
contract_field_low table conditions id own at k below =
    few_fields k (omega (arith, below, contract_fields table conditions id own at))

-- a place of a frame's body
pub place_low : (table : ClassTable) → IsClassTable table
    → (objects : List Object) (f : SilicaFrame) (parts : BodyParts)
    → IsFrame table objects f parts → (p : Location) → IsPlaceIn (body_of table f parts) p → IsLow p
place_low table conditions objects f parts frame (slot k) inside = omega (arith, inside, frame.few)
place_low table conditions objects f parts frame (field k) inside =
    contract_field_low table conditions f.contract parts.own frame.own k inside

-- a slot of a parameter
pub parameter_low : (table : ClassTable) (objects : List Object) (f : SilicaFrame) (parts : BodyParts)
    → IsFrame table objects f parts
    → (k : ℕ) → k ≤ length parts.signature.params → k < most_slots
parameter_low table objects f parts frame k inside = omega (arith, inside, frame.params, frame.few)

-- a slot that is set
pub set_slot_low : (table : ClassTable) (objects : List Object) (f : SilicaFrame) (parts : BodyParts)
    → IsFrame table objects f parts
    → (k : ℕ) (x : Cell) → f.slots k ≡ Some x → k < most_slots
set_slot_low table objects f parts frame k x set =
    ⊎_elim (λ below. omega (arith, below, frame.few)) (λ past. absurd (none-some x (sym (frame.unset k past) ∙ set)))
    (cases_lt k parts.slots)

-- a field that has a value
pub field_low : (table : ClassTable) → IsClassTable table → (notes : Notes) (objects : List Object) (n : ℕ)
    → IsObjectInRun table notes n (nth_object objects n) → (k : ℕ) (x : Cell) → field_cell notes objects n k
    ≡ Some x → k < fields_counted
field_low table conditions notes objects n object k x e = ⊎_elim
    (λ has. let f = some_field (slice_get object.own.fields k) has in
    contract_field_low table conditions (nth_object objects n).contract object.own object.contract k
    (slice_get_within object.own.fields k f.0 f.1))
    (λ none. absurd (none-some x (sym (no_field_cell notes objects n k (object.fields k none)) ∙ e)))
    (cases_Bool (has_field object.own (nth_object objects n).state k))
  where
    some_field : (x : Option Field) → option_map_or (is_available (nth_object objects n).state) x false
        ≡ true → (f : Field) × (x ≡ Some f)
    some_field None e = absurd (true≢false (sym e))
    some_field (Some f) e = (f, refl)
