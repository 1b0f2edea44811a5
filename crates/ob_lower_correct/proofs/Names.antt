-- The names of a body, and where their values stand.
use Rattle.std.proofs.Common.{◌≡◌, ◌≢◌, ℕ, Bool, true, false, ◌&&◌, List, Option, Some, None, refl, sym, ap, ◌∙◌}
use Rattle.std.specs.Prelude.{option_map, option_and_then, is_some, if◌then◌else◌}
use Rattle.std.specs.Option.{option_map_or}
use Rattle.ob_table.specs.Tables.{ClassTable, contract_at}
use Rattle.ob_table.specs.declared.seen.Seen.{Seen}
use Rattle.ob_table.specs.declared.seen.Seen.TheVariants.{This as ThisSeen, Local, Field as FieldSeen}
use Rattle.ob_table_spec.specs.WellFormed.{local_kind, kind_of_seen, is_reference}
use Rattle.ob_heap_spec.specs.Values.{Value}
use Rattle.ob_heap_spec.specs.Objects.{has_field}
use Rattle.ob_heap_spec.specs.Contents.{object_at}
use Rattle.ob_source_meaning.specs.Frames as meaning
use Rattle.ob_heap_spec.specs.GoingWrong.{is_readable}
use Rattle.ob_source_meaning.specs.Naming.{value_of_field, value_seen, kind_seen}
use Rattle.ob_silica.specs.declared.place.Place.{Place}
use Rattle.ob_silica.specs.declared.place.Place.TheVariants.{This, Slot, Field}
use Rattle.ob_silica_steps.specs.Cells.{Cell, value_in}
use Rattle.ob_silica_places.specs.Places.{field, location_of}
use Rattle.ob_silica_steps.specs.Configurations.{SlotCells}
use Rattle.ob_silica_steps.specs.Here.{Here, self, field_value, read}
use Rattle.ob_lower_spec.specs.Forms.{SlotVariable, locals_of, slot_of, place_seen}
use Rattle.ob_lower_correct.proofs.Slots.{Used}
use Rattle.ob_lower_correct.proofs.Standing.{Setting, frame_in, made_in, shape, Kept, Stands, this_value, self_is, none_some, some_same, same_value}

-- a visible variable: its value stands in its slot, with its kind if it is that of a reference
pub record Held (vs : List SlotVariable) (used : List ℕ) (ls : meaning.Locals) (s : SlotCells) (n k : ℕ) : Type 0 where
  pub variable : meaning.SourceVariable
  pub is : ls.variables n ≡ Some variable
  pub kind : local_kind (locals_of vs) n ≡ Some variable.kind
  pub inside : Used k used
  pub apart : 0 ≢ k
  pub value : value_in (s k) ≡ Some variable.value
  pub noted : is_reference variable.kind ≡ true → shape (s k) ≡ Some (variable.value, variable.kind)

-- each variable that is visible has its value in its slot
pub record Visible (vs : List SlotVariable) (used : List ℕ) (ls : meaning.Locals) (s : SlotCells) : Type 0 where
  pub by : (n k : ℕ) → slot_of vs n ≡ Some k → Held vs used ls s n k

pub visible_on : {vs : List SlotVariable} {used : List ℕ} {ls : meaning.Locals} {s t : SlotCells} → Visible vs used ls s → Kept used s t → Visible vs used ls t
visible_on {s = s} {t = t} v k = record {
  by = λ n j e. let h = v.by n j e in record {
    variable = h.variable;
    is = h.is;
    kind = h.kind;
    inside = h.inside;
    apart = h.apart;
    value = same_value (t j) (s j) (k.by j h.inside) ∙ h.value;
    noted = λ r. k.by j h.inside ∙ h.noted r;
  };
}

readable : (b : Bool) (x : Option Value) → (if b && is_some x then x else None) ≡ (if b then x else None)
readable true (Some v) = refl
readable true None = refl
readable false x = refl

value_of_read : (x : Option Value) (f : Value → Cell) → ((v : Value) → (f v).value ≡ v) → value_in (option_map f x) ≡ x
value_of_read None f e = refl
value_of_read (Some v) f e = ap Some (e v)

module _ (table : ClassTable) (most : ℕ) where
  pub field_read : (s : Setting) (h : Here) (k : ℕ) → contract_at table s.here ≡ Some s.own → Stands table most s h
      → value_in (read table h (field k)) ≡ value_of_field (frame_in table s) h.world k
  field_read s h k found st =
      value_of_read (option_and_then (λ o. field_value table o k) (self h)) _ (λ v. refl)
      ∙ ap (λ n. option_and_then (λ o. field_value table o k) (object_at h.world.objects n)) (self_is table most st)
      ∙ ap (option_and_then (λ o. field_value table o k)) st.object.1
      ∙ ap (λ c. if option_map_or (λ x. has_field x st.object.0.state k) c false then st.object.0.fields k else None) (ap (contract_at table) st.object.2 ∙ found)
      ∙ sym (readable (has_field s.own st.object.0.state k) (st.object.0.fields k))
      ∙ sym (ap (option_and_then (λ o. if is_readable s.own o k then o.fields k else None)) st.object.1)

  slot_read : (vs : List SlotVariable) (used : List ℕ) (ls : meaning.Locals) (h : Here) (n : ℕ) (o : Option ℕ) (place : Place)
      → slot_of vs n ≡ o → option_map Slot o ≡ Some place → Visible vs used ls h.slots
      → value_in (read table h (location_of place)) ≡ option_map (λ x. x.value) (ls.variables n)
  slot_read vs used ls h n None place e p visible = absurd (none_some p)
  slot_read vs used ls h n (Some k) place e p visible =
      let held = visible.by n k e in
      ap (λ q. value_in (read table h (location_of q))) (sym (some_same (Slot k) place p))
      ∙ held.value ∙ sym (ap (option_map (λ x. x.value)) held.is)

  -- a name is read on both sides alike
  pub name_read : (s : Setting) (vs : List SlotVariable) (used : List ℕ) (ls : meaning.Locals) (h : Here) (seen : Seen) (place : Place)
      → contract_at table s.here ≡ Some s.own → Stands table most s h → Visible vs used ls h.slots → place_seen vs seen ≡ Some place
      → value_in (read table h (location_of place)) ≡ value_seen (frame_in table s) ls h.world seen
  name_read s vs used ls h ThisSeen place found st visible e =
      ap (λ q. value_in (read table h (location_of q))) (sym (some_same This place e)) ∙ this_value table most st
  name_read s vs used ls h (Local n) place found st visible e = slot_read vs used ls h n (slot_of vs n) place refl e visible
  name_read s vs used ls h (FieldSeen id) place found st visible e =
      ap (λ q. value_in (read table h (location_of q))) (sym (some_same (Field id) place e)) ∙ field_read s h id.0 found st

  slot_kind : (vs : List SlotVariable) (used : List ℕ) (ls : meaning.Locals) (h : Here) (n : ℕ) (o : Option ℕ) (place : Place)
      → slot_of vs n ≡ o → option_map Slot o ≡ Some place → Visible vs used ls h.slots
      → option_map (λ x. x.kind) (ls.variables n) ≡ local_kind (locals_of vs) n
  slot_kind vs used ls h n None place e p visible = absurd (none_some p)
  slot_kind vs used ls h n (Some k) place e p visible =
      let held = visible.by n k e in ap (option_map (λ x. x.kind)) held.is ∙ sym held.kind

  -- the kind of a name is the declared one
  pub name_kind : (s : Setting) (vs : List SlotVariable) (used : List ℕ) (ls : meaning.Locals) (h : Here) (seen : Seen) (place : Place)
      → Visible vs used ls h.slots → place_seen vs seen ≡ Some place
      → kind_seen (frame_in table s) ls seen ≡ kind_of_seen (made_in table s) (locals_of vs) seen
  name_kind s vs used ls h ThisSeen place visible e = refl
  name_kind s vs used ls h (Local n) place visible e = slot_kind vs used ls h n (slot_of vs n) place refl e visible
  name_kind s vs used ls h (FieldSeen id) place visible e = refl
