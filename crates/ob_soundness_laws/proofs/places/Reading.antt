-- What a frame reads: the slots that it has and the fields of its object.
use Rattle.std.proofs.Common.{◌≡◌, ℕ, ◌<◌, Bool, true, false, List, length, Option, Some, None, refl, sym, ap, ◌∙◌, ◌⊎◌, inl, inr, ⊎_elim, true≢false, eq-eqb}
use Rattle.std.specs.Prelude.{slice_get, option_and_then, option_map, unwrap_or, if◌then◌else◌}
use Rattle.std.specs.Option.{option_map_or}
use Rattle.std.proofs.lemmas.Bool.{cases_Bool, both_ways}
use Rattle.std.proofs.lemmas.Bool.Decides.{eqb_tells}
use Rattle.std.proofs.lemmas.Option.{same_Some}
use Rattle.ob_base.specs.declared.id.StateId.{StateId}
use Rattle.ob_table.specs.Tables.{ClassTable, contract_at}
use Rattle.ob_table.specs.declared.contract.Contract.{Contract}
use Rattle.ob_table.specs.declared.contract.Field.{Field}
use Rattle.ob_table_spec.specs.WellFormed.{kind_of_resolved}
use Rattle.ob_heap_spec.specs.Values.{Value}
use Rattle.ob_heap_spec.specs.Objects.{Object, state_number, has_field, is_available}
use Rattle.ob_silica_places.specs.Known.{Known}
use Rattle.ob_silica_places.specs.Places.{Location, slot, field, same_location}
use Rattle.ob_silica_steps.specs.Cells.{Cell, object_in}
use Rattle.ob_silica_steps.specs.Configurations.{SlotCells, Notes}
use Rattle.ob_silica_steps.specs.Here.{Here, self_of, self, read, field_of, field_value}
use Rattle.ob_flow_spec.specs.Contexts.{BodyFrame, available}
use Rattle.ob_coherent_spec.specs.Counting.{nth_object, field_cell}
use Rattle.ob_coherent_spec.specs.Standing.{IsObjectInRun}
use Rattle.ob_coherent_spec.specs.Saying.{own_object}
use Rattle.ob_soundness_laws.specs.places.Placed.{cell_at}
use Rattle.ob_soundness_laws.proofs.counting.Objects.{object_there}

-- Places.

-- one place is another, or they differ
pub place_is : (p q : Location) → (p ≡ q) ⊎ (same_location p q ≡ false)
place_is (slot k) (slot n) = ⊎_elim (λ e. inl (ap slot e.1)) (λ e. inr e.0) (eqb_tells k n)
place_is (slot k) (field f) = inr refl
place_is (field f) (slot k) = inr refl
place_is (field f) (field n) = ⊎_elim (λ e. inl (ap field e.1)) (λ e. inr e.0) (eqb_tells f n)

pub same_place : (p : Location) → same_location p p ≡ true
same_place (slot k) = eq-eqb k k refl
same_place (field f) = eq-eqb f f refl

pub same_places : (p q : Location) → same_location p q ≡ true → p ≡ q
same_places p q e = ⊎_elim (λ x. x) (λ x. absurd (both_ways _ x e)) (place_is p q)

-- the number of `this` depends on what slot 0 refers to alone
pub self_same : (s t : SlotCells) → object_in (t 0) ≡ object_in (s 0) → self_of t ≡ self_of s
self_same s t e = ap (λ x. unwrap_or x 0) e

-- Fields that are available.

-- a field is available in a state as the rules say it and as the run says it
pub available_is : (b : BodyFrame) (k : ℕ) (state : Option StateId)
    → available b k (state_number state) ≡ has_field b.own state k
available_is b k state = by_field (slice_get b.own.fields k) refl
  where
    by_field : (x : Option Field) → slice_get b.own.fields k ≡ x
        → available b k (state_number state) ≡ has_field b.own state k
    by_field None e = rw e refl
    by_field (Some f) e = rw e refl

-- a field that is there has a declaration
pub field_is : (c : Contract) (state : Option StateId) (k : ℕ) → has_field c state k ≡ true
    → (f : Field) × (slice_get c.fields k ≡ Some f) × (is_available state f ≡ true)
field_is c state k h = by_field (slice_get c.fields k) refl
  where
    by_field : (x : Option Field) → slice_get c.fields k ≡ x → (f : Field) × (slice_get c.fields k ≡ Some f)
        × (is_available state f ≡ true)
    by_field None e = absurd (true≢false (sym h ∙ ap (λ x. option_map_or (is_available state) x false) e))
    by_field (Some f) e = (f, e, sym (ap (λ x. option_map_or (is_available state) x false) e) ∙ h)

pub has_field_from : (c : Contract) (state : Option StateId) (k : ℕ) (f : Field) → slice_get c.fields k ≡ Some f
    → is_available state f ≡ true
    → has_field c state k ≡ true
has_field_from c state k f e h = ap (λ x. option_map_or (is_available state) x false) e ∙ h

-- the field of an object's contract
pub field_of_is : (table : ClassTable) (o : Object) (own : Contract) (k : ℕ) → contract_at table o.contract ≡ Some own
    → field_of table o k ≡ slice_get own.fields k
field_of_is table o own k e = ap (λ x. option_and_then (λ (c : Contract). slice_get c.fields k) x) e

-- Reading.

-- the value that is read of a field of an object in run: the one that it has, whether the field is available or not
pub value_read : (table : ClassTable) (notes : Notes) (n : ℕ) (o : Object) → IsObjectInRun table notes n o → (k : ℕ)
    → field_value table o k ≡ o.fields k
value_read table notes n o r k = ap
    (λ x. if option_map_or (λ c. has_field c o.state k) x false then o.fields k else None) r.contract
    ∙ by_there (has_field r.own o.state k) refl
  where
    by_there : (b : Bool) → has_field r.own o.state k ≡ b
        → (if has_field r.own o.state k then o.fields k else None) ≡ o.fields k
    by_there true e = rw e refl
    by_there false e = rw e (sym (r.fields k e))

-- the object of `this`
pub self_is : (h : Here) → self_of h.slots < length h.world.objects → self h ≡ Some (own_object h)
self_is h lt = object_there h.world.objects (self_of h.slots) lt

-- a frame reads what stands at a place
pub read_is : (table : ClassTable) (h : Here) → self_of h.slots < length h.world.objects
    → IsObjectInRun table h.notes (self_of h.slots) (nth_object h.world.objects (self_of h.slots))
    → (p : Location) → read table h p ≡ cell_at h p
read_is table h lt r (slot k) = refl
read_is table h lt r (field k) =
    ap (λ x. option_map (λ v. record { value = v; note = h.notes.fields (self_of h.slots) k })
    (option_and_then (λ o. field_value table o k) x)) (self_is h lt)
    ∙ ap (option_map (λ v. record { value = v; note = h.notes.fields (self_of h.slots) k }))
    (value_read table h.notes (self_of h.slots) (own_object h) r k)

-- Cells of fields.

-- a field's cell has the field's value, and its note
pub field_cell_is : (notes : Notes) (os : List Object) (n k : ℕ) (x : Cell) → field_cell notes os n k ≡ Some x
    → ((nth_object os n).fields k ≡ Some x.value) × (notes.fields n k ≡ x.note)
field_cell_is notes os n k x = by_value ((nth_object os n).fields k) refl
  where
    by_value : (v : Option Value) → (nth_object os n).fields k ≡ v → field_cell notes os n k ≡ Some x
        → ((nth_object os n).fields k ≡ Some x.value) × (notes.fields n k ≡ x.note)
    by_value None e c = absurd
        (let z : ◌≡◌ {A = Option Cell} None (Some x) = sym
        (ap (option_map (λ v. record { value = v; note = notes.fields n k })) e) ∙ c in cc)
    by_value (Some v) e c =
        let z : record { value = v; note = notes.fields n k } ≡ x = same_Some _ _
        (sym (ap (option_map (λ v. record { value = v; note = notes.fields n k })) e) ∙ c) in
        (e ∙ ap (λ (y : Cell). Some y.value) z, ap (λ (y : Cell). y.note) z)

pub field_cell_from : (notes : Notes) (os : List Object) (n k : ℕ) (v : Value) → (nth_object os n).fields k ≡ Some v
    → field_cell notes os n k ≡ Some (record { value = v; note = notes.fields n k })
field_cell_from notes os n k v e = ap (option_map (λ v. record { value = v; note = notes.fields n k })) e

pub no_field_cell : (notes : Notes) (os : List Object) (n k : ℕ) → field_cell notes os n k ≡ None
    → (nth_object os n).fields k ≡ None
no_field_cell notes os n k = by_value ((nth_object os n).fields k) refl
  where
    by_value : (v : Option Value) → (nth_object os n).fields k ≡ v → field_cell notes os n k ≡ None
        → (nth_object os n).fields k ≡ None
    by_value None e c = e
    by_value (Some v) e c = absurd
        (let z : ◌≡◌ {A = Option Cell} None (Some (record { value = v; note = notes.fields n k })) = sym c
        ∙ field_cell_from notes os n k v e in cc)

pub no_field_value : (notes : Notes) (os : List Object) (n k : ℕ) → (nth_object os n).fields k ≡ None
    → field_cell notes os n k ≡ None
no_field_value notes os n k e = ap (option_map (λ v. record { value = v; note = notes.fields n k })) e

-- the cell of a field is one where values and notes are the same
pub same_field_cell : (notes after : Notes) (os ps : List Object) (n k : ℕ)
    → (nth_object ps n).fields k ≡ (nth_object os n).fields k
    → after.fields n k ≡ notes.fields n k → field_cell after ps n k ≡ field_cell notes os n k
same_field_cell notes after os ps n k e d = ap (option_map (λ v. record { value = v; note = after.fields n k })) e
    ∙ ap (λ y. option_map (λ v. record { value = v; note = y }) ((nth_object os n).fields k)) d

-- what an object in run has in its fields: of the declared kind, and in available fields alone
pub kind_in_run : (table : ClassTable) (notes : Notes) (os : List Object) (n : ℕ)
    (r : IsObjectInRun table notes n (nth_object os n)) (k : ℕ) (x : Cell)
    → field_cell notes os n k ≡ Some x
    → (has_field r.own (nth_object os n).state k ≡ true) × (f : Field) × (slice_get r.own.fields k ≡ Some f)
    × (is_available (nth_object os n).state f ≡ true) × (x.note.kind ≡ kind_of_resolved f.of)
kind_in_run table notes os n r k x e =
    let c = field_cell_is notes os n k x e in
    let there : has_field r.own (nth_object os n).state k ≡ true = ⊎_elim (λ y. y)
    (λ y. absurd (let z : ◌≡◌ {A = Option Value} None (Some x.value) = sym (r.fields k y) ∙ c.0 in cc))
    (cases_Bool _) in
    let f = field_is r.own (nth_object os n).state k there in
    (there, f.0, f.1, f.2, sym (ap (λ (y : Known). y.kind) c.1) ∙ r.kinds k f.0 x.value f.1 c.0)
