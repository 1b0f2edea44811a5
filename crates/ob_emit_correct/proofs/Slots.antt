-- Slots: how those of a frame and those of the machine change together, and what operands are once their fields are loaded.
use Rattle.std.proofs.Common.{◌≡◌, ◌≢◌, ℕ, zero, suc, ◌+◌, ◌<◌, ◌≤◌, Bool, true, false, List, [], ◌∷◌, length, Option, Some, None, refl, sym, ap, ◌∙◌, subst, arith, lt-ltb, eqb-true, eq-eqb, true≢false}
use Rattle.std.proofs.lemmas.Bool.{ne_eqb}
use Rattle.std.specs.Prelude.{option_map, option_and_then, slice_get, slice_set, unwrap_or, nat_eq, if◌then◌else◌}
use Rattle.ob_base.specs.Optional.{◌>>=◌}
use Rattle.ob_base.specs.declared.fault.Span.{Span}
use Rattle.ob_base.specs.declared.id.FieldId.{FieldId}
use Rattle.ob_table.specs.Tables.{ClassTable}
use Rattle.ob_table.specs.declared.seen.Kind.{Kind}
use Rattle.ob_heap_spec.specs.Values.{Value, referred}
use Rattle.ob_heap_spec.specs.Objects.{Object}
use Rattle.ob_heap_spec.specs.Contents.{object_at}
use Rattle.ob_heap_spec.specs.Worlds.{World, SameWorld}
use Rattle.ob_silica.specs.Terms.{SilicaForm, SilicaTerms}
use Rattle.ob_silica.specs.Slots.{slots_of_form}
use Rattle.ob_silica.specs.declared.place.Operand.{Operand}
use Rattle.ob_silica.specs.declared.place.Place.{Place}
use Rattle.ob_silica.specs.declared.place.Place.TheVariants.{This, Slot, Field}
use Rattle.ob_silica_formed.specs.Holdings.{Holdings, SlotContent, held, with_slot}
use Rattle.ob_silica_places.specs.Known.{at}
use Rattle.ob_silica_places.specs.Places.{field, location_of, located, all_located}
use Rattle.ob_silica_steps.specs.Cells.{Cell, value_in, object_in}
use Rattle.ob_silica_steps.specs.Configurations.{SilicaProgram, SlotCells, Rest, Configuration}
use Rattle.ob_silica_steps.specs.Here.{Here, here, read, self, self_of, field_value}
use Rattle.ob_lower_correct.proofs.Standing.{shape, none_some, some_same, at_same, at_other}
use Rattle.ob_lower_correct.proofs.Values.{there}
use Rattle.ob_lower_correct.proofs.Binding.{split_values}
use Rattle.ob_lower_correct.proofs.Calling.{read_values}
use Rattle.ob_code.specs.declared.instruction.Instruction.TheVariants as instruction
use Rattle.ob_machine_steps.specs.Configurations as machine
use Rattle.ob_machine_steps.specs.Parts.{moved_on, with_slots, sets}
use Rattle.ob_machine_steps.specs.Slots.{Slots, value_at, values_at, with_value_at}
use Rattle.ob_machine_steps.specs.Straight.{load_step}
use Rattle.ob_emit_spec.specs.Emission.{scratch_of_form}
use Rattle.ob_emit_spec.specs.Operands.{slot_read, load, slots_read, loads, scratch_slots, all_scratch_slots}
use Rattle.ob_emit_correct.proofs.Placing.{HasAt, KindsHold}
use Rattle.ob_emit_correct.proofs.Matching.{SameSlots, slots_in}
use Rattle.ob_emit_correct.proofs.Stepping.{Reaches, reaches_here, reaches_then}
use Rattle.ob_emit_correct.proofs.Placed.{has_front, has_back, place_after, machine_at, Framed, code_framed, steps_framed, FormStep, framed, code_here, slot_count}

-- Lists.

set_there : {A : Type 0} (xs : List A) (k : ℕ) (y : A) → k < length xs → slice_get (slice_set xs k y) k ≡ Some y
set_there [] k y lt = absurd (omega (arith, lt))
set_there (x ∷ xs) zero y lt = refl
set_there (x ∷ xs) (suc k) y lt = set_there xs k y (omega (arith, lt))

set_other : {A : Type 0} (xs : List A) (k j : ℕ) (y : A) → j ≢ k → slice_get (slice_set xs k y) j ≡ slice_get xs j
set_other [] k j y h = refl
set_other (x ∷ xs) zero zero y h = absurd (h refl)
set_other (x ∷ xs) zero (suc j) y h = refl
set_other (x ∷ xs) (suc k) zero y h = refl
set_other (x ∷ xs) (suc k) (suc j) y h = set_other xs k j y (λ e. h (ap suc e))

set_length : {A : Type 0} (xs : List A) (k : ℕ) (y : A) → length (slice_set xs k y) ≡ length xs
set_length [] k y = refl
set_length (x ∷ xs) zero y = refl
set_length (x ∷ xs) (suc k) y = ap suc (set_length xs k y)

-- the same number or another
by_number : (P : ℕ → Type 0) (k j : ℕ) → P k → (j ≢ k → P j) → P j
by_number P k j same other = go (nat_eq j k) refl
  where
    go : (b : Bool) → nat_eq j k ≡ b → P j
    go true h = subst P (sym (eqb-true j k h)) same
    go false h = other (λ e. true≢false (sym (eq-eqb j k e) ∙ h))

-- Slots of the machine.

-- the slots with a value in one of them
abbrev pub set_in : Slots → ℕ → Value → Slots
set_in slots k v = slice_set slots k (Some v)

pub value_set : (slots : Slots) (k : ℕ) (v : Value) → k < length slots → value_at (set_in slots k v) k ≡ Some v
value_set slots k v lt = rw (set_there slots k (Some v) lt) refl

pub value_kept : (slots : Slots) (k j : ℕ) (v : Value) → j ≢ k → value_at (set_in slots k v) j ≡ value_at slots j
value_kept slots k j v h = rw (set_other slots k j (Some v) h) refl

pub slots_set : (slots : Slots) (k : ℕ) (v : Value) → k < length slots → with_value_at slots k v ≡ Some (set_in slots k v)
slots_set slots k v lt = rw (lt-ltb k (length slots) lt) refl

-- an instruction sets a slot that there is
pub sets_slot : (m : machine.Configuration) (k : ℕ) (v : Value) → k < length m.top.slots
    → sets k v m ≡ Some (machine.goes (moved_on (with_slots (set_in m.top.slots k v) m)))
sets_slot m k v lt = ap (λ o. o >>= λ slots. Some (machine.goes (moved_on (with_slots slots m)))) (slots_set m.top.slots k v lt)

-- Slots of the terms in those of the machine.

pub same_scratch : {scratch count : ℕ} {cells : SlotCells} {slots : Slots} (k : ℕ) (v : Value) → scratch ≤ k
    → SameSlots scratch count cells slots
    → SameSlots scratch count cells (set_in slots k v)
same_scratch {slots = slots} k v le s = record {
  many = set_length slots k (Some v) ∙ s.many;
  within = s.within;
  same = λ j c e. let lt = s.within j c e in value_kept slots k j v (omega (arith, lt, le)) ∙ s.same j c e;
}

pub same_set : {scratch count : ℕ} {cells : SlotCells} {slots : Slots} (k : ℕ) (c : Cell) → k < scratch → scratch ≤ count
    → SameSlots scratch count cells slots
    → SameSlots scratch count (at cells k (Some c)) (set_in slots k c.value)
same_set {scratch} {count} {cells} {slots} k c lt le s = record {
  many = set_length slots k (Some c.value) ∙ s.many;
  within = λ j d. by_number (λ j. at cells k (Some c) j ≡ Some d → j < scratch) k j (λ e. lt)
      (λ h e. s.within j d (sym (at_other cells k (Some c) j h) ∙ e));
  same = λ j d. by_number (λ j. at cells k (Some c) j ≡ Some d → value_at (set_in slots k c.value) j ≡ Some d.value) k j
      (λ e. value_set slots k c.value (omega (arith, lt, le, s.many))
      ∙ ap (λ (x : Cell). Some x.value) (some_same c d (sym (at_same cells k (Some c)) ∙ e)))
      (λ h e. value_kept slots k j c.value h ∙ s.same j d (sym (at_other cells k (Some c) j h) ∙ e));
}

pub same_drop : {scratch count : ℕ} {cells : SlotCells} {slots : Slots} (k : ℕ) → SameSlots scratch count cells slots
    → SameSlots scratch count (at cells k None) slots
same_drop {scratch} {count} {cells} {slots} k s = record {
  many = s.many;
  within = λ j d. by_number (λ j. at cells k None j ≡ Some d → j < scratch) k j
      (λ e. absurd (none_some (sym (at_same cells k None) ∙ e))) (λ h e. s.within j d (sym (at_other cells k None j h) ∙ e));
  same = λ j d. by_number (λ j. at cells k None j ≡ Some d → value_at slots j ≡ Some d.value) k j
      (λ e. absurd (none_some (sym (at_same cells k None) ∙ e))) (λ h e. s.same j d (sym (at_other cells k None j h) ∙ e));
}

-- a cell of the same shape as one that is set
same_cell : (x : Option Cell) (c : Cell) → shape x ≡ shape (Some c) → (d : Cell) × (x ≡ Some d) × (d.value ≡ c.value)
    × (d.note.kind ≡ c.note.kind)
same_cell None c e = absurd (none_some e)
same_cell (Some d) c e =
    let p = some_same (d.value, d.note.kind) (c.value, c.note.kind) e in (d, refl, ap (λ y. y.0) p, ap (λ y. y.1) p)

-- slots that differ in permissions alone
pub same_alike : {scratch count : ℕ} {cells others : SlotCells} {slots : Slots} → ((k : ℕ) → shape (others k) ≡ shape (cells k))
    → SameSlots scratch count cells slots
    → SameSlots scratch count others slots
same_alike {cells = cells} {others} a s = record {
  many = s.many;
  within = λ k c e. let d = same_cell (cells k) c (sym (a k) ∙ ap shape e) in s.within k d.0 d.1;
  same = λ k c e. let d = same_cell (cells k) c (sym (a k) ∙ ap shape e) in s.same k d.0 d.1 ∙ ap Some d.2;
}

object_shape : (c : Option Cell) → object_in c ≡ option_and_then (λ (p : Value × Kind). referred p.0) (shape c)
object_shape None = refl
object_shape (Some x) = refl

pub self_alike : (cells others : SlotCells) → ((k : ℕ) → shape (others k) ≡ shape (cells k)) → self_of others ≡ self_of cells
self_alike cells others a =
    ap (λ o. unwrap_or o 0)
    (object_shape (others 0) ∙ ap (option_and_then (λ (p : Value × Kind). referred p.0)) (a 0) ∙ sym (object_shape (cells 0)))

pub self_other : (cells : SlotCells) (k : ℕ) (c : Option Cell) → 0 < k → self_of (at cells k c) ≡ self_of cells
self_other cells k c lt =
    let h : 0 ≢ k = λ e. absurd (omega (arith, lt, e)) in ap (λ x. unwrap_or (object_in x) 0) (at_other cells k c 0 h)

-- Kinds.

pub kinds_alike : (h : Holdings) (cells others : SlotCells) → ((k : ℕ) → shape (others k) ≡ shape (cells k)) → KindsHold h cells
    → KindsHold h others
kinds_alike h cells others a kinds k x c e f =
    let d = same_cell (cells k) c (sym (a k) ∙ ap shape f) in sym d.3 ∙ kinds k x d.0 e d.1

-- what slots hold but for one
with_same : (h : Holdings) (k : ℕ) (x : SlotContent) → with_slot k x h k ≡ x
with_same h k x = rw (eq-eqb k k refl) refl

with_other : (h : Holdings) (k j : ℕ) (x : SlotContent) → j ≢ k → with_slot k x h j ≡ h j
with_other h k j x n = rw (ne_eqb j k n) refl

pub kinds_set : (h : Holdings) (cells : SlotCells) (k : ℕ) (kind : Option Kind) (c : Cell)
    → ((x : Kind) → kind ≡ Some x → c.note.kind ≡ x) → KindsHold h cells
    → KindsHold (with_slot k (held kind) h) (at cells k (Some c))
kinds_set h cells k kind c is kinds j x d =
    by_number (λ j. (with_slot k (held kind) h j).kind ≡ Some x → at cells k (Some c) j ≡ Some d → d.note.kind ≡ x) k j
    (λ e f. ap (λ (y : Cell). y.note.kind) (sym (some_same c d (sym (at_same cells k (Some c)) ∙ f)))
    ∙ is x (sym (ap (λ (y : SlotContent). y.kind) (with_same h k (held kind))) ∙ e))
    (λ n e f. kinds j x d (sym (ap (λ (y : SlotContent). y.kind) (with_other h k j (held kind) n)) ∙ e)
    (sym (at_other cells k (Some c) j n) ∙ f))

pub kinds_drop : (h : Holdings) (cells : SlotCells) (k : ℕ) → KindsHold h cells
    → KindsHold (with_slot k (held None) h) (at cells k None)
kinds_drop h cells k kinds j x d =
    by_number (λ j. (with_slot k (held None) h j).kind ≡ Some x → at cells k None j ≡ Some d → d.note.kind ≡ x) k j
    (λ e f. absurd (none_some (sym (at_same cells k None) ∙ f)))
    (λ n e f. kinds j x d (sym (ap (λ (y : SlotContent). y.kind) (with_other h k j (held None) n)) ∙ e)
    (sym (at_other cells k None j n) ∙ f))

-- Operands.

-- the value of a field that is read is one of the object's
field_some : (b : Bool) (o : Option Value) (v : Value) → (if b then o else None) ≡ Some v → o ≡ Some v
field_some true o v e = e
field_some false o v e = absurd (none_some e)

field_from : (table : ClassTable) (s : Option Object) (k : ℕ) (v : Value)
    → option_and_then (λ o. field_value table o k) s ≡ Some v
    → (o : Object) × (s ≡ Some o) × (o.fields k ≡ Some v)
field_from table None k v e = absurd (none_some e)
field_from table (Some o) k v e = (o, refl, field_some _ (o.fields k) v e)

value_of_cells : (o : Option Value) (f : Value → Cell) (v : Value) → ((u : Value) → (f u).value ≡ u)
    → value_in (option_map f o) ≡ Some v → o ≡ Some v
value_of_cells None f v same e = absurd (none_some e)
value_of_cells (Some u) f v same e = ap Some (sym (same u)) ∙ e

pub field_read : (table : ClassTable) (h : Here) (k : ℕ) (v : Value) → value_in (read table h (field k)) ≡ Some v
    → (o : Object) × (self h ≡ Some o) × (o.fields k ≡ Some v)
field_read table h k v e = field_from table (self h) k v (value_of_cells _ _ v (λ u. refl) e)

module _ {program : SilicaProgram} {c : Configuration} {m : machine.Configuration} (y : Framed program c m) where
  -- the number of the first scratch slot, and how many slots there are
  abbrev pub scratch_framed : ℕ
  scratch_framed = y.has.body.slots

  abbrev pub count_framed : ℕ
  count_framed = slots_in program c.frame.contract c.frame.tx y.has

  -- slots of the machine that represent those of the frame
  abbrev pub StandingFor : Slots → Type 0
  StandingFor slots = SameSlots scratch_framed count_framed c.frame.slots slots

  -- from a place with these slots, in a world, the operand of a number is loaded
  record LoadedOne (place : ℕ) (slots : Slots) (w : World) (n : ℕ) (p : Place) (v : Value) : Type 0 where
    into : Slots
    same : StandingFor into
    reaches : Reaches program (machine_at m place slots w) (machine_at m (place + length (load scratch_framed n p)) into w)
    kept : (k : ℕ) → k < scratch_framed + n → value_at into k ≡ value_at slots k
    value : value_at into (slot_read scratch_framed n p) ≡ Some v
    low : slot_read scratch_framed n p < scratch_framed + (n + 1)

  -- nothing is loaded
  as_it_is : (place : ℕ) (slots : Slots) (w : World) (n k : ℕ) (p : Place) (v : Value) → load scratch_framed n p ≡ []
      → slot_read scratch_framed n p ≡ k → value_in (c.frame.slots k) ≡ Some v → StandingFor slots
      → LoadedOne place slots w n p v
  as_it_is place slots w n k p v none is e s =
      let d = there (c.frame.slots k) v e in
      let lt = s.within k d.0 d.1 in
      let same_place : place ≡ place + length (load scratch_framed n p) = omega (arith, ap length none) in
      record {
        into = slots;
        same = s;
        reaches = subst (λ q. Reaches program (machine_at m place slots w) (machine_at m q slots w)) same_place
            (reaches_here program (machine_at m place slots w));
        kept = λ j h. refl;
        value = ap (value_at slots) is ∙ s.same k d.0 d.1 ∙ ap Some d.2;
        low = omega (arith, lt, is);
      }

  -- a field is loaded into a scratch slot
  pub loads_field_from : (place : ℕ) (slots : Slots) (w : World) (k : ℕ) (id : FieldId) (v : Value)
      → slice_get (code_framed y) place ≡ Some (instruction.Load k id) → k < length slots
      → SameWorld c.world w → value_in (read program.table (here c) (field id.0)) ≡ Some v
      → Reaches program (machine_at m place slots w) (machine_at m (place + 1) (set_in slots k v) w)
  loads_field_from place slots w k id v i lt same e =
      let o = field_read program.table (here c) id.0 v e in
      let this : object_at w.objects m.top.this ≡ Some o.0 =
      ap (λ os. object_at os m.top.this) same.objects ∙ ap (object_at c.world.objects) y.frame.this ∙ o.1 in
      let acts : load_step k id (machine_at m place slots w) ≡ Some
      (machine.goes (machine_at m (place + 1) (set_in slots k v) w)) =
      ap (λ o. o >>= λ (o : Object). o.fields id.0 >>= λ u. sets k u (machine_at m place slots w)) this
      ∙ ap (λ o. o >>= λ u. sets k u (machine_at m place slots w)) o.2
      ∙ sets_slot (machine_at m place slots w) k v lt in
      steps_framed y place slots w (machine_at m (place + 1) (set_in slots k v) w) (instruction.Load k id) i acts

  load_one : (place : ℕ) (slots : Slots) (w : World) (n : ℕ) (p : Place) (v : Value)
      → HasAt (code_framed y) place (load scratch_framed n p) → scratch_framed + scratch_slots n p ≤ count_framed
      → StandingFor slots → SameWorld c.world w → value_in (read program.table (here c) (location_of p)) ≡ Some v
      → LoadedOne place slots w n p v
  load_one place slots w n This v h le s same e = as_it_is place slots w n 0 This v refl refl e s
  load_one place slots w n (Slot k) v h le s same e = as_it_is place slots w n k (Slot k) v refl refl e s
  load_one place slots w n (Field id) v h le s same e =
      let lt : scratch_framed + n < length slots = omega (arith, le, s.many) in
      record {
        into = set_in slots (scratch_framed + n) v;
        same = same_scratch (scratch_framed + n) v (omega arith) s;
        reaches = loads_field_from place slots w (scratch_framed + n) id v h.0 lt same e;
        kept = λ j below. value_kept slots (scratch_framed + n) j v (λ is. absurd (omega (arith, below, is)));
        value = value_set slots (scratch_framed + n) v lt;
        low = omega arith;
      }

  -- From a place with these slots, in a world, operands are loaded, of which the first has this number: then these are their values,
  -- slots below theirs are as they were, and those of the machine represent those of the frame.
  pub record LoadedFrom (place : ℕ) (slots : Slots) (w : World) (n : ℕ) (os : List Operand) (vs : List Value) : Type 0 where
    pub into : Slots
    pub same : StandingFor into
    pub reaches : Reaches program (machine_at m place slots w) (machine_at m (place + length (loads scratch_framed n os)) into w)
    pub kept : (k : ℕ) → k < scratch_framed + n → value_at into k ≡ value_at slots k
    pub values : values_at into (slots_read scratch_framed n os) ≡ Some vs

  -- one value, and then others
  value_more : (slots : Slots) (k : ℕ) (ks : List ℕ) (v : Value) (vs : List Value) → value_at slots k ≡ Some v
      → values_at slots ks ≡ Some vs → values_at slots (k ∷ ks) ≡ Some (v ∷ vs)
  value_more slots k ks v vs e f =
      ap (λ o. o >>= λ v. values_at slots ks >>= λ vs. Some (v ∷ vs)) e ∙ ap (λ o. o >>= λ vs. Some (v ∷ vs)) f

  pub loads_from : (place : ℕ) (slots : Slots) (w : World) (n : ℕ) (os : List Operand) (vs : List Value)
      → HasAt (code_framed y) place (loads scratch_framed n os)
      → scratch_framed + all_scratch_slots n os ≤ count_framed → StandingFor slots → SameWorld c.world w
      → read_values program.table (here c) (all_located os) ≡ Some vs
      → LoadedFrom place slots w n os vs
  loads_from place slots w n [] vs h le s same e =
      let same_place : place ≡ place + 0 = omega arith in
      record {
        into = slots;
        same = s;
        reaches = subst (λ q. Reaches program (machine_at m place slots w) (machine_at m q slots w)) same_place
            (reaches_here program (machine_at m place slots w));
        kept = λ j h. refl;
        values = e;
      }
  loads_from place slots w n (o ∷ os) vs h le s same e =
      let first = load scratch_framed n o.place in
      let more = loads scratch_framed (n + 1) os in
      let parts =
      split_values (value_in (read program.table (here c) (located o)))
      (read_values program.table (here c) (all_located os)) vs e in
      let a =
      load_one place slots w n o.place parts.0 (has_front (code_framed y) place first more h)
      (omega (arith, le)) s same parts.2 in
      let b =
      loads_from (place + length first) a.into w (n + 1) os parts.1 (has_back (code_framed y) place first more h)
      (omega (arith, le)) a.same same parts.3 in
      record {
        into = b.into;
        same = b.same;
        reaches = reaches_then a.reaches
            (subst (λ q. Reaches program (machine_at m (place + length first) a.into w) (machine_at m q b.into w))
            (sym (place_after place first more)) b.reaches);
        kept = λ k lt. b.kept k (omega (arith, lt)) ∙ a.kept k lt;
        values = value_more b.into (slot_read scratch_framed n o.place) (slots_read scratch_framed (n + 1) os) parts.0 parts.1
            (b.kept (slot_read scratch_framed n o.place) a.low ∙ a.value) b.values ∙ ap Some parts.4;
      }

module _ {program : SilicaProgram} {form : SilicaForm} {span : Span} {rest : SilicaTerms} {outer : List Rest} {c : Configuration}
    {m : machine.Configuration} (x : FormStep program form span rest outer c m) where
  -- the number of the first scratch slot of the body
  abbrev pub scratch : ℕ
  scratch = x.goes_on.has.body.slots

  -- the scratch slots of the form are there, and it names slots of the body alone
  pub form_scratch : scratch + scratch_of_form form ≤ slot_count x
  form_scratch = let e = x.goes_on.stands.emitted.scratch in omega (arith, e)

  pub form_slots : slots_of_form form ≤ scratch
  form_slots = let e = x.goes_on.stands.emitted.slots in omega (arith, e)

  -- slots of the machine that represent those of the frame
  abbrev pub Standing : Slots → Type 0
  Standing slots = SameSlots scratch (slot_count x) c.frame.slots slots

  -- where operands are loaded, and then
  abbrev pub Loaded : ℕ → Slots → World → ℕ → List Operand → List Value → Type 0
  Loaded place slots w n os vs = LoadedFrom (framed x) place slots w n os vs

  pub loads_field : (place : ℕ) (slots : Slots) (w : World) (k : ℕ) (id : FieldId) (v : Value)
      → slice_get (code_here x) place ≡ Some (instruction.Load k id) → k < length slots
      → SameWorld c.world w → value_in (read program.table (here c) (field id.0)) ≡ Some v
      → Reaches program (machine_at m place slots w) (machine_at m (place + 1) (set_in slots k v) w)
  loads_field = loads_field_from (framed x)

  pub loads_run : (place : ℕ) (slots : Slots) (w : World) (n : ℕ) (os : List Operand) (vs : List Value)
      → HasAt (code_here x) place (loads scratch n os)
      → scratch + all_scratch_slots n os ≤ slot_count x → Standing slots → SameWorld c.world w
      → read_values program.table (here c) (all_located os) ≡ Some vs
      → Loaded place slots w n os vs
  loads_run = loads_from (framed x)
