-- How a value comes into a place: a slot, or a field of `this`.
use Rattle.std.proofs.Common.{◌≡◌, ◌≢◌, ℕ, ◌≤◌, Bool, true, false, List, Option, Some, None, refl, sym, ap, ◌∙◌, subst, true≢false, ◌⊎◌, inl, inr}
use Rattle.std.proofs.lemmas.Bool.{ne_eqb}
use Rattle.std.specs.Prelude.{option_and_then, slice_get, if◌then◌else◌}
use Rattle.std.specs.Option.{option_map_or}
use Rattle.ob_base.specs.declared.fault.Span.{Span}
use Rattle.ob_base.specs.declared.id.ContractId.{ContractId}
use Rattle.ob_base.specs.declared.id.FieldId.{FieldId}
use Rattle.ob_perm.specs.Permissions.{Permission, kept}
use Rattle.ob_table.specs.Tables.{ClassTable, contract_at}
use Rattle.ob_table.specs.declared.contract.Field.{Field}
use Rattle.ob_table.specs.declared.contract.ResolvedType.{ResolvedType}
use Rattle.ob_table.specs.declared.contract.ResolvedType.TheVariants as typed
use Rattle.ob_table.specs.declared.seen.Kind.{Kind}
use Rattle.ob_table.specs.declared.seen.Kind.TheVariants.{Int, Bool as BoolKind, Text, Reference}
use Rattle.ob_table_spec.specs.WellFormed.{kind_of_resolved, is_reference}
use Rattle.ob_heap_spec.specs.Values.{Value, put}
use Rattle.ob_heap_spec.specs.Objects.{Object, is_available, has_field}
use Rattle.ob_heap_spec.specs.Contents.{object_at}
use Rattle.ob_heap_spec.specs.Worlds.{World, gives, if_right, with_some, edit_object}
use Rattle.ob_heap_spec.specs.Marks.{comes_into}
use Rattle.ob_source_meaning.specs.Frames as meaning
use Rattle.ob_source_meaning.specs.Frames.{goes_on}
use Rattle.ob_source_meaning.specs.Fields.{comes_into_field, assign_field}
use Rattle.ob_heap_spec.specs.Objects.{with_field}
use Rattle.ob_silica.specs.Terms.{SilicaForm, SilicaTerms, and_term, copy_form, move_form}
use Rattle.ob_silica.specs.declared.place.Operand.{Operand}
use Rattle.ob_silica.specs.declared.place.Place.{Place}
use Rattle.ob_silica.specs.declared.place.Place.TheVariants.{Slot, Field as FieldPlace}
use Rattle.ob_silica_steps.specs.Cells.{Cell, plain_cell, value_in}
use Rattle.ob_silica_places.specs.Known.{Known, permission_of_type}
use Rattle.ob_silica_places.specs.Places.{Location, slot, field, location_of, located}
use Rattle.ob_silica_steps.specs.Configurations.{SilicaProgram, SlotCells, Notes, Rest, runs, Configuration, NextStep, goes, stuck}
use Rattle.ob_silica_steps.specs.Here.{Here, with_field_note, if_there, read, self_of, field_of, set_slot, set_field, set_permission, hand, counted}
use Rattle.ob_silica_places.specs.Known.{at}
use Rattle.ob_silica_steps.specs.Getting.{got_from}
use Rattle.ob_silica_places.specs.Converting.{converted}
use Rattle.ob_silica_steps.specs.Steps.{step}
use Rattle.ob_silica_steps.specs.Straight.{copy_to, move_to, available_field}
use Rattle.ob_lower_spec.specs.Forms.{set_slot as set_slot_form, set_place}
use Rattle.ob_lower_correct.proofs.Runs.{Ends, one_step}
use Rattle.ob_lower_correct.proofs.Standing.{Setting, frame_in, config, Reached, later_on, shape, Noted, Stands, at_same, at_other, some_same, self_is, self_shape}
use Rattle.ob_lower_correct.proofs.Changes.{Alike, alike_self, permission_alike, Quiet, quiet_into, quiet_later, quiet_object, noted_quiet, edited_fuel, same_or, bare, later_edit, noted_edit}
use Rattle.ob_lower_correct.proofs.Values.{there, not_there}

pub put_other : {A : Type 0} (xs : ℕ → Option A) (k : ℕ) (x : A) (n : ℕ) → n ≢ k → put xs k x n ≡ xs n
put_other xs k x n h = rw (ne_eqb n k h) refl

module _ (program : SilicaProgram) (most : ℕ) where
  abbrev table : ClassTable
  table = program.table

  -- a slot was set, and nothing else but permissions
  pub record SlotSet (h : Here) (k : ℕ) (kind : Kind) (v : Value) (t : Here) : Type 0 where
    pub value : value_in (t.slots k) ≡ Some v
    pub noted : is_reference kind ≡ true → shape (t.slots k) ≡ Some (v, kind)
    pub others : (n : ℕ) → n ≢ k → shape (t.slots n) ≡ shape (h.slots n)
    pub notes : (n j : ℕ) → (t.notes.fields n j).kind ≡ (h.notes.fields n j).kind

  copied : (h : Here) (k : ℕ) (kind : Kind) (x : Cell) (v : Value) → is_reference kind ≡ false → x.value ≡ v → SlotSet h k kind v (set_slot k (Some (plain_cell x.value x.note.kind)) h)
  copied h k kind x v plain e = record {
    value = ap value_in (at_same h.slots k (Some (plain_cell x.value x.note.kind))) ∙ ap Some e;
    noted = λ r. absurd (true≢false (sym r ∙ plain));
    others = λ n d. ap shape (at_other h.slots k (Some (plain_cell x.value x.note.kind)) n d);
    notes = λ n j. refl;
  }

  pub moved_world : (place : Location) (p : Permission) (h : Here) → (set_permission place p h).world ≡ h.world
  moved_world (slot j) p h = refl
  moved_world (field j) p h = refl

  moved : (h : Here) (k : ℕ) (id : ContractId) (place : Location) (x : Cell) (v : Value) (p q : Permission) → x.value ≡ v
      → SlotSet h k (Reference id) v (record { slots = at (set_permission place q h).slots k (Some (record { value = x.value; note = record { kind = Reference id; permission = p } })); notes = (set_permission place q h).notes; world = h.world })
  moved h k id place x v p q e =
      let h1 = set_permission place q h in
      let cell : Cell = record { value = x.value; note = record { kind = Reference id; permission = p } } in
      record {
        value = ap value_in (at_same h1.slots k (Some cell)) ∙ ap Some e;
        noted = λ r. ap shape (at_same h1.slots k (Some cell)) ∙ ap (λ u. Some (u, Reference id)) e;
        others = λ n d. ap shape (at_other h1.slots k (Some cell) n d) ∙ (permission_alike place q h).slots n;
        notes = λ n j. (permission_alike place q h).notes n j;
      }

  -- the form that sets a slot
  pub record Sets (s : Setting) (h : Here) (rest : SilicaTerms) (outer : List Rest) (form : SilicaForm) (span : Span) (k : ℕ) (kind : Kind) (v : Value) : Type 0 where
    pub slots : SlotCells
    pub notes : Notes
    pub set : SlotSet h k kind v (record { slots = slots; notes = notes; world = h.world })
    pub step_is : step program (config s h (runs (and_term form span rest) outer)) ≡ goes (config s (record { slots = slots; notes = notes; world = h.world }) (runs rest outer))

  copy_sets : (s : Setting) (h : Here) (rest : SilicaTerms) (outer : List Rest) (span : Span) (from : Operand) (k : ℕ) (kind : Kind) (v : Value)
      → is_reference kind ≡ false → value_in (read table h (located from)) ≡ Some v → Sets s h rest outer (copy_form (Slot k) from) span k kind v
  copy_sets s h rest outer span from k kind v plain e =
      let x = there (read table h (located from)) v e in
      record {
        slots = at h.slots k (Some (plain_cell x.0.value x.0.note.kind));
        notes = h.notes;
        set = copied h k kind x.0 v plain x.2;
        step_is = ap (λ c. if_there c (λ x. copy_to table (slot k) x h (λ n. goes (config s n (runs rest outer))))) x.1;
      }

  pub slot_sets : (s : Setting) (h : Here) (rest : SilicaTerms) (outer : List Rest) (span : Span) (from : Operand) (k : ℕ) (kind : Kind) (v : Value)
      → value_in (read table h (located from)) ≡ Some v → Sets s h rest outer (set_slot_form kind k from) span k kind v
  slot_sets s h rest outer span from k Int v e = copy_sets s h rest outer span from k Int v refl e
  slot_sets s h rest outer span from k BoolKind v e = copy_sets s h rest outer span from k BoolKind v refl e
  slot_sets s h rest outer span from k Text v e = copy_sets s h rest outer span from k Text v refl e
  slot_sets s h rest outer span from k (Reference id) v e =
      let x = there (read table h (located from)) v e in
      let h1 = set_permission (located from) (kept x.0.note.permission (counted h (located from) x.0)) h in
      record {
        slots = at h1.slots k (Some (record { value = x.0.value; note = record { kind = Reference id; permission = converted table x.0.note.kind (Reference id) (counted h (located from) x.0) } }));
        notes = h1.notes;
        set = moved h k id (located from) x.0 v _ _ x.2;
        step_is = ap (λ c. if_there c (λ x. move_to table (slot k) (Some id) (located from) x h (λ n. goes (config s n (runs rest outer))))) x.1
            ∙ ap (λ w. goes (config s (record { slots = at h1.slots k (Some (record { value = x.0.value; note = record { kind = Reference id; permission = converted table x.0.note.kind (Reference id) (counted h (located from) x.0) } })); notes = h1.notes; world = w }) (runs rest outer)))
            (moved_world (located from) (kept x.0.note.permission (counted h (located from) x.0)) h);
      }

  -- where nothing is read there is no step
  pub slot_stuck : (s : Setting) (h : Here) (rest : SilicaTerms) (outer : List Rest) (span : Span) (from : Operand) (k : ℕ) (kind : Kind)
      → value_in (read table h (located from)) ≡ None → step program (config s h (runs (and_term (set_slot_form kind k from) span rest) outer)) ≡ stuck
  slot_stuck s h rest outer span from k Int e = not_there (read table h (located from)) _ e
  slot_stuck s h rest outer span from k BoolKind e = not_there (read table h (located from)) _ e
  slot_stuck s h rest outer span from k Text e = not_there (read table h (located from)) _ e
  slot_stuck s h rest outer span from k (Reference id) e = not_there (read table h (located from)) _ e

  -- Fields.

  -- handing over leaves values
  pub hand_alike : (of : ResolvedType) (place : Location) (x : Cell) (h : Here) → Alike h (hand of place x h)
  hand_alike of place x h =
      let a = permission_alike place (kept x.note.permission (permission_of_type of)) (record h { world = comes_into of x.value h.world }) in
      record { slots = a.slots; notes = a.notes }

  pub hand_world : (of : ResolvedType) (place : Location) (x : Cell) (h : Here) → (hand of place x h).world ≡ comes_into of x.value h.world
  hand_world of place x h = moved_world place (kept x.note.permission (permission_of_type of)) (record h { world = comes_into of x.value h.world })

  plain_comes : (of : ResolvedType) (v : Value) (w : World) → is_reference (kind_of_resolved of) ≡ false → comes_into of v w ≡ w
  plain_comes typed.Int v w e = refl
  plain_comes typed.Bool v w e = refl
  plain_comes typed.Text v w e = refl
  plain_comes (typed.Reference id p) v w e = absurd (true≢false e)

  -- a field of `this` was set
  pub record FieldSet (s : Setting) (h : Here) (k : ℕ) (fd : Field) (v : Value) (t : Here) : Type 0 where
    pub slots : (n : ℕ) → shape (t.slots n) ≡ shape (h.slots n)
    pub world : t.world ≡ edit_object (with_field k v) s.this (comes_into fd.of v h.world)
    pub noted : Noted table t.notes t.world.objects

  own_field : (s : Setting) (k : ℕ) (fd : Field) (o : Object) → contract_at table s.here ≡ Some s.own → o.contract ≡ s.here → slice_get s.own.fields k ≡ Some fd → field_of table o k ≡ Some fd
  own_field s k fd o found same e = ap (option_and_then (λ c. slice_get c.fields k)) (ap (contract_at table) same ∙ found) ∙ e

  field_after : (s : Setting) (h : Here) (k : ℕ) (fd : Field) (v : Value) (x : Cell) (h1 : Here)
      → contract_at table s.here ≡ Some s.own → Stands table most s h → Alike h h1 → h1.world ≡ comes_into fd.of v h.world
      → slice_get s.own.fields k ≡ Some fd → x.value ≡ v → x.note.kind ≡ kind_of_resolved fd.of → FieldSet s h k fd v (set_field k x h1)
  field_after s h k fd v x h1 found st al ew ef ev ek =
      let self : self_of h1.slots ≡ s.this = self_shape h1.slots s.this (Reference s.here) (al.slots 0 ∙ st.this) in
      let world_is : (set_field k x h1).world ≡ edit_object (with_field k v) s.this (comes_into fd.of v h.world) =
      ap (λ u. edit_object (with_field k u) (self_of h1.slots) h1.world) ev ∙ ap (λ n. edit_object (with_field k v) n h1.world) self ∙ ap (edit_object (with_field k v) s.this) ew in
      let quiet : Quiet h.world h1.world = subst (Quiet h.world) (sym ew) (quiet_into fd.of v h.world) in
      let now = quiet_object quiet s.this st.object.0 st.object.1 in
      let here_kind : (o : Object) → object_at h1.world.objects (self_of h1.slots) ≡ Some o → (j : ℕ) (f : Field) (u : Value) → field_of table (with_field k x.value o) j ≡ Some f → (with_field k x.value o).fields j ≡ Some u
      → ((with_field_note h1.notes (self_of h1.slots) k x.note).fields (self_of h1.slots) j).kind ≡ kind_of_resolved f.of = λ o eo j f u e1 e2. here_noted s h1 k fd x o j f u found
      (ap (λ y. y.0) (ap bare (some_same o now.0 (sym eo ∙ ap (λ n. object_at h1.world.objects n) self ∙ now.1)) ∙ now.2) ∙ st.object.2) ef ek
      (noted_quiet st.noted quiet al.notes) eo e1 e2 in
      record {
        slots = al.slots;
        world = world_is;
        noted = noted_edit table h1.notes (set_field k x h1).notes (with_field k x.value) (self_of h1.slots) h1.world (noted_quiet st.noted quiet al.notes)
            (λ m d j. ap (λ (xs : ℕ → Known). (xs j).kind) (at_other h1.notes.fields (self_of h1.slots) (at (h1.notes.fields (self_of h1.slots)) k x.note) m d))
            here_kind;
      }
    where
      here_noted : (s : Setting) (h1 : Here) (k : ℕ) (fd : Field) (x : Cell) (o : Object) (j : ℕ) (f : Field) (u : Value) → contract_at table s.here ≡ Some s.own → o.contract ≡ s.here
          → slice_get s.own.fields k ≡ Some fd → x.note.kind ≡ kind_of_resolved fd.of → Noted table h1.notes h1.world.objects → object_at h1.world.objects (self_of h1.slots) ≡ Some o
          → field_of table o j ≡ Some f → put o.fields k x.value j ≡ Some u
          → ((with_field_note h1.notes (self_of h1.slots) k x.note).fields (self_of h1.slots) j).kind ≡ kind_of_resolved f.of
      here_noted s h1 k fd x o j f u found same ef ek noted eo e1 e2 =
          let row : (with_field_note h1.notes (self_of h1.slots) k x.note).fields (self_of h1.slots) ≡ at (h1.notes.fields (self_of h1.slots)) k x.note = at_same h1.notes.fields (self_of h1.slots) (at (h1.notes.fields (self_of h1.slots)) k x.note) in
          ap (λ (xs : ℕ → Known). (xs j).kind) row ∙ at_number (same_or j k)
        where
          at_number : (j ≡ k) ⊎ (j ≢ k) → (at (h1.notes.fields (self_of h1.slots)) k x.note j).kind ≡ kind_of_resolved f.of
          at_number (inl e) =
              ap (λ i. (at (h1.notes.fields (self_of h1.slots)) k x.note i).kind) e ∙ ap (λ (n : Known). n.kind) (at_same (h1.notes.fields (self_of h1.slots)) k x.note) ∙ ek
              ∙ ap (λ (d : Field). kind_of_resolved d.of) (some_same fd f (sym (own_field s k fd o found same ef) ∙ ap (λ i. field_of table o i) (sym e) ∙ e1))
          at_number (inr d) =
              ap (λ (n : Known). n.kind) (at_other (h1.notes.fields (self_of h1.slots)) k x.note j d)
              ∙ noted.by (self_of h1.slots) j o f u eo e1 (sym (put_other o.fields k x.value j d) ∙ e2)

  -- the form that assigns a field
  assigned : (s : Setting) (h : Here) (rest : SilicaTerms) (outer : List Rest) (used : List ℕ) (ls : meaning.Locals) (k : ℕ) (fd : Field) (v : Value) (c : Configuration) (t : Here)
      → Stands table most s h → FieldSet s h k fd v t → step program c ≡ goes (config s t (runs rest outer))
      → Reached program most (λ r fl. fl ≡ goes_on ls) used s h (runs rest outer) (goes_on ls) (edit_object (with_field k v) s.this (comes_into fd.of v h.world)) c
  assigned s h rest outer used ls k fd v c t st set e = record {
    slots = t.slots;
    notes = t.notes;
    comes = record {
      kept = record { by = λ n u. set.slots n };
      later = later_on (quiet_later (quiet_into fd.of v h.world)) (later_edit (with_field k v) (λ o. refl) s.this (comes_into fd.of v h.world));
      noted = subst (λ w. Noted table t.notes w.objects) set.world set.noted;
      fuel = subst (λ n. n ≤ most) (sym (edited_fuel (with_field k v) s.this (comes_into fd.of v h.world) ∙ (quiet_into fd.of v h.world).fuel)) st.fuel;
    };
    holds = refl;
    leads = one_step program (e ∙ ap (λ w. goes (config s (record { slots = t.slots; notes = t.notes; world = w }) (runs rest outer))) set.world);
  }

  -- whether a field of `this` is available, on both sides
  available_is : (s : Setting) (h : Here) (k : ℕ) (fd : Field) (st : Stands table most s h) → contract_at table s.here ≡ Some s.own → slice_get s.own.fields k ≡ Some fd
      → available_field table h k ≡ (if is_available st.object.0.state fd then Some fd else None)
  available_is s h k fd st found ef =
      ap (λ n. option_and_then (λ o. option_and_then (λ f. if is_available o.state f then Some f else None) (field_of table o k)) (object_at h.world.objects n)) (self_is table most st)
      ∙ ap (option_and_then (λ o. option_and_then (λ f. if is_available o.state f then Some f else None) (field_of table o k))) st.object.1
      ∙ ap (option_and_then (λ f. if is_available st.object.0.state f then Some f else None)) (own_field s k fd st.object.0 found st.object.2 ef)

  assign_is : (s : Setting) (h : Here) (k : ℕ) (fd : Field) (v : Value) (ls : meaning.Locals) (st : Stands table most s h) → slice_get s.own.fields k ≡ Some fd
      → assign_field (frame_in table s) k v ls h.world ≡ if_right (is_available st.object.0.state fd) (gives (goes_on ls) (edit_object (with_field k v) s.this (comes_into fd.of v h.world)))
  assign_is s h k fd v ls st ef =
      ap (λ x. with_some x (λ o. if_right (has_field s.own o.state k) (gives (goes_on ls) (edit_object (with_field k v) s.this (comes_into_field s.own k v h.world))))) st.object.1
      ∙ ap (λ x. if_right (option_map_or (is_available st.object.0.state) x false) (gives (goes_on ls) (edit_object (with_field k v) s.this (option_map_or (λ (field : Field). comes_into field.of v h.world) x h.world)))) ef

  -- a cell that a form brings to a field, from what is left once it was handed over
  brought : (s : Setting) (h : Here) (rest : SilicaTerms) (outer : List Rest) (used : List ℕ) (ls : meaning.Locals) (k : ℕ) (fd : Field) (v : Value) (c : Configuration) (h1 : Here) (x : Cell) (st : Stands table most s h) (b : Bool)
      → contract_at table s.here ≡ Some s.own → slice_get s.own.fields k ≡ Some fd → Alike h h1 → h1.world ≡ comes_into fd.of v h.world → x.value ≡ v → x.note.kind ≡ kind_of_resolved fd.of
      → is_available st.object.0.state fd ≡ b → step program c ≡ if_there (if b then Some fd else None) (λ f. goes (config s (set_field k x h1) (runs rest outer)))
      → Ends program (Reached program most (λ r fl. fl ≡ goes_on ls) used s h (runs rest outer)) c (if_right b (gives (goes_on ls) (edit_object (with_field k v) s.this (comes_into fd.of v h.world))))
  brought s h rest outer used ls k fd v c h1 x st true found ef al ew ev ek eb e =
      record { by = assigned s h rest outer used ls k fd v c (set_field k x h1) st (field_after s h k fd v x h1 found st al ew ef ev ek) e }
  brought s h rest outer used ls k fd v c h1 x st false found ef al ew ev ek eb e = record { by = one_step program e }

  if_const : (b : Bool) (fd : Field) (go : Field → NextStep) → if_there (if b then Some fd else None) go ≡ if_there (if b then Some fd else None) (λ f. go fd)
  if_const true fd go = refl
  if_const false fd go = refl

  -- a value is copied into a field of its kind
  field_copies : (s : Setting) (h : Here) (rest : SilicaTerms) (outer : List Rest) (used : List ℕ) (span : Span) (ls : meaning.Locals) (from : Operand) (place : Place) (k : ℕ) (fd : Field) (v : Value)
      → location_of place ≡ field k → contract_at table s.here ≡ Some s.own → Stands table most s h → slice_get s.own.fields k ≡ Some fd → is_reference (kind_of_resolved fd.of) ≡ false → value_in (read table h (located from)) ≡ Some v
      → Ends program (Reached program most (λ r fl. fl ≡ goes_on ls) used s h (runs rest outer)) (config s h (runs (and_term (copy_form place from) span rest) outer)) (assign_field (frame_in table s) k v ls h.world)
  field_copies s h rest outer used span ls from place k fd v at_field found st ef plain e =
      let x = there (read table h (located from)) v e in
      let b = is_available st.object.0.state fd in
      let go : Field → NextStep = λ f. goes (config s (set_field k (plain_cell x.0.value (kind_of_resolved f.of)) h) (runs rest outer)) in
      rw (assign_is s h k fd v ls st ef)
      (brought s h rest outer used ls k fd v _ h (plain_cell x.0.value (kind_of_resolved fd.of)) st b found ef (alike_self h) (sym (plain_comes fd.of v h.world plain)) x.2 refl refl
      (ap (λ p. if_there (read table h (located from)) (λ y. copy_to table p y h (λ n. goes (config s n (runs rest outer))))) at_field
      ∙ ap (λ c. if_there c (λ y. copy_to table (field k) y h (λ n. goes (config s n (runs rest outer))))) x.1
      ∙ ap (λ o. if_there o go) (available_is s h k fd st found ef) ∙ if_const b fd go))

  -- a reference is moved into a field
  field_moves : (s : Setting) (h : Here) (rest : SilicaTerms) (outer : List Rest) (used : List ℕ) (span : Span) (ls : meaning.Locals) (from : Operand) (place : Place) (k : ℕ) (fd : Field) (v : Value)
      → location_of place ≡ field k → contract_at table s.here ≡ Some s.own → Stands table most s h → slice_get s.own.fields k ≡ Some fd → value_in (read table h (located from)) ≡ Some v
      → Ends program (Reached program most (λ r fl. fl ≡ goes_on ls) used s h (runs rest outer)) (config s h (runs (and_term (move_form place from None) span rest) outer)) (assign_field (frame_in table s) k v ls h.world)
  field_moves s h rest outer used span ls from place k fd v at_field found st ef e =
      let x = there (read table h (located from)) v e in
      let b = is_available st.object.0.state fd in
      let go : Field → NextStep = λ f. goes (config s (set_field k (got_from table f.of h (located from) x.0) (hand f.of (located from) x.0 h)) (runs rest outer)) in
      rw (assign_is s h k fd v ls st ef)
      (brought s h rest outer used ls k fd v _ (hand fd.of (located from) x.0 h) (got_from table fd.of h (located from) x.0) st b found ef (hand_alike fd.of (located from) x.0 h)
      (hand_world fd.of (located from) x.0 h ∙ ap (λ u. comes_into fd.of u h.world) x.2) x.2 refl refl
      (ap (λ p. if_there (read table h (located from)) (λ y. move_to table p None (located from) y h (λ n. goes (config s n (runs rest outer))))) at_field
      ∙ ap (λ c. if_there c (λ y. move_to table (field k) None (located from) y h (λ n. goes (config s n (runs rest outer))))) x.1
      ∙ ap (λ o. if_there o go) (available_is s h k fd st found ef) ∙ if_const b fd go))

  -- the form that assigns a field does what the assignment does
  pub field_set : (s : Setting) (h : Here) (rest : SilicaTerms) (outer : List Rest) (used : List ℕ) (span : Span) (ls : meaning.Locals) (from : Operand) (id : FieldId) (fd : Field) (kind : Kind) (o : Option Value)
      → contract_at table s.here ≡ Some s.own → Stands table most s h → slice_get s.own.fields id.0 ≡ Some fd → kind_of_resolved fd.of ≡ kind → value_in (read table h (located from)) ≡ o
      → Ends program (Reached program most (λ r fl. fl ≡ goes_on ls) used s h (runs rest outer)) (config s h (runs (and_term (set_place kind (FieldPlace id) from) span rest) outer)) (with_some o (λ v. assign_field (frame_in table s) id.0 v ls h.world))
  field_set s h rest outer used span ls from id fd Int None found st ef ek e = record { by = one_step program (not_there (read table h (located from)) _ e) }
  field_set s h rest outer used span ls from id fd BoolKind None found st ef ek e = record { by = one_step program (not_there (read table h (located from)) _ e) }
  field_set s h rest outer used span ls from id fd Text None found st ef ek e = record { by = one_step program (not_there (read table h (located from)) _ e) }
  field_set s h rest outer used span ls from id fd (Reference c) None found st ef ek e = record { by = one_step program (not_there (read table h (located from)) _ e) }
  field_set s h rest outer used span ls from id fd Int (Some v) found st ef ek e = field_copies s h rest outer used span ls from (FieldPlace id) id.0 fd v refl found st ef (ap is_reference ek) e
  field_set s h rest outer used span ls from id fd BoolKind (Some v) found st ef ek e = field_copies s h rest outer used span ls from (FieldPlace id) id.0 fd v refl found st ef (ap is_reference ek) e
  field_set s h rest outer used span ls from id fd Text (Some v) found st ef ek e = field_copies s h rest outer used span ls from (FieldPlace id) id.0 fd v refl found st ef (ap is_reference ek) e
  field_set s h rest outer used span ls from id fd (Reference c) (Some v) found st ef ek e = field_moves s h rest outer used span ls from (FieldPlace id) id.0 fd v refl found st ef e
