-- Changes of the state of `this`.
use Rattle.std.proofs.Common.{◌≡◌, ℕ, ◌≤◌, Bool, true, false, ◌&&◌, List, [], ◌∷◌, length, Option, Some, None, refl, sym, ap, ◌∙◌, subst}
use Rattle.std.specs.Prelude.{is_some, slice_get, option_map, option_and_then, if◌then◌else◌}
use Rattle.ob_base.specs.declared.fault.Span.{Span}
use Rattle.ob_base.specs.declared.id.StateId.{StateId}
use Rattle.ob_table.specs.declared.contract.Field.{Field}
use Rattle.ob_table.specs.declared.seen.Kind.TheVariants.{Reference}
use Rattle.ob_table.specs.Tables.{ClassTable, contract_at}
use Rattle.ob_table_spec.specs.WellFormed as made
use Rattle.ob_table_spec.specs.WellFormed.{kind_of_resolved}
use Rattle.ob_heap_spec.specs.Values.{Value, Numbered}
use Rattle.ob_heap_spec.specs.Worlds.{World, edit_object, RunOutcome}
use Rattle.ob_source_meaning.specs.Frames as meaning
use Rattle.ob_source_meaning.specs.Frames.{Calls, Flow, SourceGiven}
use Rattle.ob_source_meaning.specs.Naming.{values_given, value_of_operand}
use Rattle.ob_source_meaning.specs.Fields.{cut_to, moved_to, come_into_fields}
use Rattle.ob_silica.specs.Terms.{SilicaTerms}
use Rattle.ob_silica.specs.declared.place.Given as silica
use Rattle.ob_silica_steps.specs.Cells.{noted, Cell, value_in}
use Rattle.ob_silica_places.specs.Known.{Known}
use Rattle.ob_silica_places.specs.Places.{located}
use Rattle.ob_silica_steps.specs.Configurations.{SilicaProgram, SlotCells, Rest, Configuration}
use Rattle.ob_silica_steps.specs.Here.{Here, read}
use Rattle.ob_lower_spec.specs.Points.{Point}
use Rattle.ob_lower_correct.proofs.Slots.{Used}
use Rattle.ob_lower_correct.proofs.Runs.{Ends}
use Rattle.ob_lower_correct.proofs.Standing.{Setting, frame_in, made_in, shape, Later, Noted, Stands, Comes, at_other, none_some, some_same, self_shape, at_same}
use Rattle.ob_lower_correct.proofs.Names.{Visible}
use Rattle.ob_lower_correct.proofs.Calling.{CallsRun}
use Rattle.ob_lower_correct.proofs.Operands.{means_read}
use Rattle.ob_lower_correct.proofs.Flows.{Gave, Placed, At, Flows}
use Rattle.ob_lower_correct.proofs.Changes.{noted_quiet, quiet_later}
use Rattle.ob_lower_correct.proofs.Filling.{ReadBy, Filled}
use Rattle.ob_silica_steps.specs.Changing.{all_there, value_after, changed_object, note_after, notes_after, narrowed_this, changed_here}
use Rattle.ob_silica_steps.specs.Here.{self_of, field_of}
use Rattle.ob_perm.specs.Permissions.{owned, owns}
use Rattle.ob_perm.specs.States.{only}
use Rattle.std.proofs.Math.Path.{fun_ext}
use Rattle.ob_heap_spec.specs.Objects.{Object, has_field}
use Rattle.ob_heap_spec.specs.Contents.{object_at}
use Rattle.ob_heap_spec.specs.Values.{nothing}
use Rattle.ob_lower_correct.proofs.Changes.{edited_fuel, later_edit, noted_edit, quiet_object, bare, Quiet, at_alike}
use Rattle.ob_lower_correct.proofs.Standing.{later_on}

is_there : (c : Option Cell) (o : Option Value) → value_in c ≡ o → is_some c ≡ is_some o
is_there None None e = refl
is_there (Some x) (Some v) e = refl
is_there None (Some v) e = absurd (none_some e)
is_there (Some x) None e = absurd (none_some (sym e))

narrowed_shape : (state : StateId) (c : Option Cell) → shape (option_map (narrowed_this state) c) ≡ shape c
narrowed_shape state None = refl
narrowed_shape state (Some x) = go (owns x.note.permission)
  where
    go : (b : Bool) → shape (Some (if b then noted (owned (only state.0)) x else x)) ≡ shape (Some x)
    go true = refl
    go false = refl

module _ (program : SilicaProgram) (most : ℕ) (calls : Calls) (called : CallsRun program most calls) (s : Setting) (found : contract_at program.table s.here ≡ Some s.own)
    (start : SlotCells) (finish : Option Value → World → RunOutcome (Option Value)) (fixed : List ℕ) (zero_fixed : Used 0 fixed) where
  abbrev table : ClassTable
  table = program.table

  abbrev f : meaning.SourceFrame
  f = frame_in program.table s

  abbrev F : made.StaticFrame
  F = made_in program.table s

  abbrev Stand : Point → meaning.Locals → Here → Type 0
  Stand p ls h = At program most calls called s found start finish fixed zero_fixed p ls h

  abbrev Runs : Point → SilicaTerms → List Rest → Here → Configuration → RunOutcome Flow → Type 0
  Runs q rest outer h c o = Ends program (Flows program most calls called s found start finish fixed zero_fixed q rest outer h) c o

  abbrev Places : Point → made.LocalKinds → Type 0
  Places p ws = Placed (length s.signature.params) fixed p ws

  -- the given values are all there, or aren't
  abbrev pub GivenRead : Here → List silica.Given → Option (List (ℕ × Value)) → Type 0
  GivenRead t gs None = all_there table t gs ≡ false
  GivenRead t gs (Some xs) = (all_there table t gs ≡ true) × ReadBy table t gs xs

  one_read : (t : Here) (g : silica.Given) (gs : List silica.Given) (n : ℕ) (r : Option Value) (rest : Option (List (ℕ × Value))) → g.field.0 ≡ n → value_in (read table t (located g.from)) ≡ r → GivenRead t gs rest
      → GivenRead t (g ∷ gs) (option_and_then (λ v. option_map (λ vs. (n, v) ∷ vs) rest) r)
  one_read t g gs n None rest en er m = ap (λ b. b && all_there table t gs) (is_there (read table t (located g.from)) None er)
  one_read t g gs n (Some v) None en er m = ap (λ b. b && all_there table t gs) (is_there (read table t (located g.from)) (Some v) er) ∙ m
  one_read t g gs n (Some v) (Some xs) en er m = (ap (λ b. b && all_there table t gs) (is_there (read table t (located g.from)) (Some v) er) ∙ m.0, (en, er, m.1))

  pub given_read : (p : Point) (ws : made.LocalKinds) (ls : meaning.Locals) (place : Span) (used : List ℕ) (t : Here) (xs : List SourceGiven) (gs : List silica.Given) → Places p ws → Stands table most s t → Visible p.variables p.used ls t.slots → Gave p.variables xs gs used t
      → GivenRead t gs (values_given f ls t.world xs)
  given_read p ws ls place used t [] [] placed st vis g = (refl, tt)
  given_read p ws ls place used t (x ∷ xs) (g ∷ gs) placed st vis m =
      one_read t g gs x.0 (value_of_operand f ls t.world x.1) (values_given f ls t.world xs) m.by.0
      (means_read program most calls called s found p.variables ws placed.agree p.used (placed.fixed.by 0 zero_fixed) place ls x.1 g.from used t m.by.1 (record { stands = st; visible = vis }))
      (given_read p ws ls place used t xs gs placed st vis (record { by = m.by.2 }))
  given_read p ws ls place used t [] (g ∷ gs) placed st vis m = absurd m.by
  given_read p ws ls place used t (x ∷ xs) [] placed st vis m = absurd m.by

  -- `this` after a change, once its fields are filled
  pub changed_world : (state : StateId) (t t1 : Here) (xs : List (ℕ × Value)) (all : Numbered Cell) → Stands table most s t → Filled s.own t nothing xs t1 all
      → (changed_here s.own state all t1).world ≡ edit_object (moved_to s.own state xs) s.this (come_into_fields s.own xs t.world)
  changed_world state t t1 xs all st filled =
      let self : self_of t1.slots ≡ s.this = self_shape t1.slots s.this (Reference s.here) (filled.alike.slots 0 ∙ st.this) in
      let same : changed_object s.own state all ≡ moved_to s.own state xs = fun_ext (λ o. ap (λ (values : Numbered Value). record o { state = Some state; fields = values }) (fun_ext (λ k. filled.values (cut_to s.own state o.fields) k))) in
      ap (λ g. edit_object g (self_of t1.slots) t1.world) same ∙ ap (λ n. edit_object (moved_to s.own state xs) n t1.world) self ∙ ap (edit_object (moved_to s.own state xs) s.this) filled.world

  changed_noted : (state : StateId) (t t1 : Here) (xs : List (ℕ × Value)) (all : Numbered Cell) → Stands table most s t → Filled s.own t nothing xs t1 all
      → Noted table (changed_here s.own state all t1).notes (changed_here s.own state all t1).world.objects
  changed_noted state t t1 xs all st filled =
      let self : self_of t1.slots ≡ s.this = self_shape t1.slots s.this (Reference s.here) (filled.alike.slots 0 ∙ st.this) in
      let before : Noted table t1.notes t1.world.objects = noted_quiet st.noted filled.quiet filled.alike.notes in
      let now = quiet_object filled.quiet s.this st.object.0 st.object.1 in
      noted_edit table t1.notes (notes_after (self_of t1.slots) all t1.notes) (changed_object s.own state all) (self_of t1.slots) t1.world before
      (λ m d k. ap (λ (g : ℕ → Known). (g k).kind) (at_other t1.notes.fields (self_of t1.slots) _ m d))
      (λ o eo k fd v ef ev.
      ap (λ (g : ℕ → Known). (g k).kind) (at_same t1.notes.fields (self_of t1.slots) (λ k. note_after (all k) (t1.notes.fields (self_of t1.slots) k)))
      ∙ by_cell o k fd v (all k) refl before eo
      (ap (λ c. option_and_then (λ d. slice_get d.fields k) (contract_at table c)) (sym (ap (λ b. b.0) (ap bare (some_same o now.0 (sym eo ∙ ap (λ n. object_at t1.world.objects n) self ∙ now.1)) ∙ now.2) ∙ st.object.2)) ∙ ef) found ef ev)
    where
      by_cell : (o : Object) (k : ℕ) (fd : Field) (v : Value) (x : Option Cell) → all k ≡ x → Noted table t1.notes t1.world.objects → object_at t1.world.objects (self_of t1.slots) ≡ Some o
          → option_and_then (λ d. slice_get d.fields k) (contract_at table s.here) ≡ Some fd → contract_at table s.here ≡ Some s.own → field_of table o k ≡ Some fd
          → value_after (all k) (if has_field s.own (Some state) k then o.fields k else None) ≡ Some v
          → (note_after (all k) (t1.notes.fields (self_of t1.slots) k)).kind ≡ kind_of_resolved fd.of
      by_cell o k fd v (Some x) ex before eo eh own ef ev =
          ap (λ y. (note_after y (t1.notes.fields (self_of t1.slots) k)).kind) ex
          ∙ filled.kinds.by k x fd ex (sym (ap (option_and_then (λ d. slice_get d.fields k)) own) ∙ eh)
      by_cell o k fd v None ex before eo eh own ef ev =
          ap (λ y. (note_after y (t1.notes.fields (self_of t1.slots) k)).kind) ex
          ∙ before.by (self_of t1.slots) k o fd v eo ef (was (has_field s.own (Some state) k) (sym (ap (λ y. value_after y (if has_field s.own (Some state) k then o.fields k else None)) ex) ∙ ev))
        where
          was : (b : Bool) → (if b then o.fields k else None) ≡ Some v → o.fields k ≡ Some v
          was true e = e
          was false e = absurd (none_some e)

  -- what is reached once `this` has changed
  pub changed_comes : (state : StateId) (t t1 : Here) (used : List ℕ) (xs : List (ℕ × Value)) (all : Numbered Cell) → Stands table most s t → Filled s.own t nothing xs t1 all
      → Comes table most used t (changed_here s.own state all t1)
  changed_comes state t t1 used xs all st filled =
      let world_is = changed_world state t t1 xs all st filled in
      let quiet : Quiet t.world (come_into_fields s.own xs t.world) = subst (Quiet t.world) filled.world filled.quiet in
      record {
        kept = record { by = λ n u. at_alike shape t1.slots 0 (option_map (narrowed_this state) (t1.slots 0)) (narrowed_shape state (t1.slots 0)) n ∙ filled.alike.slots n };
        later = subst (Later t.world) (sym world_is) (later_on (quiet_later quiet) (later_edit (moved_to s.own state xs) (λ o. refl) s.this (come_into_fields s.own xs t.world)));
        noted = changed_noted state t t1 xs all st filled;
        fuel = subst (λ n. n ≤ most) (sym (ap (λ (w : World). w.fuel) world_is ∙ edited_fuel (moved_to s.own state xs) s.this (come_into_fields s.own xs t.world) ∙ quiet.fuel)) st.fuel;
      }
