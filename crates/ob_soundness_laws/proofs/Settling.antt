-- Where a run has ended, each object is one of the table and holds its fields as they are declared.
use Rattle.std.proofs.Common.{◌≡◌, ◌≢◌, ℕ, ◌+◌, ◌<◌, true, false, List, [], ◌∷◌, length, Option, Some, None, refl, sym, ap, subst, ◌∙◌, arith, true≢false, ⊎_elim, ◌⊎◌, inl, inr}
use Rattle.std.specs.Prelude.{slice_get, is_some, IsSomeAnd, IfSome}
use Rattle.std.specs.Option.{option_map_or, option_and_then}
use Rattle.std.proofs.lemmas.Bool.{cases_Bool, both_ways}
use Rattle.std.proofs.lemmas.Bool.Decides.{eqb_tells}
use Rattle.ob_perm.specs.States.{States}
use Rattle.ob_perm.specs.Permissions.{Permission, owned, shared, unowned}
use Rattle.ob_table.specs.Tables.{ClassTable, contract_at}
use Rattle.ob_table.specs.declared.contract.Contract.{Contract}
use Rattle.ob_table.specs.declared.contract.Field.{Field}
use Rattle.ob_table.specs.declared.contract.ResolvedType.{ResolvedType}
use Rattle.ob_table.specs.declared.contract.ResolvedType.TheVariants.{Int, Bool as BoolKind, Text, Reference as TypedReference}
use Rattle.ob_table.specs.declared.seen.Kind.{Kind}
use Rattle.ob_table_spec.specs.Conditions.{IsClassTable}
use Rattle.ob_table_spec.specs.WellFormed.{kind_of_resolved}
use Rattle.ob_heap_spec.specs.Values.{Value, int_value, bool_value, text_value, reference}
use Rattle.ob_heap_spec.specs.Objects.{Object, has_field, is_available, seen_state, state_number}
use Rattle.ob_heap_spec.specs.Contents.{IsValueOf, IsObject}
use Rattle.ob_silica_places.specs.Known.{Known, known, permission_of_type}
use Rattle.ob_silica_steps.specs.Cells.{Cell, cell}
use Rattle.ob_silica_steps.specs.Configurations.{How, by_receiver, by_this, by_new, Rest, Configuration}
use Rattle.ob_silica_steps.specs.Here.{self_of, field_of}
use Rattle.ob_silica_steps.specs.Starting.{declared_note}
use Rattle.ob_flow_spec.specs.Contexts.{exit_of_field}
use Rattle.ob_flow_spec.specs.Returning.{tests_ended}
use Rattle.ob_places_laws.specs.Serving.{AreAmong, Allows}
use Rattle.ob_coherent_spec.specs.Counting.{nth_object, field_cell}
use Rattle.ob_coherent_spec.specs.Runs.{around, tested_places, entered_at, constructing_at, entries, constructions}
use Rattle.ob_coherent_spec.specs.Standing.{IsOfKind, RefersToIn, is_in, Stands, IsObjectInRun, NeedsOwner}
use Rattle.ob_coherent_spec.specs.Saying.{SaysOf}
use Rattle.ob_coherent_spec.specs.Remaining.{body_of}
use Rattle.ob_coherent_spec.specs.Waiting.{is_on_this, tests_of, AllWait}
use Rattle.ob_coherent_spec.specs.Coherent.{Beginning, IsAsDeclared, LeavesSo, IsLeaving}
use Rattle.ob_soundness_laws.proofs.counting.Objects.{field_cell_of}
use Rattle.ob_soundness_laws.proofs.places.Standing.{reference_is}
use Rattle.ob_soundness_laws.proofs.places.Getting.{AreLow, objects_low, seen_small}
use Rattle.ob_soundness_laws.proofs.returns.Leaving.{left_fields}
use Rattle.ob_soundness_laws.proofs.returns.Resuming.{exit_same, exit_declared}
use Rattle.ob_soundness_laws.proofs.Resting.{HoldsDeclared}

-- A cell whose permission serves as another one stands as that one.
module _ (table : ClassTable) (made : IsClassTable table) (objects : List Object) (low : AreLow objects) where
  among_refers : (k : Kind) (value : Value) (a b : States) → IsOfKind table objects k value → AreAmong a b
      → RefersToIn table objects k a value → RefersToIn table objects k b value
  among_refers k (reference n) a b i among h =
      let r = reference_is table objects k n i in
      subst (λ m. is_in table m b (nth_object objects n) ≡ true) (sym r.1)
      (among (seen_state table r.0 (nth_object objects n)) (seen_small table made (nth_object objects n) r.0 r.3 (low n r.2))
      (subst (λ m. is_in table m a (nth_object objects n) ≡ true) r.1 h))
  among_refers k (int_value z) a b i among h = h
  among_refers k (bool_value z) a b i among h = h
  among_refers k (text_value z) a b i among h = h

  pub stands_as : (x : Cell) (p : Permission) → Allows p x.note.permission → Stands table objects x
      → Stands table objects (cell x.value x.note.kind p)
  stands_as x (owned a) allows s = record {
    kind = s.kind;
    marked = λ e. absurd (let z : owned a ≡ shared = e in cc);
    states = λ b e. let same : a ≡ b = cc in subst (λ (d : States). RefersToIn table objects x.note.kind d x.value) same
        (among_refers x.note.kind x.value allows.0 a s.kind allows.2 (s.states allows.0 allows.1));
  }
  stands_as x shared allows s = record {
    kind = s.kind;
    marked = λ e. s.marked allows;
    states = λ b e. absurd (let z : shared ≡ owned b = e in cc);
  }
  stands_as x unowned allows s = record {
    kind = s.kind;
    marked = λ e. absurd (let z : unowned ≡ shared = e in cc);
    states = λ b e. absurd (let z : unowned ≡ owned b = e in cc);
  }

value_of_kind : (table : ClassTable) (objects : List Object) (of : ResolvedType) (v : Value)
    → IsOfKind table objects (kind_of_resolved of) v → IsValueOf objects of v
value_of_kind table objects Int (int_value z) k = k
value_of_kind table objects Int (bool_value z) k = k
value_of_kind table objects Int (text_value z) k = k
value_of_kind table objects Int (reference n) k = k
value_of_kind table objects BoolKind (int_value z) k = k
value_of_kind table objects BoolKind (bool_value z) k = k
value_of_kind table objects BoolKind (text_value z) k = k
value_of_kind table objects BoolKind (reference n) k = k
value_of_kind table objects Text (int_value z) k = k
value_of_kind table objects Text (bool_value z) k = k
value_of_kind table objects Text (text_value z) k = k
value_of_kind table objects Text (reference n) k = k
value_of_kind table objects (TypedReference c p) (int_value z) k = k
value_of_kind table objects (TypedReference c p) (bool_value z) k = k
value_of_kind table objects (TypedReference c p) (text_value z) k = k
value_of_kind table objects (TypedReference c p) (reference n) k = k.0

some_field : (o : Object) (x : Option Field) → option_map_or (is_available o.state) x false ≡ true
    → (f : Field) × (x ≡ Some f) × (is_available o.state f ≡ true)
some_field o None e = absurd (true≢false (sym e))
some_field o (Some f) e = (f, refl, e)

module _ (table : ClassTable) (made : IsClassTable table) (entry : Option ℕ) (beginning : Beginning) (c : Configuration)
    (k : IsLeaving table entry beginning c) (outer : k.outer ≡ []) (alone : c.stack ≡ []) where
  abbrev objects : List Object
  objects = c.world.objects

  pub not_on_this : c.frame.how ≢ by_this
  not_on_this e = absurd (let z : is_on_this c.frame.how ≡ false = subst (λ hs. AllWait table (NeedsOwner table objects) c c.frame k.whole.parts
      (self_of c.frame.slots ∷ []) (λ n. tests_of n c.frame.slots (around c.control)) hs) alone k.whole.waiting in
      true≢false (ap is_on_this (sym e) ∙ z))

  pub leaves_now : LeavesSo (body_of table c.frame k.whole.parts) c.frame.how k.context
      (state_number (nth_object objects (self_of c.frame.slots)).state)
  leaves_now = subst (λ (o : List Rest). LeavesSo (body_of table c.frame k.whole.parts) c.frame.how (tests_ended (tested_places o) k.context)
      (state_number (nth_object objects (self_of c.frame.slots)).state)) outer k.leaves_so

  -- an object that isn't the frame's has no frame
  no_entry : (i : ℕ) → self_of c.frame.slots ≢ i → (entries i c ≡ 0) × (constructions i c ≡ 0)
  no_entry i other = rw alone (by_how c.frame.how)
    where
      by_how : (how : How) → (entered_at i how c.frame.slots + 0 ≡ 0) × (constructing_at i how c.frame.slots + 0 ≡ 0)
      by_how by_receiver = rw (Rattle.std.proofs.lemmas.Bool.ne_eqb (self_of c.frame.slots) i other) (omega arith, omega arith)
      by_how by_this = (omega arith, omega arith)
      by_how by_new = rw (Rattle.std.proofs.lemmas.Bool.ne_eqb (self_of c.frame.slots) i other) (omega arith, omega arith)

  declared_self : IsAsDeclared table (NeedsOwner table objects) c.notes objects (self_of c.frame.slots)
  declared_self = record {
    placed = k.placed;
    fields = λ j f is there. field j f is there;
  }
    where
      field : (j : ℕ) (f : Field) → field_of table (nth_object objects (self_of c.frame.slots)) j ≡ Some f
          → is_available (nth_object objects (self_of c.frame.slots)).state f ≡ true
          → SaysOf (NeedsOwner table objects) (Some (declared_note f.of)) (field_cell c.notes objects (self_of c.frame.slots) j)
      field j f is there =
          let at : slice_get k.whole.parts.own.fields j ≡ Some f =
          ap (option_and_then (λ (d : Contract). slice_get d.fields j)) (sym k.whole.frame.own
          ∙ ap (contract_at table) (sym k.whole.frame.contract)) ∙ is in
          let e : exit_of_field (body_of table c.frame k.whole.parts) k.whole.parts.signature j ≡ permission_of_type f.of =
          exit_same (body_of table c.frame k.whole.parts) k.whole.parts.signature j
          ∙ exit_declared k.whole.parts.own k.whole.parts.signature j f (k.whole.frame.listed not_on_this) at in
          subst (λ (p : Permission). SaysOf (NeedsOwner table objects) (Some (known (kind_of_resolved f.of) p))
          (field_cell c.notes objects (self_of c.frame.slots) j)) e
          (left_fields table entry beginning c made k leaves_now j f at there)

  -- each object is as it's declared
  pub all_declared : (i : ℕ) → i < length objects → IsAsDeclared table (NeedsOwner table objects) c.notes objects i
  all_declared i below = ⊎_elim
      (λ same. subst (IsAsDeclared table (NeedsOwner table objects) c.notes objects) same.1 declared_self)
      (λ other. let none = no_entry i other.1 in k.whole.declared i below none.0 none.1)
      (eqb_tells (self_of c.frame.slots) i)

  low : AreLow objects
  low = objects_low table made c.notes objects k.whole.objects

  -- and holds its fields so
  pub holds_declared : (i : ℕ) → i < length objects → HoldsDeclared table objects (nth_object objects i)
  holds_declared i below = record { own = run.own; contract = run.contract; stands = stands }
    where
      run : IsObjectInRun table c.notes i (nth_object objects i)
      run = k.whole.objects i below

      stands : (j : ℕ) (f : Field) (v : Value) → slice_get run.own.fields j ≡ Some f → is_available (nth_object objects i).state f ≡ true
          → (nth_object objects i).fields j ≡ Some v → Stands table objects (cell v (kind_of_resolved f.of) (permission_of_type f.of))
      stands j f v is there e =
          let x : Cell = record { value = v; note = c.notes.fields i j } in
          let at : field_cell c.notes objects i j ≡ Some x = field_cell_of c.notes objects i j (Some v) e in
          let says : SaysOf (NeedsOwner table objects) (Some (declared_note f.of)) (Some x) =
          subst (SaysOf (NeedsOwner table objects) (Some (declared_note f.of))) at ((all_declared i below).fields j f
          (ap (option_and_then (λ (d : Contract). slice_get d.fields j)) run.contract ∙ is) there) in
          subst (λ (m : Kind). Stands table objects (cell v m (permission_of_type f.of))) says.known.0
          (stands_as table made objects low x (permission_of_type f.of) says.known.1 (k.whole.fields i j x at))

  -- each object is one of the table
  pub is_object : (i : ℕ) → i < length objects → IsObject table objects (nth_object objects i)
  is_object i below = rw run.contract (record {
    contract = run.class;
    state = rw run.contract at (all_declared i below).placed;
    fields = λ j. has_value j (cases_Bool (has_field run.own (nth_object objects i).state j));
    values = λ j. is_value j ((nth_object objects i).fields j) refl;
  })
    where
      run : IsObjectInRun table c.notes i (nth_object objects i)
      run = k.whole.objects i below

      declared_at : (j : ℕ) → has_field run.own (nth_object objects i).state j ≡ true
          → (f : Field) × (slice_get run.own.fields j ≡ Some f) × SaysOf (NeedsOwner table objects) (Some (declared_note f.of)) (field_cell c.notes objects i j)
      declared_at j there = let f = some_field (nth_object objects i) (slice_get run.own.fields j) there in (
        f.0,
        f.1,
        (all_declared i below).fields j f.0
            (ap (option_and_then (λ (d : Contract). slice_get d.fields j)) run.contract ∙ f.1) f.2,
      )

      is_there : (j : ℕ) (y : Known) (v : Option Value) → (nth_object objects i).fields j ≡ v
          → SaysOf (NeedsOwner table objects) (Some y) (field_cell c.notes objects i j) → is_some v ≡ true
      is_there j y None e s = absurd (subst (SaysOf (NeedsOwner table objects) (Some y)) (field_cell_of c.notes objects i j None e) s).known
      is_there j y (Some v) e s = refl

      has_value : (j : ℕ) → (has_field run.own (nth_object objects i).state j ≡ true) ⊎ (has_field run.own (nth_object objects i).state j ≡ false)
          → is_some ((nth_object objects i).fields j) ≡ has_field run.own (nth_object objects i).state j
      has_value j (inl there) = let f = declared_at j there in
          is_there j (declared_note f.0.of) ((nth_object objects i).fields j) refl f.2 ∙ sym there
      has_value j (inr gone) = ap is_some (run.fields j gone) ∙ sym gone

      is_value : (j : ℕ) (v : Option Value) → (nth_object objects i).fields j ≡ v
          → IfSome v (λ v. IsSomeAnd (slice_get run.own.fields j) (λ f. IsValueOf objects f.of v))
      is_value j None e = tt
      is_value j (Some v) e = let f = declared_at j (⊎_elim (λ y. y) (λ gone. absurd (let z : ◌≡◌ {A = Option Value} None (Some v) = sym (run.fields j gone) ∙ e in cc))
          (cases_Bool (has_field run.own (nth_object objects i).state j))) in
          let x : Cell = record { value = v; note = c.notes.fields i j } in
          let at : field_cell c.notes objects i j ≡ Some x = field_cell_of c.notes objects i j (Some v) e in
          let says = subst (SaysOf (NeedsOwner table objects) (Some (declared_note f.0.of))) at f.2 in
          subst (λ (y : Option Field). IsSomeAnd y (λ f. IsValueOf objects f.of v)) (sym f.1)
          (value_of_kind table objects f.0.of v (subst (λ (m : Kind). IsOfKind table objects m v) says.known.0 (k.whole.fields i j x at).kind))
