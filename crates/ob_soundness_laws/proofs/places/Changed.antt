-- What stands once `this` has changed its state.
use Rattle.std.proofs.Common.{◌≡◌, ◌≢◌, ℕ, List, inl, ◌<◌, Bool, true, false, not, ◌&&◌, length, Option, Some, None, refl, sym, ap, subst, ◌∙◌, arith, ⊎_elim}
use Rattle.std.specs.Prelude.{nat_eq, nat_lt, slice_get, option_map, IfSome, if◌then◌else◌}
use Rattle.std.proofs.lemmas.Bool.{cases_Bool, both_ways, and_left, and_right, cond-true, cond-false, ne_eqb}
use Rattle.std.proofs.lemmas.Bool.Decides.{eqb_tells}
use Rattle.std.proofs.lemmas.Option.{same_Some}
use Rattle.ob_base.specs.declared.id.StateId.{StateId}
use Rattle.ob_perm.specs.States.{States, only}
use Rattle.ob_perm.specs.Permissions.{owned, shared, unowned, owns}
use Rattle.ob_table.specs.Tables.{ClassTable, contract_at}
use Rattle.ob_table.specs.declared.contract.Contract.{Contract}
use Rattle.ob_table.specs.declared.contract.Field.{Field}
use Rattle.ob_table.specs.declared.seen.Kind.{Kind}
use Rattle.ob_table.specs.declared.seen.Kind.TheVariants.{Reference}
use Rattle.ob_table_spec.specs.WellFormed.{kind_of_resolved}
use Rattle.ob_heap_spec.specs.Values.{Value, reference, Numbered}
use Rattle.ob_heap_spec.specs.Objects.{Object, state_number, has_field, is_available, seen_state}
use Rattle.ob_silica_places.specs.Known.{Known, known}
use Rattle.ob_silica_places.specs.Places.{Location, slot, field, this}
use Rattle.ob_silica_steps.specs.Cells.{Cell, noted, permission_in, object_in}
use Rattle.ob_silica_steps.specs.Configurations.{Configuration, Rest}
use Rattle.ob_silica_steps.specs.Here.{Here, here, self_of, read}
use Rattle.ob_silica_steps.specs.Changing.{value_after, values_after, changed_object, note_after, narrowed_this, changed_here}
use Rattle.ob_flow_spec.specs.Contexts.{BodyFrame, Context, is_tested, field_count, available, with_permission, permission_on, permission_at}
use Rattle.ob_flow_spec.specs.Joining.{same_mode}
use Rattle.ob_flow_spec.specs.Changing.{in_state}
use Rattle.ob_places_laws.proofs.Sets.{only_itself}
use Rattle.ob_places_laws.proofs.Permissions.{same_mode_owns}
use Rattle.ob_places_laws.proofs.Serves.{allows_itself}
use Rattle.ob_places_laws.proofs.SeenStates.{seen_itself}
use Rattle.ob_coherent_spec.specs.Counting.{nth_object, field_cell, in_cell}
use Rattle.ob_coherent_spec.specs.Runs.{tested_places}
use Rattle.ob_coherent_spec.specs.Standing.{RefersToIn, Stands, AllStand, IsObjectInRun}
use Rattle.ob_coherent_spec.specs.Saying.{SaysOf, Says, own_object, every}
use Rattle.ob_soundness_laws.specs.frames.Steps.{LeavesOthers, KeepsArgument}
use Rattle.ob_soundness_laws.proofs.counting.Cells.{cell_uncounted}
use Rattle.ob_soundness_laws.proofs.counting.Changing.{cell_after, field_after}
use Rattle.ob_soundness_laws.specs.places.Placed.{cell_at, Stays}
use Rattle.ob_soundness_laws.proofs.counting.Objects.{edit_length, edit_same, edit_other, edit_locked, edit_progress}
use Rattle.ob_soundness_laws.proofs.places.Objects.{at_same, at_other, edit_each}
use Rattle.ob_soundness_laws.proofs.places.Reading.{self_same, read_is, field_cell_is, field_cell_from, has_field_from}
use Rattle.ob_soundness_laws.proofs.places.Keeping.{OpensKept}
use Rattle.ob_soundness_laws.proofs.places.Standing.{ObjectsKeep, kind_keeps, stands_keeps}

module _ (own : Contract) (state : StateId) (got : Numbered Cell) (h : Here) where
  -- `this`, which knows its state where it owns

  pub narrowed_owner : (x : Cell) → owns x.note.permission ≡ true
      → narrowed_this state x ≡ noted (owned (only state.0)) x
  narrowed_owner x e = cond-true (owns x.note.permission) (noted (owned (only state.0)) x) x e

  pub narrowed_other : (x : Cell) → owns x.note.permission ≡ false → narrowed_this state x ≡ x
  narrowed_other x e = cond-false (owns x.note.permission) (noted (owned (only state.0)) x) x e

  narrowed_object : (x : Option Cell) → object_in (option_map (narrowed_this state) x) ≡ object_in x
  narrowed_object None = refl
  narrowed_object (Some x) = ⊎_elim
      (λ e. ap (λ (y : Cell). object_in (Some y)) (narrowed_owner x e))
      (λ e. ap (λ (y : Cell). object_in (Some y)) (narrowed_other x e))
      (cases_Bool (owns x.note.permission))

  pub changed_self : self_of (changed_here own state got h).slots ≡ self_of h.slots
  changed_self = self_same h.slots (changed_here own state got h).slots
      (ap object_in (at_same h.slots 0 (option_map (narrowed_this state) (h.slots 0))) ∙ narrowed_object (h.slots 0))

  pub changed_this : (changed_here own state got h).slots 0 ≡ option_map (narrowed_this state) (h.slots 0)
  changed_this = at_same h.slots 0 (option_map (narrowed_this state) (h.slots 0))

  pub changed_slot : (k : ℕ) → k ≢ 0 → (changed_here own state got h).slots k ≡ h.slots k
  changed_slot k ne = at_other h.slots 0 (option_map (narrowed_this state) (h.slots 0)) k ne

  -- Objects.

  pub changed_contracts : (n : ℕ)
      → (nth_object (changed_here own state got h).world.objects n).contract ≡ (nth_object h.world.objects n).contract
  changed_contracts = edit_each (λ o p. p.contract ≡ o.contract) (changed_object own state got)
      (self_of h.slots) h.world (λ o. refl) (λ o. refl)

  pub changed_shared : (n : ℕ)
      → (nth_object (changed_here own state got h).world.objects n).shared ≡ (nth_object h.world.objects n).shared
  changed_shared = edit_each (λ o p. p.shared ≡ o.shared) (changed_object own state got) (self_of h.slots) h.world
      (λ o. refl) (λ o. refl)

  pub changed_disowned : (n : ℕ)
      → (nth_object (changed_here own state got h).world.objects n).disowned ≡ (nth_object h.world.objects n).disowned
  changed_disowned = edit_each (λ o p. p.disowned ≡ o.disowned) (changed_object own state got) (self_of h.slots) h.world
      (λ o. refl) (λ o. refl)

  pub changed_count : length (changed_here own state got h).world.objects ≡ length h.world.objects
  changed_count = edit_length (changed_object own state got) (self_of h.slots) h.world

  pub changed_locked : (changed_here own state got h).world.locked ≡ h.world.locked
  changed_locked = edit_locked (changed_object own state got) (self_of h.slots) h.world

  pub changed_keeps : ObjectsKeep h.world.objects (changed_here own state got h).world.objects
  changed_keeps = record {
    count = let e = changed_count in omega (arith, e);
    contracts = λ n lt. changed_contracts n;
    shared = λ n lt e. changed_shared n ∙ e;
  }

  -- other frames and objects are left as they are
  pub changed_leaves : (c : Configuration) → Stays (here c) h → LeavesOthers c (changed_here own state got h)
  changed_leaves c s = record {
    count = changed_count ∙ s.count;
    contracts = λ n. changed_contracts n ∙ s.contracts n;
    states = λ n ne. ap (λ (o : Object). o.state)
        (edit_other (changed_object own state got) (self_of h.slots) h.world n (λ e. ne (e ∙ s.this))) ∙ s.states n;
    fields = λ n k ne. ap (λ (o : Object). o.fields k)
        (edit_other (changed_object own state got) (self_of h.slots) h.world n (λ e. ne (e ∙ s.this)))
        ∙ s.fields n k ne;
    notes = λ n k ne. ap (λ (f : ℕ → Known). f k)
        (at_other h.notes.fields (self_of h.slots) (λ j. note_after (got j) (h.notes.fields (self_of h.slots) j)) n
        (λ e. ne (e ∙ s.this))) ∙ s.notes n k ne;
    shared = λ n e. changed_shared n ∙ s.shared n e;
    disowned = λ n e. changed_disowned n ∙ s.disowned n e;
    handles = s.handles;
    progress = edit_progress (changed_object own state got) (self_of h.slots) h.world
        ∙ s.progress;
  }

  module _ (there : self_of h.slots < length h.world.objects) where
    pub changed_is : nth_object (changed_here own state got h).world.objects
        (self_of h.slots) ≡ changed_object own state got (own_object h)
    changed_is = edit_same (changed_object own state got) (self_of h.slots) h.world there

    pub changed_state : (nth_object (changed_here own state got h).world.objects (self_of h.slots)).state ≡ Some state
    changed_state = ap (λ (o : Object). o.state) changed_is

    -- what stands stands again, if it doesn't own the object
    pub stands_changed : (table : ClassTable) (x : Cell) → in_cell owns (self_of h.slots) (Some x) ≡ 0
        → Stands table h.world.objects x
        → Stands table (changed_here own state got h).world.objects x
    stands_changed table x none s = stands_keeps table h.world.objects
        (changed_here own state got h).world.objects changed_keeps x
        (λ n lt has. ap (λ (o : Object). o.state) (edit_other (changed_object own state got) (self_of h.slots) h.world n
        (λ e. let d = subst (λ m. 0 < in_cell owns m (Some x)) e has in omega (arith, d, none)))) s

    -- and `this` stands
    pub this_stands_changed : (table : ClassTable) (x : Cell) → x.value ≡ reference (self_of h.slots)
        → x.note.kind ≡ Reference (own_object h).contract
        → Stands table h.world.objects x
        → Stands table (changed_here own state got h).world.objects (narrowed_this state x)
    this_stands_changed table x v kind s = ⊎_elim
        (λ e. subst (Stands table (changed_here own state got h).world.objects) (sym (narrowed_owner x e)) (record {
          kind = kind_keeps table h.world.objects
              (changed_here own state got h).world.objects changed_keeps x.note.kind x.value s.kind;
          marked = λ d. absurd (let z : owned (only state.0) ≡ shared = d in cc);
          states = λ a d. inside a d;
        }))
        (λ e. subst (Stands table (changed_here own state got h).world.objects) (sym (narrowed_other x e))
        (stands_changed table x (cell_uncounted owns (self_of h.slots) x e) s))
        (cases_Bool (owns x.note.permission))
      where
        states_same : {a b : States} → owned a ≡ owned b → a ≡ b
        states_same e = cc

        seen_now : seen_state table (own_object h).contract
            (nth_object (changed_here own state got h).world.objects (self_of h.slots)) ≡ state.0
        seen_now = ap (λ c. seen_state table c
            (nth_object (changed_here own state got h).world.objects (self_of h.slots)))
            (sym (changed_contracts (self_of h.slots)))
            ∙ seen_itself table (nth_object (changed_here own state got h).world.objects (self_of h.slots))
            ∙ ap state_number changed_state

        inside : (a : States) → owned (only state.0) ≡ owned a
            → RefersToIn table (changed_here own state got h).world.objects x.note.kind a x.value
        inside a d = subst (λ (k : Kind). RefersToIn table (changed_here own state got h).world.objects k a x.value)
            (sym kind)
            (subst (RefersToIn table (changed_here own state got h).world.objects (Reference (own_object h).contract) a)
            (sym v)
            (ap a seen_now ∙ ap (λ (b : States). b state.0) (sym (states_same d)) ∙ only_itself state.0))

    -- slots stand, where none but that of `this` owns the object
    pub slots_stand_changed : (table : ClassTable)
        → ((x : Cell) → h.slots 0 ≡ Some x → (x.value ≡ reference (self_of h.slots))
        × (x.note.kind ≡ Reference (own_object h).contract))
        → ((k : ℕ) → k ≢ 0 → in_cell owns (self_of h.slots) (h.slots k) ≡ 0) → AllStand table h.world.objects h.slots
        → AllStand table (changed_here own state got h).world.objects (changed_here own state got h).slots
    slots_stand_changed table is none a k x e = ⊎_elim
        (λ q. at_this (h.slots 0) refl (sym changed_this ∙ ap (changed_here own state got h).slots (sym q.1) ∙ e))
        (λ q. let d = sym (changed_slot k q.1) ∙ e in
        stands_changed table x (ap (in_cell owns (self_of h.slots)) (sym d) ∙ none k q.1) (a k x d))
        (eqb_tells k 0)
      where
        at_this : (y : Option Cell) → h.slots 0 ≡ y → option_map (narrowed_this state) (h.slots 0) ≡ Some x
            → Stands table (changed_here own state got h).world.objects x
        at_this None d c = absurd
            (let z : ◌≡◌ {A = Option Cell} None (Some x) = sym (ap (option_map (narrowed_this state)) d) ∙ c in cc)
        at_this (Some y) d c = subst (Stands table (changed_here own state got h).world.objects)
            (same_Some (narrowed_this state y) x (sym (ap (option_map (narrowed_this state)) d) ∙ c))
            (this_stands_changed table y (is y d).0 (is y d).1 (a 0 y d))

    -- fields stand, where neither they nor what they got own the object
    pub fields_stand_changed : (table : ClassTable)
        → ((k : ℕ) (x : Cell) → got k ≡ Some x → Stands table h.world.objects x
        × (in_cell owns (self_of h.slots) (Some x) ≡ 0))
        → ((k : ℕ) → in_cell owns (self_of h.slots) (field_cell h.notes h.world.objects (self_of h.slots) k) ≡ 0)
        → AllStand table h.world.objects (field_cell h.notes h.world.objects (self_of h.slots))
        → AllStand table (changed_here own state got h).world.objects
        (field_cell (changed_here own state got h).notes (changed_here own state got h).world.objects (self_of h.slots))
    fields_stand_changed table given none a k x e = by_got (got k) refl (has_field own (Some state) k)
        (sym (field_after own state got h there k) ∙ e)
      where
        by_got : (y : Option Cell) → got k ≡ y → (b : Bool)
            → cell_after (got k) b (field_cell h.notes h.world.objects (self_of h.slots) k) ≡ Some x
            → Stands table (changed_here own state got h).world.objects x
        by_got (Some y) d b c =
            let same : y ≡ x = same_Some y x
            (sym (ap (λ z. cell_after z b (field_cell h.notes h.world.objects (self_of h.slots) k)) d) ∙ c) in
            let u = given k y d in
            subst (Stands table (changed_here own state got h).world.objects) same (stands_changed table y u.1 u.0)
        by_got None d true c =
            let is = sym (ap (λ z. cell_after z true (field_cell h.notes h.world.objects (self_of h.slots) k)) d) ∙ c in
            stands_changed table x (ap (in_cell owns (self_of h.slots)) (sym is) ∙ none k) (a k x is)
        by_got None d false c = absurd
            (let z : ◌≡◌ {A = Option Cell} None (Some x) = sym
            (ap (λ z. cell_after z false (field_cell h.notes h.world.objects (self_of h.slots) k)) d) ∙ c in cc)

    -- `this` is an object in run, where what fields got is of their kinds, and they are there in the state
    pub in_run_changed : (table : ClassTable)
        (r : IsObjectInRun table h.notes (self_of h.slots) (nth_object h.world.objects (self_of h.slots)))
        → r.own ≡ own → state.0 < length own.states
        → ((k : ℕ) (x : Cell) → got k ≡ Some x → (f : Field) × (slice_get own.fields k ≡ Some f)
        × (is_available (Some state) f ≡ true) × (x.note.kind ≡ kind_of_resolved f.of))
        → IsObjectInRun table (changed_here own state got h).notes (self_of h.slots)
        (nth_object (changed_here own state got h).world.objects (self_of h.slots))
    in_run_changed table r same low given = record {
      own = own;
      contract = ap (contract_at table) (changed_contracts (self_of h.slots)) ∙ r.contract ∙ ap Some same;
      class = ap (λ (c : Contract). c.interface) (sym same) ∙ r.class;
      state = subst (λ s. IfSome s (λ s. s.0 < length own.states)) (sym changed_state) low;
      fields = λ k e. ap (λ (o : Object). o.fields k) changed_is
          ∙ none k (ap (λ s. has_field own s k) (sym changed_state) ∙ e);
      kinds = λ k f v e d. kind k f v e
          (sym (field_after own state got h there k)
          ∙ field_cell_from (changed_here own state got h).notes (changed_here own state got h).world.objects
          (self_of h.slots) k v d);
    }
      where
        none : (k : ℕ) → has_field own (Some state) k ≡ false
            → values_after own state got (own_object h).fields k ≡ None
        none k e = by_got (got k) refl
          where
            by_got : (y : Option Cell) → got k ≡ y → values_after own state got (own_object h).fields k ≡ None
            by_got None d = ap (λ z. value_after z
                (if has_field own (Some state) k then (own_object h).fields k else None)) d
                ∙ ap (λ (b : Bool). if b then (own_object h).fields k else None) e
            by_got (Some x) d = let u = given k x d in
                absurd (both_ways _ e (has_field_from own (Some state) k u.0 u.1 u.2))

        kind : (k : ℕ) (f : Field) (v : Value) → slice_get own.fields k ≡ Some f
            → cell_after (got k) (has_field own (Some state) k) (field_cell h.notes h.world.objects (self_of h.slots) k)
            ≡ Some (record { value = v; note = (changed_here own state got h).notes.fields (self_of h.slots) k })
            → ((changed_here own state got h).notes.fields (self_of h.slots) k).kind ≡ kind_of_resolved f.of
        kind k f v e c = by_got (got k) refl (has_field own (Some state) k) c
          where
            by_got : (y : Option Cell) → got k ≡ y → (b : Bool)
                → cell_after (got k) b (field_cell h.notes h.world.objects (self_of h.slots) k)
                ≡ Some (record { value = v; note = (changed_here own state got h).notes.fields (self_of h.slots) k })
                → ((changed_here own state got h).notes.fields (self_of h.slots) k).kind ≡ kind_of_resolved f.of
            by_got (Some x) d b c =
                let u = given k x d in
                let is : x ≡ record {
                  value = v;
                  note = (changed_here own state got h).notes.fields
                      (self_of h.slots) k;
                } = same_Some x _
                (sym (ap (λ z. cell_after z b (field_cell h.notes h.world.objects (self_of h.slots) k)) d) ∙ c) in
                ap (λ (y : Cell). y.note.kind) (sym is) ∙ u.3
                ∙ ap (λ (y : Field). kind_of_resolved y.of) (same_Some u.0 f (sym u.1 ∙ e))
            by_got None d true c =
                let is = field_cell_is h.notes h.world.objects (self_of h.slots) k
                (record { value = v; note = (changed_here own state got h).notes.fields (self_of h.slots) k })
                (sym (ap (λ z. cell_after z true (field_cell h.notes h.world.objects (self_of h.slots) k)) d)
                ∙ c) in
                ap (λ (y : Known). y.kind) (sym is.1)
                ∙ r.kinds k f v (ap (λ (q : Contract). slice_get q.fields k) same ∙ e) is.0
            by_got None d false c = absurd
                (let z : ◌≡◌ {A = Option Cell} None
                (Some (record {
                  value = v;
                  note = (changed_here own state got h).notes.fields
                      (self_of h.slots) k;
                })) = sym
                (ap (λ z. cell_after z false (field_cell h.notes h.world.objects (self_of h.slots) k)) d) ∙ c in cc)

    -- What the context of the new state says.

    in_state_field : (b : BodyFrame) (g : Context) (k : ℕ) → available b k state.0 ≡ true
        → in_state b state g (field k) ≡ g (field k)
    in_state_field b g k e = cond-false (nat_lt k (field_count b) && not (available b k state.0)) _ (g (field k))
        (and_right (nat_lt k (field_count b)) (not (available b k state.0)) (ap not e))

    says_this : (N : ℕ → Type 0) (y : Option Known) (x : Option Cell)
        → same_mode (permission_on y) (permission_in x) ≡ true → SaysOf N y x
        → SaysOf N (if owns (permission_on y) then with_permission (owned (only state.0)) y else y)
        (option_map (narrowed_this state) x)
    says_this N None x m s = record { known = tt; owner = λ n l has. absurd (no_owner x m n has) }
      where
        no_owner : (x : Option Cell) → same_mode unowned (permission_in x) ≡ true → (n : ℕ)
            → 0 < in_cell owns n (option_map (narrowed_this state) x) → ⊥
        no_owner None m n has = omega (arith, has)
        no_owner (Some x) m n has =
            let e : owns x.note.permission ≡ false = sym (same_mode_owns unowned x.note.permission m) in
            let d = ap (λ z. in_cell owns n (Some z)) (narrowed_other x e) ∙ cell_uncounted owns n x e in
            omega (arith, has, d)
    says_this N (Some y) None m s = absurd s.known
    says_this N (Some y) (Some x) m s = ⊎_elim
        (λ e. subst (λ z. SaysOf N z (Some (narrowed_this state x)))
        (sym (cond-true (owns y.permission) (Some (known y.kind (owned (only state.0)))) (Some y) e))
        (subst (λ z. SaysOf N (Some (known y.kind (owned (only state.0)))) (Some z))
        (sym (narrowed_owner x (sym (same_mode_owns y.permission x.note.permission m) ∙ e)))
        (record { known = (s.known.0, allows_itself (owned (only state.0))); owner = λ n l has. refl })))
        (λ e. subst (λ z. SaysOf N z (Some (narrowed_this state x)))
        (sym (cond-false (owns y.permission) (Some (known y.kind (owned (only state.0)))) (Some y) e))
        (subst (λ z. SaysOf N (Some y) (Some z))
        (sym (narrowed_other x (sym (same_mode_owns y.permission x.note.permission m) ∙ e))) s))
        (cases_Bool (owns y.permission))

    mode_this : (y : Option Known) (x : Option Cell) → same_mode (permission_on y) (permission_in x) ≡ true
        → same_mode (permission_on (if owns (permission_on y) then with_permission (owned (only state.0)) y else y))
        (permission_in (option_map (narrowed_this state) x)) ≡ true
    mode_this None None m = m
    mode_this None (Some x) m = ap (λ z. same_mode unowned (permission_in (Some z)))
        (narrowed_other x (sym (same_mode_owns unowned x.note.permission m))) ∙ m
    mode_this (Some y) None m = ap (λ z. same_mode (permission_on z) unowned)
        (cond-false (owns y.permission) (Some (known y.kind (owned (only state.0)))) (Some y)
        (same_mode_owns y.permission unowned m)) ∙ m
    mode_this (Some y) (Some x) m = ⊎_elim
        (λ e. ap (λ z. same_mode (permission_on z) (narrowed_this state x).note.permission)
        (cond-true (owns y.permission) (Some (known y.kind (owned (only state.0)))) (Some y) e)
        ∙ ap (λ (z : Cell). same_mode (owned (only state.0)) z.note.permission)
        (narrowed_owner x (sym (same_mode_owns y.permission x.note.permission m) ∙ e)))
        (λ e. ap (λ z. same_mode (permission_on z) (narrowed_this state x).note.permission)
        (cond-false (owns y.permission) (Some (known y.kind (owned (only state.0)))) (Some y) e)
        ∙ ap (λ (z : Cell). same_mode y.permission z.note.permission)
        (narrowed_other x (sym (same_mode_owns y.permission x.note.permission m) ∙ e)) ∙ m)
        (cases_Bool (owns y.permission))

    this_in_state : (b : BodyFrame) (g : Context)
        → in_state b state g this ≡
        (if owns (permission_at g this) then with_permission (owned (only state.0)) (g this) else g this)
    this_in_state b g = refl

    slot_in_state : (b : BodyFrame) (g : Context) (k : ℕ) → k ≢ 0 → in_state b state g (slot k) ≡ g (slot k)
    slot_in_state b g k ne = cond-false (nat_eq k 0 && owns (permission_at g this))
        (with_permission (owned (only state.0)) (g (slot k))) (g (slot k))
        (and_left (nat_eq k 0) (owns (permission_at g this)) (ne_eqb k 0 ne))

    -- Of each slot it says what was said, of `this` its state where it owns; of each field that is there what is said
    -- of what it
    -- got or has.
    pub says_changed : (b : BodyFrame) (N : ℕ → Type 0) (g : Context)
        → same_mode (permission_at g this) (permission_in (h.slots 0)) ≡ true
        → ((k : ℕ) → SaysOf N (g (slot k)) (h.slots k))
        → ((k : ℕ) → available b k state.0 ≡ true
        → SaysOf N (g (field k))
        (cell_after (got k) (has_field own (Some state) k) (field_cell h.notes h.world.objects (self_of h.slots) k)))
        → Says b N (in_state b state g) (changed_here own state got h) every
    says_changed b N g m slots fields = record {
      slots = λ k e. ⊎_elim
          (λ q. subst (λ i. SaysOf N (in_state b state g (slot i)) ((changed_here own state got h).slots i)) (sym q.1)
          (subst (SaysOf N (in_state b state g this)) (sym changed_this)
          (says_this N (g this) (h.slots 0) m (slots 0))))
          (λ q. subst (λ y. SaysOf N y ((changed_here own state got h).slots k)) (sym (slot_in_state b g k q.1))
          (subst (SaysOf N (g (slot k))) (sym (changed_slot k q.1)) (slots k)))
          (eqb_tells k 0);
      fields = λ k av e.
          let there_now = ap (available b k)
          (sym (ap state_number
          (ap (λ n. (nth_object (changed_here own state got h).world.objects n).state) changed_self
          ∙ changed_state))) ∙ av in
          subst (λ y. SaysOf N y (cell_at (changed_here own state got h) (field k)))
          (sym (in_state_field b g k there_now))
          (subst (SaysOf N (g (field k)))
          (sym (ap (λ n. field_cell (changed_here own state got h).notes
          (changed_here own state got h).world.objects n k) changed_self ∙ field_after own state got h there k))
          (fields k there_now));
      mode = λ e. ap (λ x. same_mode (permission_on (in_state b state g this)) (permission_in x)) changed_this
          ∙ mode_this (g this) (h.slots 0) m;
    }

    -- Each argument is kept.
    pub changed_arguments : (left : ℕ → ℕ) (k : ℕ) (x : Cell) → h.slots k ≡ Some x
        → KeepsArgument left x ((changed_here own state got h).slots k)
    changed_arguments left k x e = ⊎_elim
        (λ q. subst (λ i. KeepsArgument left x ((changed_here own state got h).slots i)) (sym q.1)
        (subst (KeepsArgument left x)
        (sym (changed_this ∙ ap (λ i. option_map (narrowed_this state) (h.slots i)) (sym q.1)
        ∙ ap (option_map (narrowed_this state)) e)) narrowed))
        (λ q. subst (KeepsArgument left x) (sym (changed_slot k q.1 ∙ e)) (refl, refl, λ s. inl s))
        (eqb_tells k 0)
      where
        narrowed : KeepsArgument left x (Some (narrowed_this state x))
        narrowed = ⊎_elim
            (λ o. subst (λ y. KeepsArgument left x (Some y)) (sym (narrowed_owner x o))
            (refl, refl, λ s. absurd (let z : owned (only state.0) ≡ shared = s in cc)))
            (λ o. subst (λ y. KeepsArgument left x (Some y)) (sym (narrowed_other x o)) (refl, refl, λ s. inl s))
            (cases_Bool (owns x.note.permission))

    -- Tests stay open, where a field under test isn't given, and is there in the new state.
    pub changed_opens : (table : ClassTable) (outer : List Rest)
        → IsObjectInRun table h.notes (self_of h.slots) (nth_object h.world.objects (self_of h.slots))
        → IsObjectInRun table (changed_here own state got h).notes (self_of (changed_here own state got h).slots)
        (nth_object (changed_here own state got h).world.objects (self_of (changed_here own state got h).slots))
        → ((k : ℕ) → is_tested (tested_places outer) (field k) ≡ true → (got k ≡ None)
        × (has_field own (Some state) k ≡ true))
        → OpensKept table outer h (changed_here own state got h)
    changed_opens table outer r s stays q z t e = at_place q t (sym (read_is table h there r q) ∙ e)
      where
        low : self_of (changed_here own state got h).slots < length (changed_here own state got h).world.objects
        low = let d = changed_self in let n = changed_count in omega (arith, d, n, there)

        at_place : (q : Location) → is_tested (tested_places outer) q ≡ true → cell_at h q ≡ Some z
            → (y : Cell) × (read table (changed_here own state got h) q ≡ Some y) × (y.value ≡ z.value)
        at_place (slot k) t c = slot_is ((changed_here own state got h).slots k) refl (changed_arguments (λ n. 0) k z c)
          where
            slot_is : (x : Option Cell) → (changed_here own state got h).slots k ≡ x
                → KeepsArgument (λ n. 0) z ((changed_here own state got h).slots k)
                → (y : Cell) × ((changed_here own state got h).slots k ≡ Some y) × (y.value ≡ z.value)
            slot_is None d a = absurd (subst (KeepsArgument (λ n. 0) z) d a)
            slot_is (Some y) d a = (y, d, (subst (KeepsArgument (λ n. 0) z) d a).0)
        at_place (field k) t c =
            let u = stays k t in (
              z,
              read_is table (changed_here own state got h) low s (field k)
                  ∙ ap (λ n. field_cell (changed_here own state got h).notes
                  (changed_here own state got h).world.objects n k) changed_self
                  ∙ field_after own state got h there k
                  ∙ ap (λ y. cell_after y (has_field own (Some state) k)
                  (field_cell h.notes h.world.objects (self_of h.slots) k)) u.0
                  ∙ ap (λ b. cell_after None b (field_cell h.notes h.world.objects (self_of h.slots) k)) u.1 ∙ c,
              refl,
            )
