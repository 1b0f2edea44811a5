-- At a return: owners are in the declared states, and the context leaves as the body declares.
use Rattle.std.proofs.Common.{◌≡◌, ◌≢◌, ℕ, zero, suc, ◌+◌, ◌<◌, ◌≤◌, inl, ⊎_elim, Bool, true, false, not, ◌||◌, List, [], ◌∷◌, length, map, Option, Some, None, slice_get, refl, sym, ap, ◌∙◌, subst, arith, true≢false}
use Rattle.std.specs.Prelude.{if◌then◌else◌}
use Rattle.std.specs.Option.{option_map_or}
use Rattle.std.proofs.lemmas.Bool.{both_ways, cases_Bool, cases_lt, and_from, or_right}
use Rattle.ob_base.specs.declared.id.ContractId.{ContractId}
use Rattle.ob_base.specs.declared.permission.Perm.{Perm}
use Rattle.ob_base.specs.declared.permission.Mode.{Mode}
use Rattle.ob_base.specs.declared.permission.Mode.TheVariants.{Owned, Shared, Unowned}
use Rattle.ob_perm.specs.States.{States, states_max, all_states, no_states}
use Rattle.ob_perm.specs.Permissions.{Permission, owned, shared, unowned, owns, kept, fits, possible}
use Rattle.ob_perm.specs.Masks.{states_of, held, permission_of}
use Rattle.ob_table.specs.Tables.{ClassTable, contract_at}
use Rattle.ob_table.specs.declared.contract.Field.{Field}
use Rattle.ob_table.specs.declared.contract.ResolvedType.{ResolvedType}
use Rattle.ob_table.specs.declared.contract.ResolvedType.TheVariants.{Reference as TypedReference, Int as IntType, Bool as BoolType, Text as TextType}
use Rattle.ob_table_spec.specs.Conditions.{IsClassTable}
use Rattle.ob_table_spec.specs.WellFormed.{kind_of_resolved}
use Rattle.ob_heap_spec.specs.Values.{Value, int_value, bool_value, text_value, reference, referred}
use Rattle.ob_heap_spec.specs.Objects.{Object, state_number, is_in_states}
use Rattle.ob_heap_spec.specs.Contents.{IsStateOf}
use Rattle.ob_heap_spec.specs.GoingWrong.{is_held_within, is_within, type_at_exit}
use Rattle.ob_silica_places.specs.Known.{Known, permission_of_type}
use Rattle.ob_silica_places.specs.Places.{Location, slot, field, this, same_location}
use Rattle.ob_silica_places.specs.Parameters.{Parameter, parameter_of, all_parameters, this_parameter}
use Rattle.ob_silica_steps.specs.Binding.{bound_cell}
use Rattle.ob_silica_steps.specs.Cells.{Cell, cell, value_in}
use Rattle.ob_silica_steps.specs.Configurations.{SlotCells, by_new, Ends, plain_end, test_end, lock_end, loop_end, Rest, Configuration}
use Rattle.ob_silica_steps.specs.Entering.{are_within}
use Rattle.ob_silica_steps.specs.Here.{Here, here, self_of}
use Rattle.ob_silica_steps.specs.Returning.{at_exit, exits_are_within}
use Rattle.ob_flow_spec.specs.Contexts.{BodyFrame, constructs, field_count, available, Context, with_permission, permission_on, permission_at, is_held_as, is_owned_asset, owns_asset, possible_under, is_tested, exit_of_field}
use Rattle.ob_flow_spec.specs.Returning.{tests_ended}
use Rattle.ob_flow_spec.specs.Uses.{after_give}
use Rattle.ob_flow_laws.specs.Laws.{MeetsExit, MeetsExits}
use Rattle.ob_flow_laws.proofs.Held.{held_known, matches_owned, fits_owned}
use Rattle.ob_places_laws.specs.Serving.{Allows, AreAmong}
use Rattle.ob_places_laws.proofs.Permissions.{owner_is, fits_from}
use Rattle.ob_places_laws.proofs.Sets.{among_from_subset, among_onward, meets_from}
use Rattle.ob_places_laws.proofs.SeenStates.{state_in_all}
use Rattle.ob_places_laws.proofs.Conversions.{converted_same, serves_itself}
use Rattle.ob_places_laws.proofs.Tables.{there_so}
use Rattle.ob_coherent_spec.specs.Counting.{nth_object}
use Rattle.ob_coherent_spec.specs.Runs.{around, tests_at, tests_around, tests_in, tested_places, tested_before, open_tests}
use Rattle.ob_coherent_spec.specs.Standing.{Stands, NeedsOwner}
use Rattle.ob_coherent_spec.specs.Saying.{Agrees, SaysOf}
use Rattle.ob_coherent_spec.specs.Remaining.{body_of}
use Rattle.ob_coherent_spec.specs.OpenTests.{IsOpen, AreOpen}
use Rattle.ob_coherent_spec.specs.Coherent.{Beginning, LeavesSo, IsRunning}
use Rattle.ob_soundness_laws.proofs.counting.Numbers.{one_same}
use Rattle.ob_soundness_laws.proofs.counting.Objects.{object_there}
use Rattle.ob_soundness_laws.specs.places.Placed.{Sits}
use Rattle.ob_soundness_laws.proofs.places.Reading.{place_is, same_place}
use Rattle.ob_soundness_laws.proofs.places.Carrying.{kept_is_owned}
use Rattle.ob_soundness_laws.proofs.places.Keeping.{put_that, put_other}
use Rattle.ob_soundness_laws.proofs.places.Finding.{own_state_low, state_possible}
use Rattle.ob_soundness_laws.proofs.places.Getting.{bound_stands, objects_low}
use Rattle.ob_soundness_laws.proofs.tests.Tested.{test_not_made}
use Rattle.ob_soundness_laws.proofs.returns.Leaving.{made_of}
use Rattle.std.proofs.lemmas.Option.{slice_get_past}

some_same : {A : Type 0} (x y : A) → Some x ≡ Some y → x ≡ y
some_same x y e = cc

-- Declared states.

owned_states : (p : Perm) → owns (permission_of p) ≡ true → permission_of p ≡ owned (states_of p.states)
owned_states p e = by_mode p.mode e
  where
    by_mode : (m : Mode) → owns (held m (states_of p.states)) ≡ true → held m (states_of p.states) ≡ owned
        (states_of p.states)
    by_mode Owned i = refl
    by_mode Shared i = absurd (true≢false (sym i))
    by_mode Unowned i = absurd (true≢false (sym i))

-- an object that is owned as it is declared is in a declared state
held_within : (table : ClassTable) (objects : List Object) (id : ContractId) (p : Perm) (v : Value)
    → owns (permission_of p) ≡ true → Stands table objects (bound_cell (TypedReference id p) v) → is_held_within table
    objects id p (referred v) ≡ true
held_within table objects id p (int_value z) own s = absurd s.kind
held_within table objects id p (bool_value z) own s = absurd s.kind
held_within table objects id p (text_value z) own s = absurd s.kind
held_within table objects id p (reference n) own s = or_right (not (owns (permission_of p))) _
    (ap (λ x. option_map_or (is_in_states table id p) x false) (object_there objects n s.kind.0)
    ∙ s.states (states_of p.states) (owned_states p own))

pub value_within : (table : ClassTable) (objects : List Object) (of : ResolvedType) (v : Value)
    → (owns (permission_of_type of) ≡ true → Stands table objects (bound_cell of v)) → is_within table objects of v ≡
    true
value_within table objects IntType v s = refl
value_within table objects BoolType v s = refl
value_within table objects TextType v s = refl
value_within table objects (TypedReference id p) v s = ⊎_elim
    (λ own. held_within table objects id p v own (s own))
    (λ other. rw other refl)
    (cases_Bool (owns (permission_of p)))

exit_value : (table : ClassTable) (objects : List Object) (of : ResolvedType) (exit : Perm) (v : Value)
    → (owns (permission_of exit) ≡ true → Stands table objects (cell v (kind_of_resolved of) (permission_of exit)))
    → is_within table objects (type_at_exit of exit) v ≡ true
exit_value table objects IntType exit v s = refl
exit_value table objects BoolType exit v s = refl
exit_value table objects TextType exit v s = refl
exit_value table objects (TypedReference id p) exit v s = value_within table objects (TypedReference id exit) v s

all_within : (table : ClassTable) (objects : List Object) (slots : SlotCells) (n : ℕ) (ps : List Parameter)
    → ((j : ℕ) (p : Parameter) → slice_get ps j ≡ Some p
    → option_map_or (is_within table objects (type_at_exit p.of p.exit)) (value_in (slots (n + j))) true ≡ true)
    → are_within table objects slots n (map at_exit ps) ≡ true
all_within table objects slots n [] each = refl
all_within table objects slots n (p ∷ ps) each = and_from _ _
    (subst (λ i. option_map_or (is_within table objects (type_at_exit p.of p.exit)) (value_in (slots i)) true ≡ true)
    (zero_more n) (each 0 p refl))
    (all_within table objects slots (suc n) ps (λ j q e.
    subst (λ i. option_map_or (is_within table objects (type_at_exit q.of q.exit)) (value_in (slots i)) true ≡ true)
    (one_more n j) (each (suc j) q e)))
  where
    zero_more : (n : ℕ) → n + 0 ≡ n
    zero_more n = omega arith

    one_more : (n j : ℕ) → n + suc j ≡ suc n + j
    one_more n j = omega arith

-- What is owned once the tests have ended was owned before, in the same states.

pub owned_ended : (ts : List Location) (g : Context) (q : Location) (a : States) → permission_at (tests_ended ts g) q ≡
    owned a → permission_at g q ≡ owned a
owned_ended ts g q a e = by_test (is_tested ts q) refl
  where
    no_owner : (x : Option Known) → permission_on (with_permission shared x) ≡ owned a → ⊥
    no_owner None e = let z : unowned ≡ owned a = e in cc
    no_owner (Some y) e = let z : shared ≡ owned a = e in cc

    by_test : (t : Bool) → is_tested ts q ≡ t → permission_at g q ≡ owned a
    by_test true t = absurd (no_owner (g q) (subst (λ z. permission_on (if z then with_permission shared (g q) else g q)
        ≡ owned a) t e))
    by_test false t = subst (λ z. permission_on (if z then with_permission shared (g q) else g q) ≡ owned a) t e

pub owned_given : (g : Context) (p : Location) (w : Permission) (q : Location) (a : States) → permission_at
    (after_give g p w) q ≡ owned a → permission_at g q ≡ owned a
owned_given g p w q a e = ⊎_elim
    (λ i. ap (permission_at g) i ∙ kept_owner (g p) (ap permission_on
    (sym (put_that g p (with_permission (kept (permission_at g p) w) (g p)) q i)) ∙ e))
    (λ i. ap permission_on (sym (put_other g p (with_permission (kept (permission_at g p) w) (g p)) q i)) ∙ e)
    (place_is q p)
  where
    kept_owner : (x : Option Known) → permission_on (with_permission (kept (permission_on x) w) x) ≡ owned a
        → permission_on x ≡ owned a
    kept_owner None e = e
    kept_owner (Some y) e = (kept_is_owned y.permission w a e).0

-- Tests of `this`.

tested_later : (p : Location) (ps : List Location) → same_location p this ≡ false → (same_location this p || is_tested
    ps this) ≡ true → is_tested ps this ≡ true
tested_later p ps ne e = ⊎_elim
    (λ i. absurd (both_ways _ ne (subst (λ q. same_location q this ≡ true) i (same_place this))))
    (λ i. subst (λ z. (z || is_tested ps this) ≡ true) i e)
    (place_is this p)

tested_end : (b : BodyFrame) (h : Here) (r : Rest) (outer : List Rest) → (is_tested (tested_places outer) this ≡ true
    → 0 < tests_around 1 outer)
    → (x : Ends) → r.ends ≡ x → IsOpen b h x → is_tested (tested_before x (tested_places outer)) this ≡ true
    → 0 < tests_around 1 (r ∷ outer)
tested_end b h r outer rest plain_end i o e = let z = rest e in omega (arith, z)
tested_end b h r outer rest (test_end p) i o e = let z : tests_at 1 r.ends ≡ 1 = ap (tests_at 1) i in omega (arith, z)
tested_end b h r outer rest (lock_end p n) i o e = let z = rest (tested_later p (tested_places outer) o.0 e) in omega
    (arith, z)
tested_end b h r outer rest (loop_end first x body end) i o e = let z = rest e in omega (arith, z)

tested_this : (b : BodyFrame) (h : Here) (outer : List Rest) → AreOpen b h outer → is_tested (tested_places outer) this
    ≡ true → 0 < tests_around 1 outer
tested_this b h [] a e = absurd (true≢false (sym e))
tested_this b h (r ∷ outer) a e = tested_end b h r outer (tested_this b h outer a.2) r.ends refl a.0 e

module _ (table : ClassTable) (t : IsClassTable table) (entry : Option ℕ) (beginning : Beginning) (c : Configuration)
    (k : IsRunning table entry beginning c) (outer : List Rest) (around_is : around c.control ≡ outer) (opens : AreOpen
    (body_of table c.frame k.whole.parts) (here c) outer) where
  abbrev b : BodyFrame
  b = body_of table c.frame k.whole.parts

  abbrev sits : Sits table c.frame k.whole.parts (here c) k.context
  sits = record {
    frame = k.whole.frame;
    slots = k.whole.slots;
    fields = k.whole.fields (self_of c.frame.slots);
    object = k.whole.objects (self_of c.frame.slots) k.whole.frame.there;
    says = k.says;
    placed = k.placed;
    owns_made = k.owns_made;
  }

  abbrev own_state : ℕ
  own_state = state_number (nth_object c.world.objects (self_of c.frame.slots)).state

  low : own_state < states_max
  low = own_state_low table t c.frame k.whole.parts (here c) k.context sits

  -- in a constructor `this` isn't under test
  pub untested_made : c.frame.how ≡ by_new → is_tested (tested_places outer) this ≡ false
  untested_made made = ⊎_elim
      (λ e. absurd (test_not_made table entry beginning c k.whole (some e) made))
      (λ e. e)
      (cases_Bool (is_tested (tested_places outer) this))
    where
      some : is_tested (tested_places outer) this ≡ true → 0 < open_tests (self_of c.frame.slots) c
      some e = let z = tested_this b (here c) outer opens e in
          let one = one_same (self_of c.frame.slots) in
          let y : tests_in (self_of c.frame.slots) c.frame.slots (around c.control) ≡ tests_around 1 outer
          = ap (λ l. tests_in (self_of c.frame.slots) c.frame.slots l) around_is ∙ ap (λ m. tests_around m outer) one in
          omega (arith, z, y)

  -- Slots.

  owned_slot : (j : ℕ) (x : Cell) (a d : States) → c.frame.slots j ≡ Some x → permission_at k.context (slot j) ≡ owned d
      → AreAmong d a
      → Stands table c.world.objects (cell x.value x.note.kind (owned a))
  owned_slot j x a d set e among =
      let s : SaysOf (NeedsOwner table c.world.objects) (k.context (slot j)) (Some x) = subst
      (SaysOf (NeedsOwner table c.world.objects) (k.context (slot j))) set (k.says.slots j refl) in
      let y = allowed (k.context (slot j)) s.known e in
      bound_stands table t c.world.objects x x.note.permission (owned a) x.note.kind (objects_low table t c.notes
      c.world.objects k.whole.objects)
      (serves_itself table x.note.kind) (inl refl) (λ z. absurd (let v : owned a ≡ shared = z in cc))
      (ap (λ q. fits q (owned a)) (converted_same table x.note.kind x.note.permission) ∙ ap (λ q. fits q (owned a)) y.1
      ∙ fits_from y.0 a (among_onward y.0 d a y.2 among)) (k.whole.slots j x set)
    where
      allowed : (y : Option Known) → Agrees y (Some x) → permission_on y ≡ owned d → (s : States) × (x.note.permission ≡
          owned s) × AreAmong s d
      allowed None a e = absurd (let z : unowned ≡ owned d = e in cc)
      allowed (Some y) a e = subst (λ q. Allows q x.note.permission) e a.1

  module _ (v : Context) (was : (q : Location) (a : States) → permission_at v q ≡ owned a → permission_at k.context q ≡
      owned a)
      (m : MeetsExits b (tests_ended (tested_places outer) v)) where
    -- an owner that an exit asks for is known to own, in its states
    exit_owner : (q : Location) (w : Permission) (a : States) → w ≡ owned a → MeetsExit b
        (tests_ended (tested_places outer) v) q w
        → (d : States) × (permission_at k.context q ≡ owned d) × AreAmong d a
    exit_owner q w a e meets =
        let h = held_known (tests_ended (tested_places outer) v q) (owned a)
        (subst (λ z. MeetsExit b (tests_ended (tested_places outer) v) q z) e meets) in
        let r = matches_owned h.0.permission a h.2 in (
          r.0,
          was q r.0 (owned_ended (tested_places outer) v q r.0 (ap permission_on h.1 ∙ r.1)),
          among_from_subset r.0
              a r.2,
        )

    this_owner : (a : States) → permission_of k.whole.parts.signature.exit ≡ owned a
        → (d : States) × (permission_at k.context this ≡ owned d) × AreAmong d a
    this_owner a e = ⊎_elim
        (λ made. let r = fits_owned (permission_at (tests_ended (tested_places outer) v) this) a
        (subst (λ w. fits (permission_at (tests_ended (tested_places outer) v) this) w ≡ true) e (m.made made).serves)
        in
        (r.0, was this r.0 (owned_ended (tested_places outer) v this r.0 r.1), among_from_subset r.0 a r.2))
        (λ other. exit_owner this (permission_of k.whole.parts.signature.exit) a e (m.itself other))
        (cases_Bool (constructs b))

    param_owner : (j : ℕ) (p : Parameter) (a : States) → slice_get (all_parameters c.frame.contract
        k.whole.parts.signature) j ≡ Some p
        → permission_of p.exit ≡ owned a → (d : States) × (permission_at k.context (slot j) ≡ owned d) × AreAmong d a
    param_owner zero p a at e = this_owner a (ap (λ (r : Parameter). permission_of r.exit)
        (some_same (this_parameter c.frame.contract k.whole.parts.signature) p at) ∙ e)
    param_owner (suc j) p a at e = let q = made_of parameter_of k.whole.parts.signature.params j p at in
        let place : j + 1 ≡ suc j = omega arith in
        exit_owner (slot (suc j)) (permission_of q.0.exit) a (ap (λ (r : Parameter). permission_of r.exit) (sym q.2)
        ∙ e)
        (subst (λ i. MeetsExit b (tests_ended (tested_places outer) v) (slot i) (permission_of q.0.exit)) place
        (m.params j q.0 q.1))

    -- the objects of owning exits are in their declared states
    pub exits_within : exits_are_within table c k.whole.parts.signature ≡ true
    exits_within = all_within table c.world.objects c.frame.slots 0 (all_parameters c.frame.contract
        k.whole.parts.signature)
        (λ j p e. let x = k.whole.frame.arguments j p e in
        let same : 0 + j ≡ j = omega arith in
        subst (λ i. option_map_or (is_within table c.world.objects (type_at_exit p.of p.exit))
        (value_in (c.frame.slots i)) true ≡ true) (sym same)
        (ap (λ y. option_map_or (is_within table c.world.objects (type_at_exit p.of p.exit)) (value_in y) true) x.1
        ∙ exit_value table c.world.objects p.of p.exit x.0.value (λ own.
        let o = owner_is (permission_of p.exit) own in
        let r = param_owner j p o.0 e o.1 in
        subst (λ kind. Stands table c.world.objects (cell x.0.value kind (permission_of p.exit))) x.2
        (subst (λ w. Stands table c.world.objects (cell x.0.value x.0.note.kind w)) (sym o.1) (owned_slot j x.0 o.0 r.0
        x.1 r.1 r.2)))))

    -- the state of the object is one in which it can be
    pub state_left : (c.frame.how ≡ by_new → owns (permission_at (tests_ended (tested_places outer) v) this) ≡ true)
        → possible_under b (permission_at (tests_ended (tested_places outer) v) this) own_state ≡ true
    state_left owner = by_permission (permission_at (tests_ended (tested_places outer) v) this) refl
      where
        any_state : owns (permission_at (tests_ended (tested_places outer) v) this) ≡ false → all_states
            (length k.whole.parts.own.states) own_state ≡ true
        any_state e = state_in_all k.whole.parts.own (nth_object c.world.objects (self_of c.frame.slots)).state
            (there_so (contract_at table (nth_object c.world.objects (self_of c.frame.slots)).contract) (λ o. IsStateOf
            o (nth_object c.world.objects (self_of c.frame.slots)).state)
            k.whole.parts.own (ap (contract_at table) k.whole.frame.contract ∙ k.whole.frame.own)
            (k.placed (λ made. both_ways _ e (owner made))))

        by_permission : (p : Permission) → permission_at (tests_ended (tested_places outer) v) this ≡ p
            → possible (length k.whole.parts.own.states) (permission_at (tests_ended (tested_places outer) v) this)
            own_state ≡ true
        by_permission (owned a) e = subst (λ q. possible (length k.whole.parts.own.states) q own_state ≡ true)
            (was this a (owned_ended (tested_places outer) v this a e) ∙ sym e)
            (state_possible table t c.frame k.whole.parts (here c) k.context sits)
        by_permission shared e = subst (λ q. possible (length k.whole.parts.own.states) q own_state ≡ true) (sym e)
            (any_state (ap owns e))
        by_permission unowned e = subst (λ q. possible (length k.whole.parts.own.states) q own_state ≡ true) (sym e)
            (any_state (ap owns e))

    pub field_left : possible_under b (permission_at (tests_ended (tested_places outer) v) this) own_state ≡ true
        → (j : ℕ) → available b j own_state ≡ true
        → is_held_as (tests_ended (tested_places outer) v (field j)) (exit_of_field b b.signature j) ≡ true
    field_left can j there = m.fields j low_field
        (meets_from (possible_under b (permission_at (tests_ended (tested_places outer) v) this)) (available b j)
        own_state low can there)
      where
        low_field : j < field_count b
        low_field = ⊎_elim (λ z. z) (λ past. absurd (true≢false (sym there
            ∙ ap (λ x. option_map_or (λ (y : Field). states_of y.available) x no_states own_state) (slice_get_past
            k.whole.parts.own.fields j past))))
            (cases_lt j (length k.whole.parts.own.fields))

    -- slots past the body's aren't known
    past_ended : ((j : ℕ) → k.whole.parts.slots ≤ j → v (slot j) ≡ None) → (j : ℕ) → k.whole.parts.slots ≤ j
        → owns_asset b (tests_ended (tested_places outer) v) (slot j) ≡ false
    past_ended none j past = by_test (is_tested (tested_places outer) (slot j)) refl
      where
        by_test : (z : Bool) → is_tested (tested_places outer) (slot j) ≡ z → is_owned_asset table
            (tests_ended (tested_places outer) v (slot j)) ≡ false
        by_test true e = ap (λ z. is_owned_asset table (if z then with_permission shared (v (slot j)) else v (slot j)))
            e
            ∙ ap (λ x. is_owned_asset table (with_permission shared x)) (none j past)
        by_test false e = ap (λ z. is_owned_asset table (if z then with_permission shared (v (slot j)) else v (slot j)))
            e ∙ ap (is_owned_asset table) (none j past)

    pub others_left : ((j : ℕ) → k.whole.parts.slots ≤ j → v (slot j) ≡ None) → (j : ℕ)
        → length k.whole.parts.signature.params < j
        → owns_asset b (tests_ended (tested_places outer) v) (slot j) ≡ false
    others_left none j more = ⊎_elim (λ below. m.others j more below) (λ past. past_ended none j past)
        (cases_lt j k.whole.parts.slots)

    -- The context leaves as the body declares.
    pub left_so : c.frame.how ≢ by_new → ((j : ℕ) → k.whole.parts.slots ≤ j → v (slot j) ≡ None)
        → LeavesSo b c.frame.how (tests_ended (tested_places outer) v) own_state
    left_so old none = record {
      params = m.params;
      itself = λ o. m.itself (⊎_elim (λ e. absurd (old (k.whole.frame.constructor e))) (λ e. e)
          (cases_Bool (constructs b)));
      given = λ new. absurd (old new);
      others = others_left none;
      fields = field_left (state_left (λ new. absurd (old new)));
    }

  -- no slot past the body's is known
  pub none_known : (j : ℕ) → k.whole.parts.slots ≤ j → k.context (slot j) ≡ None
  none_known j past = by_known (k.context (slot j)) (subst (λ x. Agrees (k.context (slot j)) x) (k.whole.frame.unset j
      past) (k.says.slots j refl).known)
    where
      by_known : (y : Option Known) → Agrees y None → y ≡ None
      by_known None a = refl
      by_known (Some y) a = absurd a
