-- What is so of the whole where a `new` has bound its places, and its constructor begins with the next object.
use Rattle.std.proofs.Common.{◌≡◌, ◌≢◌, ℕ, ◌+◌, ◌<◌, ◌≤◌, true, false, List, [], ◌∷◌, length, Option, Some, None, refl, sym, ap, subst, ◌∙◌, arith, ⊎_elim, ◌⊎◌, inl, inr, true≢false}
use Rattle.std.specs.Prelude.{nat_eq, slice_get, ⊤}
use Rattle.std.proofs.lemmas.Bool.{cases_Bool, both_ways, cases_lt}
use Rattle.std.proofs.lemmas.Bool.Decides.{eqb_tells}
use Rattle.ob_base.specs.declared.id.ContractId.{ContractId}
use Rattle.ob_perm.specs.Permissions.{owns}
use Rattle.ob_table.specs.Tables.{ClassTable, contract_at}
use Rattle.ob_table.specs.declared.contract.Contract.{Contract}
use Rattle.ob_table_spec.specs.Conditions.{IsClassTable}
use Rattle.ob_heap_spec.specs.Objects.{Object, unfinished}
use Rattle.ob_heap_spec.specs.Worlds.{World, make_object}
use Rattle.ob_silica.specs.Terms.{SilicaTerms}
use Rattle.ob_silica_places.specs.Known.{at}
use Rattle.ob_silica_places.specs.Places.{slot}
use Rattle.ob_silica_steps.specs.Calling.{constructor_id}
use Rattle.ob_silica_steps.specs.Configurations.{SlotCells, SilicaFrame, by_new, Loan, Rest, Waiting, Configuration}
use Rattle.ob_silica_steps.specs.Here.{here, self_of}
use Rattle.ob_silica_steps.specs.Binding.{Bound}
use Rattle.ob_silica_steps.specs.Entering.{new_cell}
use Rattle.ob_flow_spec.specs.Contexts.{Context}
use Rattle.ob_coherent_spec.specs.Counting.{Counted, any, one_if, nth_object, field_cell, in_cell, in_slots, in_objects, in_handles, in_waiting, owners, references}
use Rattle.ob_coherent_spec.specs.Runs.{times, around, entries, constructions, locks, open_tests}
use Rattle.ob_coherent_spec.specs.Standing.{AllStand, NeedsOwner, IsObjectInRun, Stands}
use Rattle.ob_coherent_spec.specs.Remaining.{BodyParts}
use Rattle.ob_coherent_spec.specs.Waiting.{IsFrame, tests_of, Waits, AllWait}
use Rattle.ob_coherent_spec.specs.Coherent.{Beginning, Holds, IsRunning}
use Rattle.ob_soundness_laws.proofs.counting.Frames.{tests_in_same}
use Rattle.ob_soundness_laws.proofs.counting.Objects.{no_object, make_length, make_same, make_other, field_cell_same}
use Rattle.ob_soundness_laws.proofs.counting.Places.{no_objects, objects_make}
use Rattle.ob_soundness_laws.proofs.counting.NextNumber.{stands_there, cell_past, slots_past, references_past, owners_past}
use Rattle.ob_soundness_laws.proofs.counting.Numbers.{one_same, one_other}
use Rattle.ob_soundness_laws.proofs.counting.Entering.{entered_below, constructing_below, tests_below, locks_below, this_more, some_slots}
use Rattle.ob_soundness_laws.proofs.frames.Near.{IsNear, frame_with, EachSelf, KeepsArguments, all_near_under}
use Rattle.ob_soundness_laws.proofs.frames.Objects.{ObjectHolds, ObjectsHold, objects_hold}
use Rattle.ob_soundness_laws.proofs.frames.Entered.{innermost_has_entry}
use Rattle.ob_soundness_laws.proofs.frames.Whole.{began_kept}
use Rattle.ob_soundness_laws.proofs.places.Keeping.{argument_kept}
use Rattle.ob_soundness_laws.proofs.places.Standing.{all_stand_stay, made_stands, needs_before}
use Rattle.ob_soundness_laws.specs.calls.Binds.{in_both, in_rest, Binds}
use Rattle.ob_soundness_laws.proofs.calls.Called.{left_waiting, called_on}
use Rattle.ob_soundness_laws.proofs.calls.Running.{running_owners, running_references}

-- the objects of frames that wait are there
each_there : (table : ClassTable) (N : ℕ → Type 0) (c : Configuration) (callee : SilicaFrame) (called : BodyParts)
    (above : List ℕ) (tests : ℕ → ℕ) (hs : List Waiting) → AllWait table N c callee called above tests hs
    → EachSelf (λ m. m < length c.world.objects) hs
each_there table N c callee called above tests [] w = tt
each_there table N c callee called above tests (h ∷ hs) (w, ws) = (
  w.frame.there,
  each_there table N c h.frame w.parts (self_of h.frame.slots ∷ above) _ hs ws,
)

-- the frame of the constructor
abbrev pub made_frame : SlotCells → ContractId → ℕ → SilicaFrame
made_frame slots contract n = record {
  slots = at slots 0 (Some (new_cell contract n));
  contract = contract;
  tx = constructor_id;
  how = by_new;
  share_entered = false;
}

module _ (table : ClassTable) (made : IsClassTable table) (entry : Option ℕ) (beginning : Beginning) (c : Configuration)
    (k : IsRunning table entry beginning c) (b : Bound) (g : Context) (nb : ℕ)
    (binds : Binds table c k.whole.parts b g nb) (unset : b.slots 0 ≡ None)
    (contract : ContractId) (own : Contract) (ec : contract_at table contract ≡ Some own) (class : own.interface ≡ false)
    (terms rest : SilicaTerms) (outer : List Rest) (result : Option ℕ) (loans : List Loan) (same_outer : outer ≡ k.outer)
    (wr : World) (objects : wr.objects ≡ b.from.world.objects) (locked : wr.locked ≡ b.from.world.locked)
    (progress : wr.progress ≡ b.from.world.progress) where
  -- the next number
  abbrev pub next : ℕ
  next = length wr.objects

  abbrev pub callee : SilicaFrame
  callee = made_frame b.slots contract next

  abbrev pub w : World
  w = make_object wr (unfinished contract)

  abbrev pub d : Configuration
  d = called_on c b callee terms rest outer result loans w

  outer_around : outer ≡ around c.control
  outer_around = same_outer ∙ sym (ap around k.control)

  self_left : self_of b.from.slots ≡ self_of c.frame.slots
  self_left = binds.stays.this

  pub next_is : next ≡ length c.world.objects
  next_is = ap (λ (os : List Object). length os) objects ∙ binds.stays.count

  self_there : self_of c.frame.slots < length c.world.objects
  self_there = k.whole.frame.there

  -- Objects.

  pub old_object : (m : ℕ) → m < next → nth_object w.objects m ≡ nth_object b.from.world.objects m
  old_object m low = make_other wr (unfinished contract) m low ∙ ap (λ os. nth_object os m) objects

  pub new_object : nth_object w.objects next ≡ unfinished contract
  new_object = make_same wr (unfinished contract)

  pub new_count : length w.objects ≡ next + 1
  new_count = make_length wr (unfinished contract)

  -- Nothing refers to the next number.

  past_control : Rattle.ob_coherent_spec.specs.Counting.in_control any next c.control ≡ 0
  past_control = ap (Rattle.ob_coherent_spec.specs.Counting.in_control any next) k.control

  no_references : references next c ≡ 0
  no_references = references_past table entry beginning c k.whole next (omega (arith, next_is)) past_control

  -- fields stand while places are bound
  pub from_fields : (i : ℕ) → AllStand table b.from.world.objects (field_cell b.from.notes b.from.world.objects i)
  from_fields i = ⊎_elim
      (λ same. subst (λ j. AllStand table b.from.world.objects (field_cell b.from.notes b.from.world.objects j))
      (self_left ∙ sym same.1) binds.sits.fields)
      (λ other. λ j x e. all_stand_stay table (here c) b.from binds.stays (field_cell c.notes c.world.objects i) (k.whole.fields i) j x
      (sym (field_cell_same c.notes b.from.notes c.world.objects b.from.world.objects i j
      (binds.stays.fields i j other.1) (binds.stays.notes i j other.1)) ∙ e))
      (eqb_tells i (self_of c.frame.slots))

  pub none_refer : in_both any next b + in_rest any next c ≡ 0
  none_refer =
      let low : length b.from.world.objects ≤ next = (let e = ap (λ (os : List Object). length os) objects in omega (arith, e)) in
      let one = slots_past table b.from.world.objects next low b.from.slots binds.sits.slots in
      let two = slots_past table b.from.world.objects next low b.slots binds.bound in
      let three = no_objects any next b.from.notes b.from.world.objects
      (λ i j. cell_past table b.from.world.objects next low (field_cell b.from.notes b.from.world.objects i j) (from_fields i j)) in
      let all = no_references in let is = running_references table made entry beginning c k next in
      omega (arith, one, two, three, all, is)

  pub none_own : in_both owns next b + in_rest owns next c ≡ 0
  none_own =
      let fewer = binds.fewer next in
      let was = running_owners table made entry beginning c k next in
      let none = owners_past table entry beginning c k.whole next (omega (arith, next_is)) past_control in
      omega (arith, fewer, was, none)

  -- Counts.

  bound_counts : (counts : Counted) (m : ℕ) → in_slots counts m callee.slots
      ≡ in_slots counts m b.slots + in_cell counts m (Some (new_cell contract next))
  bound_counts counts m = this_more counts m b.slots (new_cell contract next) unset some_slots

  object_counts : (counts : Counted) (m : ℕ) → in_objects counts m b.from.notes w.objects
      ≡ in_objects counts m b.from.notes b.from.world.objects
  object_counts counts m = objects_make counts m b.from.notes wr (unfinished contract) (λ j. refl)
      ∙ ap (in_objects counts m b.from.notes) objects

  pub made_owners : (m : ℕ) → owners m d ≡ in_both owns m b + in_rest owns m c + one_if (nat_eq next m)
  made_owners m =
      let one = bound_counts owns m in
      let cell : in_cell owns m (Some (new_cell contract next)) ≡ one_if (nat_eq next m) = refl in
      let two = object_counts owns m in
      let three = ap (in_handles owns m) binds.stays.handles in
      omega (arith, one, two, three, cell)

  pub made_references : (m : ℕ) → references m d ≡ in_both any m b + in_rest any m c + one_if (nat_eq next m)
  made_references m =
      let one = bound_counts any m in
      let cell : in_cell any m (Some (new_cell contract next)) ≡ one_if (nat_eq next m) = refl in
      let two = object_counts any m in
      let three = ap (in_handles any m) binds.stays.handles in
      omega (arith, one, two, three, cell)

  pub made_fewer : (m : ℕ) → m ≢ next → owners m d ≤ owners m c
  made_fewer m other = let here = made_owners m in let was = running_owners table made entry beginning c k m in
      let less = binds.fewer m in let none = one_other next m (λ e. other (sym e)) in omega (arith, here, was, less, none)

  pub made_owner : owners next d ≡ 1
  made_owner = let here = made_owners next in let none = none_own in let one = one_same next in omega (arith, here, none, one)

  pub made_tests : (m : ℕ) → open_tests m d ≡ open_tests m c
  made_tests m =
      let e = tests_below m c (left_waiting c b rest outer result loans) refl self_left outer_around in omega (arith, e)

  pub made_locks : (m : ℕ) → locks entry m d ≡ locks entry m c
  made_locks m =
      let e = locks_below m c (left_waiting c b rest outer result loans) refl self_left entry outer_around in omega (arith, e)

  pub made_entries : (m : ℕ) → entries m d ≡ entries m c
  made_entries m =
      let e = entered_below m c (left_waiting c b rest outer result loans) refl self_left in omega (arith, e)

  self_made : self_of callee.slots ≡ next
  self_made = refl

  pub made_constructions : (m : ℕ) → constructions m d ≡ one_if (nat_eq next m) + constructions m c
  made_constructions m =
      let e = constructing_below m c (left_waiting c b rest outer result loans) refl self_left in omega (arith, e)

  pub locked_same : w.locked ≡ c.world.locked
  locked_same = locked ∙ binds.stays.locked

  pub progress_same : w.progress ≡ c.world.progress
  progress_same = progress ∙ binds.stays.progress

  -- Frames that wait.

  pub was_low : (m : ℕ) → m < length c.world.objects → m < next
  was_low m low = let e = next_is in omega (arith, low, e)

  pub shared_stays : (m : ℕ) → (nth_object c.world.objects m).shared ≡ true → (nth_object w.objects m).shared ≡ true
  shared_stays m e = ⊎_elim
      (λ low. ap (λ (o : Object). o.shared) (old_object m (was_low m low)) ∙ binds.stays.shared m e)
      (λ past. absurd (both_ways _ (ap (λ (o : Object). o.shared) (no_object c.world.objects m past)) e))
      (cases_lt m (length c.world.objects))

  pub was_needed : (m : ℕ) → m < length c.world.objects → NeedsOwner table w.objects m → NeedsOwner table c.world.objects m
  was_needed m low must = needs_before table c.world.objects w.objects m low
      (ap (λ (o : Object). o.contract) (old_object m (was_low m low)) ∙ binds.stays.contracts m)
      (λ e. shared_stays m e)
      (λ e. ap (λ (o : Object). o.disowned) (old_object m (was_low m low)) ∙ binds.stays.disowned m e) must

  pub made_near : IsNear table (self_of c.frame.slots) (λ m. m < length c.world.objects) (NeedsOwner table c.world.objects)
      (NeedsOwner table w.objects) c d
  made_near = record {
    count = let e = new_count in let same = next_is in omega (arith, e, same);
    contracts = λ m low. ap (λ (o : Object). o.contract) (old_object m (was_low m low)) ∙ binds.stays.contracts m;
    states = λ m low ne. ap (λ (o : Object). o.state) (old_object m (was_low m low)) ∙ binds.stays.states m;
    fields = λ m j low ne. ap (λ (o : Object). o.fields j) (old_object m (was_low m low)) ∙ binds.stays.fields m j ne;
    notes = λ m j low ne. binds.stays.notes m j ne;
    shared = shared_stays;
    progress = λ m low some. subst (λ ls. 0 < times m ls) (sym progress_same) some;
    lock_ends = λ m some. inl (subst (λ ls. 0 < times m ls) (sym locked_same) some);
    needs = was_needed;
    stand = k.whole.fields;
  }

  low_ne : (m : ℕ) → m < length c.world.objects → m ≢ next
  low_ne m low e = let same = next_is in omega (arith, low, e, same)

  pub made_arguments : KeepsArguments k.whole.parts d c.frame.slots b.from.slots
  made_arguments j x le e = argument_kept (λ m. owners m d) x (b.from.slots j)
      (λ z i. binds.alike (slot j) z (e ∙ i))
      (λ z i s. ⊎_elim (λ was. inl was)
      (λ none. inr (λ m refers.
      let zero = none m refers in let is = made_owners m in
      let one = one_other next m (λ q. low_ne m (stands_there table c.world.objects x m (k.whole.slots j x e) refers) (sym q)) in
      omega (arith, zero, is, one)))
      (binds.shares (slot j) x z e i s))

  tests_left : (m : ℕ) → tests_of m c.frame.slots (around c.control) ≡ tests_of m b.from.slots outer
  tests_left m = subst (λ o. tests_of m c.frame.slots o ≡ tests_of m b.from.slots outer) outer_around
      (let e = tests_in_same m c.frame.slots b.from.slots outer self_left in omega (arith, e))

  pub made_below : AllWait table (NeedsOwner table w.objects) d (frame_with c.frame b.from.slots) k.whole.parts
      (self_of b.from.slots ∷ self_of callee.slots ∷ [])
      (λ m. tests_of m b.from.slots outer + tests_of m callee.slots []) c.stack
  made_below = all_near_under table (self_of c.frame.slots) (λ m. m < length c.world.objects) (NeedsOwner table c.world.objects)
      (NeedsOwner table w.objects) c d made_near c.frame k.whole.parts b.from.slots (self_of c.frame.slots ∷ [])
      (self_of b.from.slots ∷ self_of callee.slots ∷ []) (λ m. tests_of m c.frame.slots (around c.control))
      (λ m. tests_of m b.from.slots outer + tests_of m callee.slots []) c.stack self_left made_arguments k.whole.slots
      (inl refl)
      (λ m low. let less = made_fewer m (low_ne m low) in let same = tests_left m in omega (arith, less, same))
      (inl (ap (λ (o : Object). o.state) (old_object (self_of c.frame.slots) (was_low _ self_there))
      ∙ binds.stays.states (self_of c.frame.slots)))
      (each_there table (NeedsOwner table c.world.objects) c c.frame k.whole.parts _ _ c.stack k.whole.waiting)
      (λ m stay a. ((λ e. a.0 (e ∙ self_left)), (low_ne m stay, tt)))
      k.whole.waiting

  -- Objects.

  changed : (m : ℕ) → (m ≡ self_of c.frame.slots) ⊎ (length c.world.objects ≤ m) → m < length w.objects
      → ObjectHolds table d m
  changed m (inr past) below = subst (ObjectHolds table d)
      (let e = next_is in let more = new_count in (let z : next ≡ m = omega (arith, e, more, past, below) in z))
      (record {
        stand = λ j x e. absurd (let none : field_cell b.from.notes w.objects next j ≡ None =
            ap (λ (o : Object). Rattle.std.specs.Prelude.option_map (λ v. record { value = v; note = b.from.notes.fields next j })
            (o.fields j)) new_object in (let z : Some x ≡ None = sym e ∙ none in cc));
        object = subst (λ o. IsObjectInRun table b.from.notes next o) (sym new_object) new_so;
        declared = λ none new. let one = one_same next in let is = made_constructions next in
            absurd (omega (arith, one, is, new));
      })
    where
      new_so : IsObjectInRun table b.from.notes next (unfinished contract)
      new_so = record {
        own = own;
        contract = ec;
        class = class;
        state = tt;
        fields = λ j no. refl;
        kinds = λ j f v e i. absurd (cc);
      }
  changed m (inl is) below = subst (ObjectHolds table d) (sym (is ∙ sym self_left)) (record {
    stand = λ j x e. made_stands table wr.objects (unfinished contract) x
        (subst (λ os. Stands table os x) (sym objects) (binds.sits.fields j x (sym (same_fields j) ∙ e)));
    object = subst (λ o. IsObjectInRun table b.from.notes (self_of b.from.slots) o) (sym self_old) binds.sits.object;
    declared = λ none new.
        let has = innermost_has_entry table entry beginning c k.whole in
        let some : 0 < entries (self_of b.from.slots) c + constructions (self_of b.from.slots) c =
        subst (λ i. 0 < entries i c + constructions i c) (sym self_left) has in
        let e = made_entries (self_of b.from.slots) in let f = made_constructions (self_of b.from.slots) in
        absurd (omega (arith, some, e, f, none, new));
  })
    where
      self_low : self_of b.from.slots < next
      self_low = subst (λ i. i < next) (sym self_left) (was_low _ self_there)

      self_old : nth_object w.objects (self_of b.from.slots) ≡ nth_object b.from.world.objects (self_of b.from.slots)
      self_old = old_object (self_of b.from.slots) self_low

      same_fields : (j : ℕ) → field_cell b.from.notes w.objects (self_of b.from.slots) j
          ≡ field_cell b.from.notes b.from.world.objects (self_of b.from.slots) j
      same_fields j = field_cell_same b.from.notes b.from.notes b.from.world.objects w.objects (self_of b.from.slots) j
          (ap (λ (o : Object). o.fields j) self_old) refl

  pub made_objects : ObjectsHold table d
  made_objects = objects_hold table entry beginning (self_of c.frame.slots) (λ m. m < length c.world.objects) c d made_near made k.whole
      binds.stays.handles
      (λ m ne. inl (ap (λ (o : Object). o.state) (old_object (self_of c.frame.slots) (was_low _ self_there))
      ∙ binds.stays.states (self_of c.frame.slots)))
      changed
      (λ m below ne none new. let e = made_entries m in let f = made_constructions m in
      ((let z : entries m c ≡ 0 = omega (arith, e, none) in z), (let z : constructions m c ≡ 0 = omega (arith, f, new) in z)))

  -- The whole.

  module _ (called : BodyParts) (frame : IsFrame table w.objects callee called) (stand : AllStand table w.objects callee.slots)
      (waiting : Waits table (NeedsOwner table w.objects) d callee called (self_of callee.slots ∷ [])
      (λ m. tests_of m callee.slots []) (left_waiting c b rest outer result loans))
      (same_parts : waiting.parts ≡ k.whole.parts) where
    pub low_from : (m : ℕ) → m < length w.objects → m ≢ next → m < length c.world.objects
    low_from m low other = let e = next_is in let more = new_count in omega (arith, e, more, low, other)

    abbrev pub made_whole : Holds table entry beginning d
    made_whole = record {
      one_owner = λ m. ⊎_elim
          (λ same. let one = made_owner in subst (λ i. owners i d ≤ 1) (sym same.1) (omega (arith, one)))
          (λ other. let less = made_fewer m other.1 in let most = k.whole.one_owner m in omega (arith, less, most))
          (eqb_tells m next);
      disowned = λ m on off. ⊎_elim
          (λ same. absurd (true≢false (sym on ∙ ap (λ i. (nth_object w.objects i).disowned) same.1
          ∙ ap (λ (o : Object). o.disowned) new_object)))
          (λ other. disowned_old m on off other.1)
          (eqb_tells m next);
      shared = λ m on some. ⊎_elim
          (λ same. absurd (true≢false (sym on ∙ ap (λ i. (nth_object w.objects i).shared) same.1
          ∙ ap (λ (o : Object). o.shared) new_object)))
          (λ other. shared_old m on some other.1)
          (eqb_tells m next);
      tested = λ m some. let same = made_tests m in
          let old = k.whole.tested m (omega (arith, some, same)) in
          subst (λ ls. 0 < times m ls) (sym progress_same) old;
      assets = λ m must. ⊎_elim
          (λ same. let one = made_owner in subst (λ i. 0 < owners i d) (sym same.1) (omega (arith, one)))
          (λ other. assets_old m must other.1)
          (eqb_tells m next);
      slots = stand;
      fields = made_objects.fields;
      handles = made_objects.handles;
      objects = made_objects.objects;
      declared = made_objects.declared;
      progress = λ m. made_entries m ∙ k.whole.progress m ∙ ap (times m) (sym progress_same);
      entered_once = λ m. let same = made_entries m in let most = k.whole.entered_once m in omega (arith, same, most);
      locked = λ m. made_locks m ∙ k.whole.locked m ∙ ap (times m) (sym locked_same);
      locked_once = λ m. let same = made_locks m in let most = k.whole.locked_once m in omega (arith, same, most);
      parts = called;
      frame = frame;
      waiting = (
        waiting,
        subst (λ p. AllWait table (NeedsOwner table w.objects) d (frame_with c.frame b.from.slots) p
            (self_of b.from.slots ∷ self_of callee.slots ∷ [])
            (λ m. tests_of m b.from.slots outer + tests_of m callee.slots []) c.stack) (sym same_parts) made_below,
      );
      began = began_kept table c.world.objects beginning c.frame k.whole.parts b.from.slots (λ m. owners m d) c.stack
          k.whole.frame made_arguments k.whole.began;
    }
      where
        not_was_shared : (m : ℕ) → (nth_object w.objects m).shared ≡ false → (nth_object c.world.objects m).shared ≡ false
        not_was_shared m off = ⊎_elim (λ z. absurd (both_ways _ off (shared_stays m z))) (λ z. z)
            (cases_Bool (nth_object c.world.objects m).shared)

        past_unfinished : (m : ℕ) → m ≢ next → length c.world.objects ≤ m
            → nth_object w.objects m ≡ unfinished (record { 0 = 0 })
        past_unfinished m other past = no_object w.objects m
            (let e = next_is in let more = new_count in omega (arith, e, more, past, other))

        disowned_old : (m : ℕ) → (nth_object w.objects m).disowned ≡ true → (nth_object w.objects m).shared ≡ false → m ≢ next
            → owners m d ≡ 0
        disowned_old m on off other = ⊎_elim
            (λ low.
            let was : (nth_object c.world.objects m).disowned ≡ true =
            sym (binds.disowned m) ∙ sym (ap (λ (o : Object). o.disowned) (old_object m (was_low m low))) ∙ on in
            let none = k.whole.disowned m was (not_was_shared m off) in let less = made_fewer m other in
            omega (arith, none, less))
            (λ past. absurd (true≢false (sym on ∙ ap (λ (o : Object). o.disowned) (past_unfinished m other past))))
            (cases_lt m (length c.world.objects))

        shared_old : (m : ℕ) → (nth_object w.objects m).shared ≡ true → 0 < owners m d → m ≢ next
            → (0 < times m w.locked) ⊎ (0 < open_tests m d)
        shared_old m on some other = ⊎_elim
            (λ low. ⊎_elim
            (λ was. let less = made_fewer m other in ⊎_elim
            (λ l. inl (subst (λ ls. 0 < times m ls) (sym locked_same) l))
            (λ t. inr (let same = made_tests m in omega (arith, t, same)))
            (k.whole.shared m was (omega (arith, some, less))))
            (λ not. let none = binds.newly m not (sym (ap (λ (o : Object). o.shared) (old_object m (was_low m low))) ∙ on) in
            let is = made_owners m in let zero = one_other next m (λ e. other (sym e)) in
            absurd (omega (arith, some, none, is, zero)))
            (cases_Bool (nth_object c.world.objects m).shared))
            (λ past. absurd (true≢false (sym on ∙ ap (λ (o : Object). o.shared) (past_unfinished m other past))))
            (cases_lt m (length c.world.objects))

        assets_old : (m : ℕ) → NeedsOwner table w.objects m → m ≢ next → 0 < owners m d
        assets_old m must other =
            let low = low_from m must.there other in
            let was = k.whole.assets m (was_needed m low must) in
            let from : NeedsOwner table b.from.world.objects m = needs_before table b.from.world.objects w.objects m
            (let e = binds.stays.count in omega (arith, low, e))
            (ap (λ (o : Object). o.contract) (old_object m (was_low m low)))
            (λ e. ap (λ (o : Object). o.shared) (old_object m (was_low m low)) ∙ e)
            (λ e. ap (λ (o : Object). o.disowned) (old_object m (was_low m low)) ∙ e) must in
            let more = binds.assets m from in
            let is = made_owners m in let old = running_owners table made entry beginning c k m in
            omega (arith, was, more, is, old)
