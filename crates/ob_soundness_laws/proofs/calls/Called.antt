-- What is so of the whole where a call has bound its places and its body begins.
use Rattle.std.proofs.Common.{◌≡◌, ◌≢◌, ℕ, ◌+◌, ◌<◌, ◌≤◌, true, false, List, [], ◌∷◌, length, Option, refl, sym, ap, subst, ◌∙◌, arith, ⊎_elim, ◌⊎◌, inl, inr}
use Rattle.std.proofs.lemmas.Bool.{cases_Bool, both_ways}
use Rattle.ob_perm.specs.Permissions.{owns}
use Rattle.ob_table.specs.Tables.{ClassTable}
use Rattle.ob_table_spec.specs.Conditions.{IsClassTable}
use Rattle.ob_heap_spec.specs.Objects.{Object}
use Rattle.ob_heap_spec.specs.Worlds.{World}
use Rattle.ob_silica.specs.Terms.{SilicaTerms}
use Rattle.ob_silica_places.specs.Places.{slot}
use Rattle.ob_silica_steps.specs.Configurations.{SilicaFrame, Loan, Rest, Waiting, runs, Configuration}
use Rattle.ob_silica_steps.specs.Here.{self_of}
use Rattle.ob_silica_steps.specs.Binding.{Bound}
use Rattle.ob_flow_spec.specs.Contexts.{Context}
use Rattle.ob_coherent_spec.specs.Counting.{any, nth_object, field_cell, in_slots, in_objects, in_handles, owners, references}
use Rattle.ob_coherent_spec.specs.Runs.{times, around, entered_at, entries, constructing_at, constructions, locks, open_tests}
use Rattle.ob_coherent_spec.specs.Standing.{AllStand, NeedsOwner, IsObjectInRun}
use Rattle.ob_coherent_spec.specs.Remaining.{BodyParts}
use Rattle.ob_coherent_spec.specs.Waiting.{IsFrame, tests_of, Waits, AllWait}
use Rattle.ob_coherent_spec.specs.Coherent.{Beginning, Holds, IsRunning}
use Rattle.ob_soundness_laws.proofs.counting.Frames.{tests_in_same}
use Rattle.ob_soundness_laws.proofs.counting.Entering.{entered_below, constructing_below, tests_below, locks_below}
use Rattle.ob_soundness_laws.proofs.frames.Near.{IsNear, frame_with, EachSelf, KeepsArguments, all_near_under}
use Rattle.ob_soundness_laws.proofs.frames.After.{near_after}
use Rattle.ob_soundness_laws.proofs.frames.Objects.{ObjectHolds, ObjectsHold, objects_hold}
use Rattle.ob_soundness_laws.proofs.frames.Entered.{innermost_has_entry}
use Rattle.ob_soundness_laws.proofs.frames.Whole.{began_kept}
use Rattle.ob_soundness_laws.proofs.places.Writing.{stays_leaves}
use Rattle.ob_soundness_laws.proofs.places.Keeping.{argument_kept}
use Rattle.ob_soundness_laws.specs.calls.Binds.{in_both, in_rest, Binds}
use Rattle.ob_soundness_laws.proofs.calls.Running.{running_owners}

-- the frame of a configuration, left with what is bound, waits
abbrev pub left_waiting : Configuration → Bound → SilicaTerms → List Rest → Option ℕ → List Loan → Waiting
left_waiting c b rest outer result loans = record {
  frame = frame_with c.frame b.from.slots;
  terms = rest;
  outer = outer;
  result = result;
  loans = loans;
}

-- the configuration in which a called body begins above it
abbrev pub called_on : Configuration → Bound → SilicaFrame → SilicaTerms → SilicaTerms → List Rest → Option ℕ
    → List Loan
    → World → Configuration
called_on c b callee terms rest outer result loans w = record {
  frame = callee;
  control = runs terms [];
  stack = left_waiting c b rest outer result loans ∷ c.stack;
  notes = b.from.notes;
  world = w;
}

module _ (table : ClassTable) (made : IsClassTable table) (entry : Option ℕ) (beginning : Beginning) (c : Configuration)
    (k : IsRunning table entry beginning c) (b : Bound) (g : Context) (n : ℕ)
    (binds : Binds table c k.whole.parts b g n)
    (callee : SilicaFrame) (terms rest : SilicaTerms) (outer : List Rest) (result : Option ℕ) (loans : List Loan)
    (w : World)
    (same_outer : outer ≡ k.outer) (objects : w.objects ≡ b.from.world.objects)
    (locked : w.locked ≡ b.from.world.locked)
    (bound_owners : (m : ℕ) → in_slots owns m callee.slots ≡ in_slots owns m b.slots)
    (bound_references : (m : ℕ) → in_slots any m callee.slots ≡ in_slots any m b.slots)
    (progress : (m : ℕ) → times m c.world.progress ≤ times m w.progress)
    (stays : ℕ → Type 0) (each_stays : EachSelf stays c.stack)
    (apart : (m : ℕ) → stays m → m ≢ self_of c.frame.slots → m ≢ self_of callee.slots) where
  abbrev d : Configuration
  d = called_on c b callee terms rest outer result loans w

  outer_around : outer ≡ around c.control
  outer_around = same_outer ∙ sym (ap around k.control)

  self_left : self_of b.from.slots ≡ self_of c.frame.slots
  self_left = binds.stays.this

  -- Counts.

  pub called_owners : (m : ℕ) → owners m d ≡ in_both owns m b + in_rest owns m c
  called_owners m =
      let one = bound_owners m in
      let two = ap (in_objects owns m b.from.notes) objects in
      let three = ap (in_handles owns m) binds.stays.handles in
      omega (arith, one, two, three)

  pub called_references : (m : ℕ) → references m d ≡ in_both any m b + in_rest any m c
  called_references m =
      let one = bound_references m in
      let two = ap (in_objects any m b.from.notes) objects in
      let three = ap (in_handles any m) binds.stays.handles in
      omega (arith, one, two, three)

  pub called_fewer : (m : ℕ) → owners m d ≤ owners m c
  called_fewer m = let here = called_owners m in let was = running_owners table made entry beginning c k m in
      let less = binds.fewer m in omega (arith, here, was, less)

  pub called_tests : (m : ℕ) → open_tests m d ≡ open_tests m c
  called_tests m =
      let e = tests_below m c (left_waiting c b rest outer result loans) refl self_left outer_around in omega (arith, e)

  pub called_locks : (m : ℕ) → locks entry m d ≡ locks entry m c
  called_locks m =
      let e = locks_below m c (left_waiting c b rest outer result loans) refl self_left entry outer_around in omega
      (arith, e)

  pub called_entries : (m : ℕ) → entries m d ≡ entered_at m callee.how callee.slots + entries m c
  called_entries m =
      let e = entered_below m c (left_waiting c b rest outer result loans) refl self_left in omega (arith, e)

  pub called_constructions : (m : ℕ) → constructions m d ≡ constructing_at m callee.how callee.slots + constructions m c
  called_constructions m =
      let e = constructing_below m c (left_waiting c b rest outer result loans) refl self_left in omega (arith, e)

  pub locked_same : w.locked ≡ c.world.locked
  locked_same = locked ∙ binds.stays.locked

  -- Frames that wait.

  pub called_near : IsNear table (self_of c.frame.slots) stays (NeedsOwner table c.world.objects)
      (NeedsOwner table w.objects) c d
  called_near = near_after table stays c d c.frame b.from (stays_leaves c b.from binds.stays) objects refl
      (λ m stay some. let more = progress m in omega (arith, some, more))
      (λ m some. inl (subst (λ ls. 0 < times m ls) (sym locked_same) some)) k.whole.fields

  pub called_arguments : KeepsArguments k.whole.parts d c.frame.slots b.from.slots
  called_arguments j x le e = argument_kept (λ m. owners m d) x (b.from.slots j)
      (λ z i. binds.alike (slot j) z (e ∙ i))
      (λ z i s. ⊎_elim (λ was. inl was)
      (λ none. inr (λ m refers. called_owners m ∙ none m refers))
      (binds.shares (slot j) x z e i s))

  tests_left : (m : ℕ) → tests_of m c.frame.slots (around c.control) ≡ tests_of m b.from.slots outer
  tests_left m = subst (λ o. tests_of m c.frame.slots o ≡ tests_of m b.from.slots outer) outer_around
      (let e = tests_in_same m c.frame.slots b.from.slots outer self_left in omega (arith, e))

  pub called_below : AllWait table (NeedsOwner table w.objects) d (frame_with c.frame b.from.slots) k.whole.parts
      (self_of b.from.slots ∷ self_of callee.slots ∷ [])
      (λ m. tests_of m b.from.slots outer + tests_of m callee.slots []) c.stack
  called_below = all_near_under table (self_of c.frame.slots) stays (NeedsOwner table c.world.objects)
      (NeedsOwner table w.objects) c d called_near c.frame k.whole.parts b.from.slots (self_of c.frame.slots ∷ [])
      (self_of b.from.slots ∷ self_of callee.slots ∷ []) (λ m. tests_of m c.frame.slots (around c.control))
      (λ m. tests_of m b.from.slots outer + tests_of m callee.slots []) c.stack self_left called_arguments k.whole.slots
      (inl refl)
      (λ m below. let less = called_fewer m in let same = tests_left m in omega (arith, less, same))
      (inl (ap (λ os. (nth_object os (self_of c.frame.slots)).state) objects
      ∙ binds.stays.states (self_of c.frame.slots)))
      each_stays
      (λ m stay a. ((λ e. a.0 (e ∙ self_left)), (apart m stay a.0, tt)))
      k.whole.waiting

  -- Objects.

  changed : (m : ℕ) → (m ≡ self_of c.frame.slots) ⊎ (length c.world.objects ≤ m) → m < length w.objects
      → ObjectHolds table d m
  changed m (inr past) below = absurd (let e = ap (λ (os : List Object). length os) objects in
      let same = binds.stays.count in omega (arith, past, below, e, same))
  changed m (inl is) below = subst (ObjectHolds table d) (sym (is ∙ sym self_left)) (record {
    stand = subst (λ os. AllStand table os (field_cell b.from.notes os (self_of b.from.slots)))
        (sym objects) binds.sits.fields;
    object = subst (λ os. IsObjectInRun table b.from.notes (self_of b.from.slots)
        (nth_object os (self_of b.from.slots))) (sym objects) binds.sits.object;
    declared = λ none new.
        let has = innermost_has_entry table entry beginning c k.whole in
        let some : 0 < entries (self_of b.from.slots) c + constructions (self_of b.from.slots) c =
        subst (λ i. 0 < entries i c + constructions i c) (sym self_left) has in
        let e = called_entries (self_of b.from.slots) in let f = called_constructions (self_of b.from.slots) in
        absurd (omega (arith, some, e, f, none, new));
  })

  pub called_objects : ObjectsHold table d
  called_objects = objects_hold table entry beginning (self_of c.frame.slots) stays c d called_near made k.whole
      binds.stays.handles
      (λ m ne. inl (ap (λ os. (nth_object os (self_of c.frame.slots)).state) objects
      ∙ binds.stays.states (self_of c.frame.slots)))
      changed
      (λ m below ne none new. let e = called_entries m in let f = called_constructions m in (
        (let z : entries m c ≡ 0 = omega (arith, e, none) in z),
        (let z : constructions m c ≡ 0 = omega (arith, f, new) in z),
      ))

  -- The whole.

  module _ (called : BodyParts) (frame : IsFrame table w.objects callee called)
      (stand : AllStand table w.objects callee.slots)
      (waiting : Waits table (NeedsOwner table w.objects) d callee called (self_of callee.slots ∷ [])
      (λ m. tests_of m callee.slots []) (left_waiting c b rest outer result loans))
      (same_parts : waiting.parts ≡ k.whole.parts)
      (entered : (m : ℕ) → entries m d ≡ times m w.progress) (once : (m : ℕ) → entries m d ≤ 1) where
    pub needs_before : (m : ℕ) → NeedsOwner table w.objects m → NeedsOwner table b.from.world.objects m
    needs_before m must = subst (λ os. NeedsOwner table os m) objects must

    pub was_needed : (m : ℕ) → NeedsOwner table w.objects m → NeedsOwner table c.world.objects m
    was_needed m must = called_near.needs m
        (let e = ap (λ (os : List Object). length os) objects in let same = binds.stays.count in let low = must.there in
        omega (arith, e, same, low)) must

    pub shared_as : (m : ℕ) → (nth_object w.objects m).shared ≡ (nth_object b.from.world.objects m).shared
    shared_as m = ap (λ os. (nth_object os m).shared) objects

    abbrev pub called_whole : Holds table entry beginning d
    called_whole = record {
      one_owner = λ m. let less = called_fewer m in let most = k.whole.one_owner m in omega (arith, less, most);
      disowned = λ m yes no.
          let was : (nth_object c.world.objects m).disowned ≡ true =
          sym (binds.disowned m) ∙ ap (λ os. (nth_object os m).disowned) (sym objects) ∙ yes in
          let not : (nth_object c.world.objects m).shared ≡ false =
          ⊎_elim (λ z. absurd (both_ways _ no (called_near.shared m z))) (λ z. z)
          (cases_Bool (nth_object c.world.objects m).shared) in
          let none = k.whole.disowned m was not in let less = called_fewer m in omega (arith, none, less);
      shared = λ m yes some. ⊎_elim
          (λ was. let less = called_fewer m in ⊎_elim
          (λ l. inl (subst (λ ls. 0 < times m ls) (sym locked_same) l))
          (λ t. inr (let same = called_tests m in omega (arith, t, same)))
          (k.whole.shared m was (omega (arith, some, less))))
          (λ not. let none = binds.newly m not (sym (shared_as m) ∙ yes) in let is = called_owners m in
          absurd (omega (arith, some, none, is)))
          (cases_Bool (nth_object c.world.objects m).shared);
      tested = λ m some. let same = called_tests m in
          let old = k.whole.tested m (omega (arith, some, same)) in let more = progress m in omega (arith, old, more);
      assets = λ m must. let was = k.whole.assets m (was_needed m must) in
          let more = binds.assets m (needs_before m must) in
          let is = called_owners m in let old = running_owners table made entry beginning c k m in
          omega (arith, was, more, is, old);
      slots = stand;
      fields = called_objects.fields;
      handles = called_objects.handles;
      objects = called_objects.objects;
      declared = called_objects.declared;
      progress = entered;
      entered_once = once;
      locked = λ m. called_locks m ∙ k.whole.locked m ∙ ap (times m) (sym locked_same);
      locked_once = λ m. let same = called_locks m in let most = k.whole.locked_once m in omega (arith, same, most);
      parts = called;
      frame = frame;
      waiting = (
        waiting,
        subst (λ p. AllWait table (NeedsOwner table w.objects) d (frame_with c.frame b.from.slots) p
            (self_of b.from.slots ∷ self_of callee.slots ∷ [])
            (λ m. tests_of m b.from.slots outer + tests_of m callee.slots []) c.stack) (sym same_parts) called_below,
      );
      began = began_kept table c.world.objects beginning c.frame k.whole.parts b.from.slots (λ m. owners m d) c.stack
          k.whole.frame called_arguments k.whole.began;
    }
