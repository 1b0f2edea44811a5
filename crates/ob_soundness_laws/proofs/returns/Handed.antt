-- A return hands a value over: its place keeps what a giver keeps, and the frame leaves with the value.
use Rattle.std.proofs.Common.{◌≡◌, ℕ, ◌+◌, ◌<◌, ◌≤◌, ◌⊎◌, inl, inr, ⊎_elim, true, false, List, [], ◌∷◌, length, Option, Some, refl, sym, ap, ◌∙◌, subst, arith, true≢false}
use Rattle.std.proofs.lemmas.Bool.{both_ways, cases_lt}
use Rattle.ob_perm.specs.States.{states_max}
use Rattle.ob_perm.specs.Permissions.{Permission, owned, shared, unowned, owns, is_unowned, kept, fits}
use Rattle.ob_table.specs.Tables.{ClassTable}
use Rattle.ob_table.specs.declared.contract.ResolvedType.{ResolvedType}
use Rattle.ob_table_spec.specs.Conditions.{IsClassTable}
use Rattle.ob_table_spec.specs.WellFormed.{kind_of_resolved, serves_as}
use Rattle.ob_heap_spec.specs.Values.{reference}
use Rattle.ob_heap_spec.specs.Objects.{state_number}
use Rattle.ob_silica.specs.Terms.{SilicaTerms}
use Rattle.ob_silica_places.specs.Converting.{converted}
use Rattle.ob_silica_places.specs.Known.{permission_of_type}
use Rattle.ob_silica_places.specs.Places.{Location, this}
use Rattle.ob_silica_steps.specs.Cells.{Cell, noted, permission_in}
use Rattle.ob_silica_steps.specs.Configurations.{Rest, Waiting, Control, runs, leaves, Configuration}
use Rattle.ob_silica_steps.specs.Here.{Here, here, self_of, hand}
use Rattle.ob_silica_steps.specs.Here.{counted as counts_as}
use Rattle.ob_silica_steps.specs.Binding.{bound_cell}
use Rattle.ob_flow_spec.specs.Contexts.{BodyFrame, with_permission, permission_on, permission_at, is_tested}
use Rattle.ob_flow_spec.specs.Joining.{same_mode}
use Rattle.ob_flow_spec.specs.Returning.{tests_ended}
use Rattle.ob_flow_spec.specs.Uses.{after_give}
use Rattle.ob_places_laws.proofs.Permissions.{fits_shared}
use Rattle.ob_places_laws.proofs.Conversions.{converted_no_say}
use Rattle.ob_coherent_spec.specs.Counting.{nth_object, field_cell, Counted, any, in_cell, in_waiting, in_control, in_all, owners, references}
use Rattle.ob_coherent_spec.specs.Runs.{around, constructing_at, constructing_among, tested_places}
use Rattle.ob_coherent_spec.specs.Standing.{RefersToShared, Stands, AllStand, IsObjectInRun, NeedsOwner, HasItsState, IsOfKind}
use Rattle.ob_coherent_spec.specs.Saying.{Says, every}
use Rattle.ob_coherent_spec.specs.Remaining.{BodyParts, body_of, IsPlaceIn}
use Rattle.ob_coherent_spec.specs.Waiting.{gives_back_as, tests_of, AllWait}
use Rattle.ob_coherent_spec.specs.Coherent.{Beginning, IsGivenBack, LeavesSo, IsRunning, IsLeaving}
use Rattle.ob_soundness_laws.specs.frames.Steps.{moved_to, KeepsQuietly}
use Rattle.ob_soundness_laws.proofs.frames.Entered.{innermost_in_progress}
use Rattle.ob_soundness_laws.proofs.frames.Quiet.{EndsSame, ends_itself, quiet_whole, quiet_shares}
use Rattle.ob_soundness_laws.proofs.frames.Whole.{whole_kept}
use Rattle.ob_soundness_laws.proofs.counting.Cells.{cell_counted}
use Rattle.ob_soundness_laws.proofs.counting.Places.{in_slot}
use Rattle.ob_soundness_laws.proofs.counting.Frames.{constructing_by}
use Rattle.ob_soundness_laws.proofs.counting.Whole.{all_but_here, place_and_waiting}
use Rattle.ob_soundness_laws.proofs.counting.Low.{place_low, set_slot_low}
use Rattle.ob_soundness_laws.proofs.counting.Permitting.{hand_counts}
use Rattle.ob_soundness_laws.specs.places.Placed.{cell_at, Written, Found, Sits}
use Rattle.ob_soundness_laws.proofs.places.Reading.{place_is}
use Rattle.ob_soundness_laws.proofs.places.Standing.{reference_is, needs_stay, stands_stay, says_less, has_state_same}
use Rattle.ob_soundness_laws.proofs.places.Objects.{comes_sets}
use Rattle.ob_soundness_laws.proofs.places.Writing.{hand_written, hand_world, hand_shares, hand_disowns_none, stays_leaves}
use Rattle.ob_soundness_laws.proofs.places.Finding.{counts_is, found_stands, room_noted}
use Rattle.ob_soundness_laws.proofs.places.Keeping.{slots_stand, fields_stand, in_run_written, says_written, unset_kept, opens_kept, opens_written, written_that}
use Rattle.ob_soundness_laws.proofs.places.Carrying.{noted_alike, kept_mode, kept_is_shared, kept_stands}
use Rattle.ob_soundness_laws.proofs.places.Getting.{given_refers, bound_stands, objects_low}
use Rattle.ob_soundness_laws.proofs.places.Handing.{bound_says, counted_serves, gives_shared, carry_arguments}
use Rattle.ob_soundness_laws.proofs.places.Filling.{given_fewer, given_same}
use Rattle.ob_soundness_laws.proofs.calls.Giving.{kept_says}
use Rattle.ob_soundness_laws.proofs.tests.Unchanged.{opens_so}
use Rattle.ob_soundness_laws.proofs.returns.Returned.{same_gift}

some_same : {A : Type 0} (x y : A) → Some x ≡ Some y → x ≡ y
some_same x y e = cc

-- a frame that constructs an object refers to it
constructing_refers : (table : ClassTable) (N : ℕ → Type 0) (c : Configuration) (n : ℕ) (callee : _)
    (called : BodyParts) (above : List ℕ)
    (tests : ℕ → ℕ) (hs : List Waiting) → AllWait table N c callee called above tests hs → 0 < constructing_among n hs
    → 0 < in_waiting any n hs
constructing_refers table N c n callee called above tests [] w has = absurd (omega arith)
constructing_refers table N c n callee called above tests (h ∷ hs) (w, ws) has = ⊎_elim
    (λ this. let e = constructing_by n h.frame.how h.frame.slots this in
    let one : in_cell any n (h.frame.slots 0) ≡ 1 = ap (in_cell any n) w.frame.set ∙ cell_counted any n w.frame.this
    refl (w.frame.refers ∙ ap reference e.1) in
    let most = in_slot any n h.frame.slots 0 (set_slot_low table c.world.objects h.frame w.parts w.frame 0 w.frame.this
    w.frame.set) in omega (arith, one, most))
    (λ none. let rest = constructing_refers table N c n h.frame w.parts (self_of h.frame.slots ∷ above) (λ m. tests_of m
    h.frame.slots h.outer + tests m) hs ws (omega arith) in
    omega (arith, rest))
    (cases_lt 0 (constructing_at n h.frame.how h.frame.slots))

module _ (table : ClassTable) (t : IsClassTable table) (entry : Option ℕ) (beginning : Beginning) (c : Configuration)
    (k : IsRunning table entry beginning c) (terms : SilicaTerms) (outer : List Rest) (so : c.control ≡ runs terms
    outer)
    (p : Location) (inside : IsPlaceIn (body_of table c.frame k.whole.parts) p)
    (u : Found (NeedsOwner table c.world.objects) (k.context p) (cell_at (here c) p)) (of : ResolvedType)
    (serves : serves_as table (kind_of_resolved of) u.cell.note.kind ≡ true)
    (fit : fits (converted table u.cell.note.kind (kind_of_resolved of) (counts_as (here c) p u.cell))
    (permission_of_type of) ≡ true) where
  abbrev b : BodyFrame
  b = body_of table c.frame k.whole.parts

  abbrev w : Permission
  w = permission_of_type of

  abbrev after : Here
  after = hand of p u.cell (here c)

  abbrev result : Cell
  result = bound_cell of u.cell.value

  abbrev next : Configuration
  next = moved_to c after (leaves (Some result) outer)

  abbrev sits : Sits table c.frame k.whole.parts (here c) k.context
  sits = record {
    frame = k.whole.frame;
    slots = k.whole.slots;
    fields = k.whole.fields (self_of c.frame.slots);
    object = k.whole.objects (self_of c.frame.slots) k.whole.frame.there;
    says = k.says;
    placed = k.placed;
    owns_made = k.owns_made;
  }

  found_mode : p ≡ this → same_mode (permission_at k.context p) u.cell.note.permission ≡ true
  found_mode e = ap (λ z. same_mode (permission_at k.context z) u.cell.note.permission) e
      ∙ ap (λ z. same_mode (permission_at k.context this) (permission_in z)) (sym u.is ∙ ap (cell_at (here c)) e)
      ∙ k.says.mode refl

  written : Written p (Some (noted (kept u.cell.note.permission w) u.cell)) (here c) after
  written = hand_written of p u.cell (here c) u.is

  -- where Shared is wanted the value refers to an object that is marked
  refers : w ≡ shared → (n : ℕ) × (u.cell.value ≡ reference n)
  refers e = given_refers table t c.world.objects u.cell of serves (found_stands table t c.frame k.whole.parts (here c)
      k.context sits p u).kind e

  marked : w ≡ shared → (n : ℕ) → u.cell.value ≡ reference n → n < length c.world.objects
      → (nth_object after.world.objects n).shared ≡ true
  marked e n is lt = ap (λ v. (nth_object v.objects n).shared) (hand_world of p u.cell (here c)) ∙ comes_sets of
      u.cell.value c.world n lt is e

  there : (n : ℕ) → u.cell.value ≡ reference n → n < length c.world.objects
  there n e = (reference_is table c.world.objects u.cell.note.kind n (subst (IsOfKind table c.world.objects
      u.cell.note.kind) e
      (found_stands table t c.frame k.whole.parts (here c) k.context sits p u).kind)).2

  marks_value : w ≡ shared → RefersToShared after.world.objects u.cell.value
  marks_value e = let r = refers e in subst (RefersToShared after.world.objects) (sym r.1) (marked e r.0 r.1
      (there r.0 r.1))

  gives_owner : owns w ≡ true → owns u.cell.note.permission ≡ true
  gives_owner e = (counted_serves table (here c) p u.cell (kind_of_resolved of) w fit e).0

  -- counts
  counted : (counts : Counted) (n : ℕ) → in_all counts n next + in_cell counts n (Some u.cell)
      ≡ in_all counts n c + in_cell counts n (Some (noted (kept u.cell.note.permission w) u.cell)) + in_cell counts n
      (Some result)
  counted counts n = let x = all_but_here counts n c next refl written.stays.handles in
      let y = hand_counts of p (here c) (place_low table t c.world.objects c.frame k.whole.parts k.whole.frame p inside)
      k.whole.frame.there u.cell u.is counts n in
      let v : in_control counts n c.control ≡ 0 = ap (in_control counts n) so in omega (arith, x, y, v)

  fewer : (n : ℕ) → owners n next ≤ owners n c
  fewer n = let x = counted owns n in let y = given_fewer n u.cell result w refl gives_owner refl in omega (arith, x, y)

  keeps_owner : (n : ℕ) → NeedsOwner table after.world.objects n → owners n c ≤ owners n next
  keeps_owner n needs = let x = counted owns n in
      let y = given_same n u.cell result w refl gives_owner refl (λ e is. both_ways _ needs.unshared (marked e n is
      (there n is))) in omega (arith, x, y)

  -- where Shared is wanted the given one is an owner's or Shared
  owner_or_shared : w ≡ shared → (owns u.cell.note.permission ≡ true) ⊎ (u.cell.note.permission ≡ shared)
  owner_or_shared e = ⊎_elim
      (λ is. by_permission u.cell.note.permission (sym (ap is_unowned is) ∙ say))
      (λ none. absurd (true≢false (sym (ap is_unowned none) ∙ say)))
      (counts_is (here c) p u.cell)
    where
      say : is_unowned (counts_as (here c) p u.cell) ≡ false
      say = sym (converted_no_say table u.cell.note.kind (kind_of_resolved of) (counts_as (here c) p u.cell))
          ∙ ⊎_elim (λ y. ap is_unowned y.1) (λ y. ap is_unowned y)
          (fits_shared (converted table u.cell.note.kind (kind_of_resolved of) (counts_as (here c) p u.cell))
          (subst (λ q. fits (converted table u.cell.note.kind (kind_of_resolved of) (counts_as (here c) p u.cell)) q
          ≡ true) e fit))

      by_permission : (q : Permission) → is_unowned q ≡ false → (owns q ≡ true) ⊎ (q ≡ shared)
      by_permission (owned a) e = inl refl
      by_permission shared e = inr refl
      by_permission unowned e = absurd (true≢false e)

  gone : w ≡ shared → owns u.cell.note.permission ≡ true → (n : ℕ) → u.cell.value ≡ reference n → owners n next ≡ 0
  gone e owner n is = let x = counted owns n in let y = gives_shared n u.cell result w e refl in
      let one = cell_counted owns n u.cell owner is in let most = k.whole.one_owner n in
      let y0 = y.0 in let y1 = y.1 in omega (arith, x, y0, y1, one, most)

  newly : kept u.cell.note.permission w ≡ shared → (u.cell.note.permission ≡ shared) ⊎ ((n : ℕ) → u.cell.value ≡
      reference n → owners n next ≡ 0)
  newly e = ⊎_elim (λ y. inl y) (λ y. ⊎_elim (λ o. inr (gone y o)) (λ o. inl o) (owner_or_shared y)) (kept_is_shared
      u.cell.note.permission w e)

  -- what stands
  z_stands : (z : Cell) → Some (noted (kept u.cell.note.permission w) u.cell) ≡ Some z → Stands table
      after.world.objects z
  z_stands z e = subst (Stands table after.world.objects) (some_same (noted (kept u.cell.note.permission w) u.cell) z e)
      (kept_stands table (here c) after written.stays u.cell w marked refers (found_stands table t c.frame k.whole.parts
      (here c) k.context sits p u))

  result_stands : Stands table after.world.objects result
  result_stands = bound_stands table t after.world.objects u.cell (counts_as (here c) p u.cell) w (kind_of_resolved of)
      low serves (counts_is (here c) p u.cell)
      marks_value fit (stands_stay table (here c) after written.stays u.cell (found_stands table t c.frame k.whole.parts
      (here c) k.context sits p u))
    where
      low : (n : ℕ) → n < length after.world.objects → state_number (nth_object after.world.objects n).state <
          states_max
      low n lt = subst (λ s. state_number s < states_max) (sym (written.stays.states n))
          (objects_low table t c.notes c.world.objects k.whole.objects n (let e = written.stays.count in omega
          (arith, e, lt)))

  run_now : IsObjectInRun table after.notes (self_of after.slots) (nth_object after.world.objects (self_of after.slots))
  run_now = in_run_written (here c) after p (Some (noted (kept u.cell.note.permission w) u.cell)) written table
      (k.whole.objects (self_of c.frame.slots) k.whole.frame.there)
      (room_noted table t c.frame k.whole.parts (here c) k.context sits p u.cell (kept u.cell.note.permission w) u.is)

  quietly : KeepsQuietly table c k.whole.parts after (leaves (Some result) outer)
  quietly = record {
    others = stays_leaves c after written.stays;
    state = written.stays.states (self_of c.frame.slots);
    locks = written.stays.locked;
    this = written.stays.this;
    arguments = λ j x le set. carry_arguments (λ n. owners n next) (here c) after p u.cell (kept u.cell.note.permission w)
        written u.is newly j x set;
    unset = unset_kept (here c) after p (Some (noted (kept u.cell.note.permission w) u.cell)) written k.whole.parts.slots
        (λ j e. subst (IsPlaceIn b) e inside) k.whole.frame.unset;
    slots = slots_stand (here c) after p (Some (noted (kept u.cell.note.permission w) u.cell)) written table z_stands
        k.whole.slots;
    fields = subst (λ n. AllStand table after.world.objects (field_cell after.notes after.world.objects n))
        written.stays.this
        (fields_stand (here c) after p (Some (noted (kept u.cell.note.permission w) u.cell)) written table z_stands
        (k.whole.fields (self_of c.frame.slots)));
    object = subst (λ n. IsObjectInRun table after.notes n (nth_object after.world.objects n)) written.stays.this run_now;
    fewer = fewer;
    keeps_owner = keeps_owner;
    newly_shared = λ n unset set. let r = hand_shares of p u.cell (here c) n unset set in ⊎_elim
        (λ o. gone r.1 o n r.0)
        (λ o. absurd (both_ways _ unset (subst (RefersToShared c.world.objects) r.0
        ((found_stands table t c.frame k.whole.parts (here c) k.context sits p u).marked o))))
        (owner_or_shared r.1);
    newly_disowned = λ n unset set. absurd (both_ways _ (hand_disowns_none of p u.cell (here c) n ∙ unset) set);
  }

  same_ends : EndsSame (around c.control) outer
  same_ends = subst (λ (x : Control). EndsSame (around x) outer) (sym so) (ends_itself outer)

  N : ℕ → Type 0
  N = NeedsOwner table after.world.objects

  -- what the context says
  says_now : Says b (NeedsOwner table after.world.objects) (after_give k.context p w) after every
  says_now = says_written (here c) after p (Some (noted (kept u.cell.note.permission w) u.cell)) written b (NeedsOwner table
      after.world.objects) k.context
      (with_permission (kept (permission_at k.context p) w) (k.context p))
      (kept_says (NeedsOwner table c.world.objects) (NeedsOwner table after.world.objects) (k.context p) u.note u.cell w
      u.told u.kind u.permission u.owner
      (needs_stay table (here c) after written.stays))
      (λ e. ap (λ y. same_mode (permission_on (with_permission (kept (permission_on y) w) y))
      (kept u.cell.note.permission w)) u.told
      ∙ kept_mode u.note.permission u.cell.note.permission w
      (ap (λ y. same_mode (permission_on y) u.cell.note.permission) (sym u.told) ∙ found_mode e))
      (says_less b (NeedsOwner table c.world.objects) (NeedsOwner table after.world.objects) (needs_stay table (here c)
      after written.stays) k.context (here c) every k.says)

  -- no object under construction gets a reference more
  references_kept : (n : ℕ) → 0 < constructing_among n c.stack → references n next ≤ 1
  references_kept n has =
      let x = counted any n in
      let same : in_cell any n (Some (noted (kept u.cell.note.permission w) u.cell)) ≡ in_cell any n (Some u.cell) =
      refl in
      let y : in_cell any n (Some result) ≡ in_cell any n (Some u.cell) = refl in
      let one = k.unreferred n (let z : 0 < constructing_at n c.frame.how c.frame.slots + constructing_among n c.stack =
      omega arith in z) in
      let below = constructing_refers table _ c n c.frame k.whole.parts _ _ c.stack k.whole.waiting has in
      let two = place_and_waiting any n c p (place_low table t c.world.objects c.frame k.whole.parts k.whole.frame p
      inside) in
      let at : in_cell any n (cell_at (here c) p) ≡ in_cell any n (Some u.cell) = ap (in_cell any n) u.is in
      omega (arith, x, same, y, one, below, two, at)

  -- The frame leaves with the value.
  pub handed_leaves : gives_back_as c.frame k.whole.parts ≡ Some of
      → ((q : Location) → is_tested (tested_places outer) q ≡ true → owns (permission_at (after_give k.context p w) q) ≡
      true)
      → LeavesSo b c.frame.how (tests_ended (tested_places outer) (after_give k.context p w))
      (state_number (nth_object c.world.objects (self_of c.frame.slots)).state)
      → HasItsState table (nth_object c.world.objects (self_of c.frame.slots))
      → IsLeaving table entry beginning next
  handed_leaves gift still left placed = record {
    whole = whole_kept table entry beginning c after (leaves (Some result) outer) t k.whole
        (quiet_whole table entry beginning c after (leaves (Some result) outer) k.whole same_ends quietly);
    result = Some result;
    outer = outer;
    control = refl;
    returned = λ x e. subst (Stands table after.world.objects) (some_same result x e) result_stands;
    given = subst (IsGivenBack (NeedsOwner table after.world.objects) (Some result)) (sym (same_gift c.frame.how c.frame
        after.slots k.whole.parts ∙ gift))
        (bound_says (NeedsOwner table after.world.objects) of u.cell.value);
    context = after_give k.context p w;
    says = says_now;
    opens = opens_kept b (here c) after written.stays outer
        (opens_written table outer (here c) after p (Some (noted (kept u.cell.note.permission w) u.cell)) written
        k.whole.frame.there
        (k.whole.objects (self_of c.frame.slots) k.whole.frame.there) run_now (λ e. noted_alike u.cell
        (kept u.cell.note.permission w) (cell_at (here c) p) u.is))
        (opens_so table entry beginning c k terms outer so);
    still = still;
    leaves_so = subst (λ s. LeavesSo b c.frame.how (tests_ended (tested_places outer) (after_give k.context p w))
        (state_number s))
        (sym (ap (λ n. (nth_object after.world.objects n).state) written.stays.this ∙ written.stays.states
        (self_of c.frame.slots))) left;
    placed = subst (λ n. HasItsState table (nth_object after.world.objects n)) (sym written.stays.this)
        (has_state_same table (nth_object c.world.objects (self_of c.frame.slots))
        (nth_object after.world.objects (self_of c.frame.slots)) (written.stays.contracts (self_of c.frame.slots))
        (written.stays.states (self_of c.frame.slots)) placed);
    shares = λ old. quiet_shares table entry beginning c after (leaves (Some result) outer) k.whole same_ends quietly
        k.shares
        (λ held. ⊎_elim
        (λ e. ⊎_elim
        (λ was. inl (ap permission_in (subst (λ q. cell_at (here c) q ≡ Some u.cell) (sym e) u.is) ∙ was))
        (λ none. inr (
          innermost_in_progress table entry beginning c k.whole old,
          none (self_of c.frame.slots)
              (ap (λ (x : Cell). x.value) (some_same u.cell k.whole.frame.this
              (sym (subst (λ q. cell_at (here c) q ≡ Some u.cell) (sym e) u.is) ∙ k.whole.frame.set))
              ∙ k.whole.frame.refers),
        ))
        (newly (sym (ap permission_in (written_that (here c) after p (Some (noted (kept u.cell.note.permission w)
        u.cell)) written this e)) ∙ held)))
        (λ e. inl (ap permission_in (sym (written.others this e)) ∙ held))
        (place_is this p));
    unreferred = references_kept;
    lends = k.lends;
  }
