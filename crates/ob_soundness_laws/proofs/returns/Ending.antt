-- A frame that leaves ends the tests that are open in it, one after another.
use Rattle.std.proofs.Common.{◌≡◌, ◌≢◌, ℕ, ◌+◌, ◌<◌, ◌≤◌, inl, inr, ⊎_elim, true, false, nat_eq, List, ◌∷◌, Option, Some, None, refl, sym, ap, ◌∙◌, subst, arith}
use Rattle.std.proofs.lemmas.Bool.{both_ways, or_right}
use Rattle.std.proofs.lemmas.Bool.Decides.{eqb_tells}
use Rattle.ob_perm.specs.Permissions.{Permission, owned, shared, unowned, owns}
use Rattle.ob_perm.specs.Masks.{permission_of}
use Rattle.ob_table.specs.Tables.{ClassTable, contract_at}
use Rattle.ob_table_spec.specs.Conditions.{IsClassTable}
use Rattle.ob_heap_spec.specs.Values.{reference}
use Rattle.ob_heap_spec.specs.Objects.{state_number, has_field}
use Rattle.ob_heap_spec.specs.Worlds.{World}
use Rattle.ob_heap_spec.specs.Marks.{without_first}
use Rattle.ob_silica_places.specs.Known.{Known}
use Rattle.ob_silica_places.specs.Places.{Location, slot, field, this, same_location}
use Rattle.ob_silica_steps.specs.Cells.{Cell, noted, permission_in}
use Rattle.ob_silica_steps.specs.Configurations.{by_new, Ends, plain_end, test_end, lock_end, loop_end, Rest, leaves, Configuration}
use Rattle.ob_silica_steps.specs.Here.{Here, here, self_of, set_permission}
use Rattle.ob_silica_steps.specs.Returning.{leave_step}
use Rattle.ob_silica_steps.specs.Testing.{end_branch}
use Rattle.ob_flow_spec.specs.Contexts.{BodyFrame, Context, now, with_permission, permission_on, permission_at, is_held_as, is_owned_asset, is_tested, exit_of_field}
use Rattle.ob_flow_spec.specs.Joining.{same_mode}
use Rattle.ob_flow_spec.specs.Returning.{tests_ended}
use Rattle.ob_flow_laws.specs.Laws.{MeetsExit}
use Rattle.ob_places_laws.proofs.Serves.{allows_owner}
use Rattle.ob_coherent_spec.specs.Counting.{nth_object, one_if, field_cell, Counted, any, in_cell, in_slots, in_objects, in_control, in_all, owners, references}
use Rattle.ob_coherent_spec.specs.Runs.{times, around, locks_at, locks_around, tests_at, tests_in, tested_places, tested_before}
use Rattle.ob_coherent_spec.specs.Standing.{RefersToShared, Stands, AllStand, IsObjectInRun, NeedsOwner, HasItsState}
use Rattle.ob_coherent_spec.specs.Saying.{SaysOf, own_object, every}
use Rattle.ob_coherent_spec.specs.Remaining.{body_of, IsPlaceIn}
use Rattle.ob_coherent_spec.specs.OpenTests.{IsTestOf, IsOpen, IsNew, AreOpen}
use Rattle.ob_coherent_spec.specs.Waiting.{tests_of, SharesThis}
use Rattle.ob_coherent_spec.specs.Coherent.{Beginning, IsGivenBack, LeavesSo, IsLeaving, leaving, StepsSo}
use Rattle.ob_soundness_laws.specs.frames.Steps.{moved_to, KeepsWhole}
use Rattle.ob_soundness_laws.proofs.frames.Near.{keeps_itself}
use Rattle.ob_soundness_laws.proofs.frames.Whole.{whole_kept}
use Rattle.ob_soundness_laws.proofs.counting.Cells.{shared_none}
use Rattle.ob_soundness_laws.proofs.counting.Numbers.{one_same, one_other}
use Rattle.ob_soundness_laws.proofs.counting.Writing.{in_here}
use Rattle.ob_soundness_laws.proofs.counting.Permitting.{permission_counts}
use Rattle.ob_soundness_laws.proofs.counting.Whole.{all_but_here}
use Rattle.ob_soundness_laws.proofs.counting.Frames.{tests_in_same}
use Rattle.ob_soundness_laws.proofs.counting.Testing.{tested_at, tests_of_more, tests_of_same, without_count}
use Rattle.ob_soundness_laws.proofs.counting.Low.{place_low}
use Rattle.ob_soundness_laws.specs.places.Placed.{cell_at, Written}
use Rattle.ob_soundness_laws.proofs.places.Reading.{read_is, place_is, same_place, kind_in_run, available_is}
use Rattle.ob_soundness_laws.proofs.places.Writing.{permission_written, permission_world}
use Rattle.ob_soundness_laws.proofs.places.Keeping.{put_other, slots_stand, fields_stand, in_run_written, says_written, unset_kept, opens_kept, opens_written}
use Rattle.ob_soundness_laws.proofs.places.Carrying.{noted_alike}
use Rattle.ob_soundness_laws.proofs.places.Handing.{carry_arguments}
use Rattle.ob_soundness_laws.proofs.returns.Returned.{same_gift}
use Rattle.ob_soundness_laws.proofs.tests.Locking.{with_locked, opens_locked, says_locked}
use Rattle.ob_soundness_laws.proofs.tests.Ending.{owner_counts, locks_tested, tests_tested}

some_same : {A : Type 0} (x y : A) → Some x ≡ Some y → x ≡ y
some_same x y e = cc

reference_same : (i j : ℕ) → reference i ≡ reference j → i ≡ j
reference_same i j e = cc

-- What is left with one context is left with one that says the same.

meets_same : (b : BodyFrame) (g j : Context) (p : Location) (w : Permission) → j p ≡ g p → MeetsExit b g p w
    → MeetsExit b j p w
meets_same b g j p (owned a) e m = ap (λ y. is_held_as y (owned a)) e ∙ m
meets_same b g j p shared e m = ap (λ y. is_held_as y shared) e ∙ m
meets_same b g j p unowned e m = ap (λ y. is_owned_asset b.table y) e ∙ m

leaves_same : (b : BodyFrame) (how : _) (g j : Context) (s : ℕ) → ((p : Location) → j p ≡ g p) → LeavesSo b how g s
    → LeavesSo b how j s
leaves_same b how g j s e l = record {
  params = λ k p at. meets_same b g j (slot (k + 1)) (permission_of p.exit) (e (slot (k + 1))) (l.params k p at);
  itself = λ old. meets_same b g j this (permission_of b.signature.exit) (e this) (l.itself old);
  given = λ new. ap (λ y. owns (permission_on y)) (e this) ∙ l.given new;
  others = λ k past. ap (λ y. is_owned_asset b.table y) (e (slot k)) ∙ l.others k past;
  fields = λ k there. ap (λ y. is_held_as y (exit_of_field b b.signature k)) (e (field k)) ∙ l.fields k there;
}

-- ending one test and then the others ends all
one_then_others : (ps : List Location) (g : Context) (p : Location) → is_tested ps p ≡ false
    → (q : Location) → tests_ended ps (now g p shared) q ≡ tests_ended (p ∷ ps) g q
one_then_others ps g p new q = ⊎_elim
    (λ e. subst (λ r. tests_ended ps (now g p shared) r ≡ tests_ended (p ∷ ps) g r) (sym e) (rw (new, same_place p)
    refl))
    (λ ne. rw ne refl)
    (place_is q p)

owner_known : (y : Option Known) → owns (permission_on y) ≡ true → (z : Known) × (y ≡ Some z) × (owns z.permission ≡
    true)
owner_known None e = absurd (cc)
owner_known (Some z) e = (z, refl, e)

module _ (table : ClassTable) (entry : Option ℕ) (beginning : Beginning) (t : IsClassTable table) (c : Configuration)
    (k : IsLeaving table entry beginning c) (r : Rest) (outer : List Rest) (lists : k.outer ≡ r ∷ outer)
    (p : Location) (m : ℕ) (a : IsTestOf (body_of table c.frame k.whole.parts) (here c) p m)
    (owner : owns (permission_at k.context p) ≡ true) (marked : (nth_object c.world.objects m).shared ≡ true)
    (ends : (n : ℕ) → tested_at n c.frame.slots r.ends ≡ one_if (nat_eq m n))
    (ls : List ℕ) (unlocks : (n : ℕ) → locks_at n r.ends + times n ls ≡ times n c.world.locked)
    (places : tested_places (r ∷ outer) ≡ p ∷ tested_places outer) (new : is_tested (tested_places outer) p ≡ false)
    (busy : p ≡ this → 0 < times (self_of c.frame.slots) c.world.progress) where
  abbrev N : ℕ → Type 0
  N = NeedsOwner table c.world.objects

  abbrev b : BodyFrame
  b = body_of table c.frame k.whole.parts

  run : IsObjectInRun table c.notes (self_of c.frame.slots) (nth_object c.world.objects (self_of c.frame.slots))
  run = k.whole.objects (self_of c.frame.slots) k.whole.frame.there

  found : cell_at (here c) p ≡ Some a.cell
  found = sym (read_is table (here c) k.whole.frame.there run p) ∙ a.found

  own_is : run.own ≡ k.whole.parts.own
  own_is = some_same run.own k.whole.parts.own (sym run.contract ∙ ap (contract_at table) k.whole.frame.contract
      ∙ k.whole.frame.own)

  said : (q : Location) → cell_at (here c) q ≡ Some a.cell → SaysOf N (k.context q) (Some a.cell)
  said (slot j) e = subst (SaysOf N (k.context (slot j))) e (k.says.slots j refl)
  said (field j) e = subst (SaysOf N (k.context (field j))) e (k.says.fields j
      (available_is b j (own_object (here c)).state ∙ ap (λ o. has_field o (own_object (here c)).state j) (sym own_is)
      ∙ (kind_in_run table c.notes c.world.objects (self_of c.frame.slots) run j a.cell e).0) refl)

  owning : owns a.cell.note.permission ≡ true
  owning = let y = owner_known (k.context p) owner in
      let s = subst (λ z. SaysOf N z (Some a.cell)) y.1 (said p found) in
      allows_owner y.0.permission a.cell.note.permission s.known.1 y.2

  abbrev changed : Here
  changed = record {
    slots = (set_permission p shared (here c)).slots;
    notes = (set_permission p shared (here c)).notes;
    world = c.world;
  }

  abbrev after : Here
  after = with_locked changed ls

  abbrev next : Configuration
  next = moved_to c after (leaves k.result outer)

  written : Written p (Some (noted shared a.cell)) (here c) changed
  written = subst (λ v. Written p (Some (noted shared a.cell)) (here c)
      (record {
        slots = (set_permission p shared (here c)).slots;
        notes = (set_permission p shared (here c)).notes;
        world = v;
      }))
      (permission_world p shared (here c)) (permission_written p shared a.cell (here c) found)

  same_self : self_of changed.slots ≡ self_of c.frame.slots
  same_self = written.stays.this

  around_is : around c.control ≡ r ∷ outer
  around_is = ap around k.control ∙ lists

  -- counts
  here_same : (counts : Counted) (n : ℕ) → in_here counts n (set_permission p shared (here c)) ≡ in_here counts n
      (here next)
  here_same counts n = ap (λ (v : World). in_slots counts n (set_permission p shared (here c)).slots + in_objects counts
      n (set_permission p shared (here c)).notes v.objects)
      (permission_world p shared (here c))

  counted : (counts : Counted) (n : ℕ) → in_all counts n next + in_cell counts n (Some a.cell) ≡ in_all counts n c +
      in_cell counts n (Some (noted shared a.cell))
  counted counts n = let x = all_but_here counts n c next refl written.stays.handles in
      let y = permission_counts p shared (here c) (place_low table t c.world.objects c.frame k.whole.parts k.whole.frame
      p a.inside) k.whole.frame.there a.cell found counts n in
      let z = here_same counts n in
      let v : in_control counts n c.control ≡ in_cell counts n k.result = ap (in_control counts n) k.control in omega
      (arith, x, y, z, v)

  owners_ended : (n : ℕ) → owners n next + one_if (nat_eq m n) ≡ owners n c
  owners_ended n = let x = counted owns n in let y = owner_counts a.cell m n owning a.object in
      let z = shared_none n (noted shared a.cell) refl in omega (arith, x, y, z)

  references_same : (n : ℕ) → references n next ≡ references n c
  references_same n = let x = counted any n in let y : in_cell any n (Some (noted shared a.cell)) ≡ in_cell any n
      (Some a.cell) = refl in omega (arith, x, y)

  none_left : owners m next ≡ 0
  none_left = let x = owners_ended m in let one = one_same m in let most = k.whole.one_owner m in omega (
    arith,
    x,
    one,
    most,
  )

  tests_less : (n : ℕ) → tests_in n changed.slots outer + tests_at (one_if (nat_eq (self_of c.frame.slots) n)) r.ends ≡
      tests_in n c.frame.slots (around c.control)
  tests_less n = let x = ap (λ l. tests_in n c.frame.slots l) around_is in
      let y = tests_in_same n c.frame.slots changed.slots outer same_self in omega (arith, x, y)

  locks_less : (n : ℕ) → locks_around n outer + locks_at n r.ends ≡ locks_around n (around c.control)
  locks_less n = let x = ap (λ l. locks_around n l) around_is in omega (arith, x)

  -- what stands
  shared_stands : (z : Cell) → Some (noted shared a.cell) ≡ Some z → Stands table c.world.objects z
  shared_stands z e = subst (Stands table c.world.objects) (some_same (noted shared a.cell) z e) (record {
    kind = (was p found).kind;
    marked = λ y. subst (RefersToShared c.world.objects) (sym a.object) marked;
    states = λ s y. absurd (let w : shared ≡ owned s = y in cc);
  })
    where
      was : (q : Location) → cell_at (here c) q ≡ Some a.cell → Stands table c.world.objects a.cell
      was (slot j) e = k.whole.slots j a.cell e
      was (field j) e = k.whole.fields (self_of c.frame.slots) j a.cell e

  run_now : IsObjectInRun table changed.notes (self_of changed.slots) (nth_object c.world.objects
      (self_of changed.slots))
  run_now = in_run_written (here c) changed p (Some (noted shared a.cell)) written table run (λ j z e s.
      let x = kind_in_run table c.notes c.world.objects (self_of c.frame.slots) run j a.cell
      (subst (λ q. cell_at (here c) q ≡ Some a.cell) e found) in
      (x.1, x.2, x.3, ap (λ (y : Cell). y.note.kind) (sym (some_same (noted shared a.cell) z s)) ∙ x.4))

  keeps : KeepsWhole table entry c k.whole.parts after (leaves k.result outer)
  keeps = record {
    others = record {
      count = refl;
      contracts = λ n. refl;
      states = λ n ne. refl;
      fields = λ n j ne. refl;
      notes = written.stays.notes;
      shared = λ n e. e;
      disowned = λ n e. e;
      handles = written.stays.handles;
      progress = refl;
    };
    free = inl refl;
    this = same_self;
    arguments = λ j x le set. carry_arguments (λ n. owners n next) (here c) changed p a.cell shared written found
        (λ e. inr (λ n refers. subst (λ i. owners i next ≡ 0) (reference_same m n (sym a.object ∙ refers)) none_left)) j x
        set;
    unset = unset_kept (here c) changed p (Some (noted shared a.cell)) written k.whole.parts.slots
        (λ j e. subst (IsPlaceIn b) e a.inside) k.whole.frame.unset;
    slots = slots_stand (here c) changed p (Some (noted shared a.cell)) written table shared_stands k.whole.slots;
    fields = subst (λ n. AllStand table c.world.objects (field_cell changed.notes c.world.objects n)) same_self
        (fields_stand (here c) changed p (Some (noted shared a.cell)) written table shared_stands (k.whole.fields
        (self_of c.frame.slots)));
    object = subst (λ n. IsObjectInRun table changed.notes n (nth_object c.world.objects n)) same_self run_now;
    one_owner = λ n. let e = owners_ended n in let most = k.whole.one_owner n in omega (arith, e, most);
    disowned = λ n e f. let none = k.whole.disowned n e f in let x = owners_ended n in omega (arith, none, x);
    shared = λ n e has. ⊎_elim
        (λ i. absurd (let none = subst (λ j. owners j next ≡ 0) i.1 none_left in omega (arith, none, has)))
        (λ i. let other = ap one_if i.0 in let x = owners_ended n in let y = ends n in let z = locks_tested n
        c.frame.slots r.ends in let v = tests_tested n c.frame.slots r.ends in
        ⊎_elim (λ locked. inl (let u = unlocks n in omega (arith, other, y, z, u, locked)))
        (λ some. inr (let u = tests_less n in omega (arith, other, y, v, u, some)))
        (k.whole.shared n e (omega (arith, x, has))))
        (eqb_tells m n);
    assets = λ n need. let was = k.whole.assets n need in
        let other = one_other m n (λ i. both_ways _ need.unshared (ap (λ j. (nth_object c.world.objects j).shared)
        (sym i) ∙ marked)) in
        let x = owners_ended n in omega (arith, was, other, x);
    balanced = λ n. let x = owners_ended n in let y = ends n in let more = tests_of_more n c.frame.slots r outer in
        let same = tests_of_same n c.frame.slots changed.slots outer same_self in
        let z = ap (λ l. tests_of n c.frame.slots l) around_is in omega (arith, x, y, more, same, z);
    lock_ends = λ n has. ⊎_elim
        (λ i. inr (subst (λ j. owners j next ≡ 0) i.1 none_left))
        (λ i. inl (let other = ap one_if i.0 in let x = ends n in let y = locks_tested n c.frame.slots r.ends in let v =
        unlocks n in omega (arith, other, x, y, v, has)))
        (eqb_tells m n);
    tested = λ n has. k.whole.tested n (let v = tests_less n in omega (arith, v, has));
    locked = λ n. let x = k.whole.locked n in let y = locks_less n in let v = unlocks n in omega (arith, x, y, v);
    locked_once = λ n. let x = k.whole.locked_once n in let y = locks_less n in omega (arith, x, y);
  }

  shares_now : c.frame.how ≢ by_new → SharesThis (record c.frame { slots = after.slots }) next 0
  shares_now old held = ⊎_elim
      (λ e. (
        subst (λ n. 0 < times n c.world.progress) (sym same_self) (busy (sym e)),
        inl (subst (λ n. owners n next ≤ 0) (sym same_self) (let none = subst (λ n. owners n next ≡ 0) (this_is (sym e))
            none_left in omega (arith, none))),
      ))
      (λ e. let s = k.shares old (ap permission_in (sym (written.others this e)) ∙ held) in (
        subst (λ n. 0 < times n c.world.progress) (sym same_self) s.0,
        ⊎_elim
            (λ few. inl (subst (λ n. owners n next ≤ 0) (sym same_self) (let x = owners_ended (self_of c.frame.slots) in
            omega (arith, x, few))))
            (λ z. ⊎_elim
            (λ i. inl (subst (λ n. owners n next ≤ 0) (i.1 ∙ sym same_self) (omega (arith, none_left))))
            (λ i. inr (
              z.0,
              subst (λ n. 0 < times n ls) (sym same_self)
                  (let other = ap one_if i.0 in let x = ends (self_of c.frame.slots) in let y = locks_tested
                  (self_of c.frame.slots) c.frame.slots r.ends in
                  let v = unlocks (self_of c.frame.slots) in let w = z.1 in omega (arith, other, x, y, v, w)),
            ))
            (eqb_tells m (self_of c.frame.slots)))
            s.1,
      ))
      (place_is this p)
    where
      this_is : p ≡ this → m ≡ self_of c.frame.slots
      this_is e = reference_same m (self_of c.frame.slots) (sym a.object
          ∙ ap (λ (x : Cell). x.value) (some_same a.cell k.whole.frame.this (sym (subst (λ q. cell_at (here c) q ≡ Some
          a.cell) e found) ∙ k.whole.frame.set))
          ∙ k.whole.frame.refers)

  says_shared : (y : Option Known) → owns (permission_on y) ≡ true → SaysOf N y (Some a.cell)
      → SaysOf N (with_permission shared y) (Some (noted shared a.cell))
  says_shared None e s = absurd (cc)
  says_shared (Some y) e s = record {
    known = (s.known.0, refl);
    owner = λ n needs has. absurd (let none = shared_none n (noted shared a.cell) refl in omega (arith, none, has));
  }

  tells_shared : (y : Option Known) → owns (permission_on y) ≡ true → same_mode (permission_on (with_permission shared
      y)) shared ≡ true
  tells_shared None e = absurd (cc)
  tells_shared (Some y) e = refl

  still_now : (q : Location) → is_tested (tested_places outer) q ≡ true → owns (permission_at (now k.context p shared)
      q) ≡ true
  still_now q e = ⊎_elim
      (λ i. absurd (both_ways _ new (subst (λ s. is_tested (tested_places outer) s ≡ true) i e)))
      (λ i. ap (λ y. owns (permission_on y)) (put_other k.context p (with_permission shared (k.context p)) q i)
      ∙ k.still q (subst (λ o. is_tested (tested_places o) q ≡ true) (sym lists)
      (subst (λ qs. is_tested qs q ≡ true) (sym places) (or_right (same_location q p) (is_tested (tested_places outer)
      q) e))))
      (place_is q p)

  -- The frame leaves with one test less.
  pub test_left : IsLeaving table entry beginning next
  test_left = record {
    whole = whole_kept table entry beginning c after (leaves k.result outer) t k.whole keeps;
    result = k.result;
    outer = outer;
    control = refl;
    returned = k.returned;
    given = subst (IsGivenBack N k.result) (sym (same_gift c.frame.how c.frame after.slots k.whole.parts)) k.given;
    context = now k.context p shared;
    says = says_locked b N (now k.context p shared) changed ls every
        (says_written (here c) changed p (Some (noted shared a.cell)) written b N k.context (with_permission shared
        (k.context p))
        (says_shared (k.context p) owner (said p found)) (λ e. tells_shared (k.context p) owner) k.says);
    opens = opens_locked b changed ls outer (opens_kept b (here c) changed written.stays outer
        (opens_written table outer (here c) changed p (Some (noted shared a.cell)) written k.whole.frame.there run run_now
        (λ e. noted_alike a.cell shared (cell_at (here c) p) found))
        (subst (AreOpen b (here c)) lists k.opens).2);
    still = still_now;
    leaves_so = subst (λ n. LeavesSo b c.frame.how (tests_ended (tested_places outer) (now k.context p shared))
        (state_number (nth_object c.world.objects n).state)) (sym same_self)
        (leaves_same b c.frame.how (tests_ended (p ∷ tested_places outer) k.context) (tests_ended (tested_places outer)
        (now k.context p shared)) _
        (one_then_others (tested_places outer) k.context p new)
        (subst (λ ps. LeavesSo b c.frame.how (tests_ended ps k.context) (state_number (nth_object c.world.objects
        (self_of c.frame.slots)).state)) (ap tested_places lists ∙ places) k.leaves_so));
    placed = subst (λ n. HasItsState table (nth_object c.world.objects n)) (sym same_self) k.placed;
    shares = shares_now;
    unreferred = λ n has. let x = references_same n in let y = k.unreferred n has in omega (arith, x, y);
    lends = k.lends;
  }

-- The step.

-- no test ends: only the list goes
module _ (table : ClassTable) (entry : Option ℕ) (beginning : Beginning) (t : IsClassTable table) (c : Configuration)
    (k : IsLeaving table entry beginning c) (r : Rest) (outer : List Rest) (lists : k.outer ≡ r ∷ outer)
    (no_tests : (n : ℕ) → tests_at n r.ends ≡ 0) (no_locks : (n : ℕ) → locks_at n r.ends ≡ 0)
    (no_places : (ps : List Location) → tested_before r.ends ps ≡ ps) where
  abbrev e : Configuration
  e = moved_to c (here c) (leaves k.result outer)

  around_was : around c.control ≡ r ∷ outer
  around_was = ap around k.control ∙ lists

  same_all : (counts : Counted) (n : ℕ) → in_all counts n e ≡ in_all counts n c
  same_all counts n = let x = all_but_here counts n c e refl refl in
      let v : in_control counts n c.control ≡ in_cell counts n k.result = ap (in_control counts n) k.control in omega
      (arith, x, v)

  same_tests : (n : ℕ) → tests_in n c.frame.slots (around c.control) ≡ tests_in n c.frame.slots outer
  same_tests n = ap (λ l. tests_in n c.frame.slots l) around_was
      ∙ (let z : tests_at (one_if (nat_eq (self_of c.frame.slots) n)) r.ends ≡ 0 = no_tests
      (one_if (nat_eq (self_of c.frame.slots) n)) in omega (arith, z))

  same_locks : (n : ℕ) → locks_around n (around c.control) ≡ locks_around n outer
  same_locks n = ap (λ l. locks_around n l) around_was ∙ (let z : locks_at n r.ends ≡ 0 = no_locks n in omega
      (arith, z))

  list_keeps : KeepsWhole table entry c k.whole.parts (here c) (leaves k.result outer)
  list_keeps = record {
    others = record {
      count = refl;
      contracts = λ n. refl;
      states = λ n ne. refl;
      fields = λ n j ne. refl;
      notes = λ n j
          ne. refl;
      shared = λ n e. e;
      disowned = λ n e. e;
      handles = refl;
      progress = refl;
    };
    free = inl refl;
    this = refl;
    arguments = λ j x le set. keeps_itself (λ n. owners n e) x (c.frame.slots j) set;
    unset = k.whole.frame.unset;
    slots = k.whole.slots;
    fields = k.whole.fields (self_of c.frame.slots);
    object = k.whole.objects (self_of c.frame.slots) k.whole.frame.there;
    one_owner = λ n. let x = same_all owns n in let y = k.whole.one_owner n in omega (arith, x, y);
    disowned = λ n i j. let x = same_all owns n in let y = k.whole.disowned n i j in omega (arith, x, y);
    shared = λ n i has. ⊎_elim (λ z. inl z) (λ z. inr (let x = same_tests n in omega (arith, x, z)))
        (k.whole.shared n i (let x = same_all owns n in omega (arith, x, has)));
    assets = λ n need. let x = same_all owns n in let y = k.whole.assets n need in omega (arith, x, y);
    balanced = λ n. let x = same_all owns n in let y = same_tests n in let z = same_locks n in omega (arith, x, y, z);
    lock_ends = λ n has. inl has;
    tested = λ n has. k.whole.tested n (let x = same_tests n in omega (arith, x, has));
    locked = λ n. let x = k.whole.locked n in let z = same_locks n in omega (arith, x, z);
    locked_once = λ n. let x = k.whole.locked_once n in let z = same_locks n in omega (arith, x, z);
  }

  pub list_left : IsLeaving table entry beginning e
  list_left = record {
    whole = whole_kept table entry beginning c (here c) (leaves k.result outer) t k.whole list_keeps;
    result = k.result;
    outer = outer;
    control = refl;
    returned = k.returned;
    given = subst (IsGivenBack (NeedsOwner table c.world.objects) k.result) (sym (same_gift c.frame.how c.frame
        c.frame.slots k.whole.parts)) k.given;
    context = k.context;
    says = k.says;
    opens = (subst (AreOpen (body_of table c.frame k.whole.parts) (here c)) lists k.opens).2;
    still = λ q i. k.still q (subst (λ qs. is_tested qs q ≡ true) (sym same_places) i);
    leaves_so = subst (λ ps. LeavesSo (body_of table c.frame k.whole.parts) c.frame.how (tests_ended ps k.context)
        (state_number (nth_object c.world.objects (self_of c.frame.slots)).state)) same_places k.leaves_so;
    placed = k.placed;
    shares = λ old held. let s = k.shares old held in (
      s.0,
      ⊎_elim
          (λ few. inl (let x = same_all owns (self_of c.frame.slots) in omega (arith, x, few))) (λ z. inr z) s.1,
    );
    unreferred = λ n has. let x = same_all any n in let y = k.unreferred n has in omega (arith, x, y);
    lends = k.lends;
  }
    where
      same_places : tested_places k.outer ≡ tested_places outer
      same_places = ap tested_places lists ∙ no_places (tested_places outer)

-- what ends is as the frame works on then
end_test_is : (c : Configuration) (p : Location) → record (set_permission p shared (here c)) {
  world = record c.world
      { locked = c.world.locked };
} ≡ end_branch (test_end p) (here c)
end_test_is c (slot j) = refl
end_test_is c (field j) = refl

end_lock_is : (c : Configuration) (p : Location) (n : ℕ) → record (set_permission p shared (here c)) {
  world = record
      c.world { locked = without_first n c.world.locked };
} ≡ end_branch (lock_end p n) (here c)
end_lock_is c (slot j) n = refl
end_lock_is c (field j) n = refl

-- The step of a frame that leaves, where a list is around.
pub leaving_steps : (table : ClassTable) (entry : Option ℕ) (beginning : Beginning) → IsClassTable table
    → (c : Configuration)
    → (k : IsLeaving table entry beginning c) → (r : Rest) (outer : List Rest) → k.outer ≡ r ∷ outer
    → StepsSo table entry beginning (leave_step k.result (r ∷ outer) c)
leaving_steps table entry beginning t c k r outer lists = leaving (by_end r.ends refl)
  where
    after_so : Here → Configuration
    after_so h = moved_to c h (leaves k.result outer)

    opens : AreOpen (body_of table c.frame k.whole.parts) (here c) (r ∷ outer)
    opens = subst (AreOpen (body_of table c.frame k.whole.parts) (here c)) lists k.opens

    is_first : (p : Location) (ps : List Location) → is_tested (p ∷ ps) p ≡ true
    is_first p ps = rw (same_place p) refl

    owner_of : (p : Location) → tested_places (r ∷ outer) ≡ p ∷ tested_places outer → owns (permission_at k.context p) ≡
        true
    owner_of p places = k.still p (subst (λ o. is_tested (tested_places o) p ≡ true) (sym lists)
        (subst (λ qs. is_tested qs p ≡ true) (sym places) (is_first p (tested_places outer))))

    some_test : (p : Location) → r.ends ≡ test_end p → 0 < times (self_of c.frame.slots) c.world.progress
    some_test p e = k.whole.tested (self_of c.frame.slots)
        (let x : tests_in (self_of c.frame.slots) c.frame.slots (around c.control) ≡ tests_in (self_of c.frame.slots)
        c.frame.slots (r ∷ outer)
        = ap (λ l. tests_in (self_of c.frame.slots) c.frame.slots l) (ap around k.control ∙ lists) in
        let one = one_same (self_of c.frame.slots) in
        let y : tests_at (one_if (nat_eq (self_of c.frame.slots) (self_of c.frame.slots))) r.ends ≡ one_if
        (nat_eq (self_of c.frame.slots) (self_of c.frame.slots))
        = ap (tests_at (one_if (nat_eq (self_of c.frame.slots) (self_of c.frame.slots)))) e in omega (arith, x, one, y))

    some_lock : (p : Location) (n : ℕ) → r.ends ≡ lock_end p n → 0 < times n c.world.locked
    some_lock p n e = let x = k.whole.locked n in
        let y : locks_around n (around c.control) ≡ locks_around n (r ∷ outer) = ap (λ l. locks_around n l)
        (ap around k.control ∙ lists) in
        let z : locks_at n r.ends ≡ one_if (nat_eq n n) = ap (locks_at n) e in
        let one = one_same n in omega (arith, x, y, z, one)

    by_end : (x : Ends) → r.ends ≡ x → IsLeaving table entry beginning (after_so (end_branch r.ends (here c)))
    by_end plain_end e = subst (λ y. IsLeaving table entry beginning (after_so (end_branch y (here c)))) (sym e)
        (list_left table entry beginning t c k r outer lists (λ n. ap (tests_at n) e) (λ n. ap (locks_at n) e) (λ ps. ap (λ y. tested_before y ps) e))
    by_end (test_end p) e = let o = subst (IsOpen (body_of table c.frame k.whole.parts) (here c)) e opens.0 in
        let n = subst (λ y. IsNew y outer) e opens.1 in
        let places : tested_places (r ∷ outer) ≡ p ∷ tested_places outer = ap (λ y. tested_before y (tested_places
        outer)) e in
        subst (λ y. IsLeaving table entry beginning (after_so (end_branch y (here c)))) (sym e)
        (subst (λ y. IsLeaving table entry beginning (after_so y)) (end_test_is c p)
        (test_left table entry beginning t c k r outer lists p (self_of c.frame.slots) o.1 (owner_of p places) o.2
        (λ i. ap (tested_at i c.frame.slots) e) c.world.locked
        (λ i. let z : locks_at i r.ends ≡ 0 = ap (locks_at i) e in omega (arith, z)) places n (λ i. some_test p e)))
    by_end (lock_end p m) e = let o = subst (IsOpen (body_of table c.frame k.whole.parts) (here c)) e opens.0 in
        let n = subst (λ y. IsNew y outer) e opens.1 in
        let places : tested_places (r ∷ outer) ≡ p ∷ tested_places outer = ap (λ y. tested_before y (tested_places
        outer)) e in
        subst (λ y. IsLeaving table entry beginning (after_so (end_branch y (here c)))) (sym e)
        (subst (λ y. IsLeaving table entry beginning (after_so y)) (end_lock_is c p m)
        (test_left table entry beginning t c k r outer lists p m o.1 (owner_of p places) o.2
        (λ i. ap (tested_at i c.frame.slots) e) (without_first m c.world.locked)
        (λ i. ap (λ y. locks_at i y + times i (without_first m c.world.locked)) e ∙ without_count m i c.world.locked
        (some_lock p m e)) places n
        (λ i. absurd (both_ways _ o.0 (subst (λ q. same_location p q ≡ true) i (same_place p))))))
    by_end (loop_end first x body end) e = subst (λ y. IsLeaving table entry beginning (after_so (end_branch y (here c)))) (sym e)
        (list_left table entry beginning t c k r outer lists (λ n. ap (tests_at n) e) (λ n. ap (locks_at n) e) (λ ps. ap (λ y. tested_before y ps) e))
