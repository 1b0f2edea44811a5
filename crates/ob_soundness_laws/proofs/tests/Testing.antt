-- The step of a test of a state.
use Rattle.std.proofs.Common.{◌≡◌, ◌≢◌, ℕ, ◌+◌, ◌<◌, ◌≤◌, ◌⊎◌, inl, inr, ⊎_elim, Bool, true, false, nat_eq, ◌||◌, List, ◌∷◌, length, Option, None, refl, sym, ap, ◌∙◌, subst, arith, eq-zero-or-pos}
use Rattle.std.specs.Prelude.{max, if◌then◌else◌}
use Rattle.std.proofs.lemmas.Bool.{both_ways, or_left, or_right, and_from}
use Rattle.std.proofs.lemmas.Bool.Decides.{eqb_tells}
use Rattle.std.proofs.lemmas.Option.{same_Some}
use Rattle.ob_base.specs.declared.fault.Span.{Span}
use Rattle.ob_base.specs.declared.id.ContractId.{ContractId}
use Rattle.ob_base.specs.declared.id.StateId.{StateId}
use Rattle.ob_perm.specs.States.{States, only, within, without}
use Rattle.ob_perm.specs.Permissions.{Permission, owned, shared, unowned, owns, is_unowned, permission_within, permission_without}
use Rattle.ob_table.specs.declared.seen.Kind.{Kind}
use Rattle.ob_table.specs.declared.seen.Kind.TheVariants.{Int, Bool as BoolKind, Text, Reference}
use Rattle.ob_table_spec.specs.WellFormed.{is_reference}
use Rattle.ob_heap_spec.specs.Values.{reference, referred}
use Rattle.ob_heap_spec.specs.Objects.{Object, seen_state, is_in_state}
use Rattle.ob_heap_spec.specs.Contents.{object_at}
use Rattle.ob_heap_spec.specs.Worlds.{World, ReadItem, read_object, is_made, object_item, by_state}
use Rattle.ob_heap_spec.specs.Marks.{is_locked, is_in_progress}
use Rattle.ob_silica.specs.Terms.{test_form, SilicaTerms, and_term}
use Rattle.ob_silica.specs.declared.place.Operand.{Operand}
use Rattle.ob_silica.specs.Slots.{slots_of_operand, slots_of_terms}
use Rattle.ob_silica_places.specs.Places.{Location, slot, field, this, same_location, located}
use Rattle.ob_silica_steps.specs.Cells.{Cell, noted, permission_in}
use Rattle.ob_silica_steps.specs.Configurations.{SilicaProgram, by_new, Ends, plain_end, test_end, lock_end, Rest, Control, runs, Configuration, NextStep, abort_step}
use Rattle.ob_silica_steps.specs.Here.{here, self_of, if_there}
use Rattle.ob_silica_steps.specs.Changing.{is_locked_out}
use Rattle.ob_silica_steps.specs.Testing.{StateTest, tells, test_shared_this, test_this_as, test_this, test_shared, test_other, test_object, is_in as is_in_one, reads_object}
use Rattle.ob_silica_steps.specs.Steps.{act}
use Rattle.ob_flow_spec.specs.Contexts.{BodyFrame, Context, now, counted, permission_on, permission_at, static_of}
use Rattle.ob_flow_spec.specs.Joining.{same_mode}
use Rattle.ob_flow_spec.specs.Testing.{in_tested_state, in_other_state}
use Rattle.ob_places_laws.specs.Serving.{AreAmong, Allows, AllowsState}
use Rattle.ob_places_laws.proofs.Tables.{there_is}
use Rattle.ob_places_laws.proofs.Locations.{same_location_is}
use Rattle.ob_places_laws.proofs.Permissions.{some_way, under_is}
use Rattle.ob_places_laws.proofs.Sets.{within_among, without_among}
use Rattle.ob_places_laws.proofs.SeenStates.{tested_in, tested_out}
use Rattle.ob_coherent_spec.specs.Counting.{nth_object, one_if, in_cell, owners}
use Rattle.ob_coherent_spec.specs.Runs.{times, around}
use Rattle.ob_coherent_spec.specs.Standing.{Stands, IsOfKind, RefersToShared, is_in, RefersToIn, NeedsOwner}
use Rattle.ob_coherent_spec.specs.Remaining.{IsCheckedProgram, body_of, IsWellFormedForm, IsPlaceIn, Remains}
use Rattle.ob_coherent_spec.specs.OpenTests.{IsTestOf}
use Rattle.ob_coherent_spec.specs.Waiting.{SharesThis}
use Rattle.ob_coherent_spec.specs.Coherent.{Beginning, IsRunning, running, StepsSo}
use Rattle.ob_soundness_laws.proofs.counting.Cells.{cell_counted}
use Rattle.ob_soundness_laws.proofs.counting.Low.{place_low}
use Rattle.ob_soundness_laws.proofs.counting.Numbers.{one_same, one_of, times_among, not_among_times}
use Rattle.ob_soundness_laws.proofs.counting.Whole.{place_whole}
use Rattle.ob_soundness_laws.specs.frames.Steps.{moved}
use Rattle.ob_soundness_laws.proofs.counting.Objects.{object_there}
use Rattle.ob_soundness_laws.proofs.frames.Own.{EndsSame, quiet_step_keeps}
use Rattle.ob_soundness_laws.specs.places.Placed.{cell_at, Found}
use Rattle.ob_soundness_laws.proofs.places.Standing.{reference_is, refers_is}
use Rattle.ob_soundness_laws.proofs.places.Carrying.{spares}
use Rattle.ob_soundness_laws.proofs.remaining.Remaining.{IsFirst, first_formed, first_slots, first_passes}
use Rattle.ob_soundness_laws.proofs.remaining.Branches.{EndsWith, test_first, test_second}
use Rattle.ob_soundness_laws.proofs.tests.Finding.{found_at, reads_it, stands_at}
use Rattle.ob_soundness_laws.proofs.tests.Operands.{place_inside, kind_found}
use Rattle.ob_soundness_laws.proofs.tests.Unchanged.{having_read, remains_so, opens_so, into_plain}
use Rattle.ob_soundness_laws.proofs.tests.Locking.{with_locked}
use Rattle.ob_soundness_laws.proofs.places.Handing.{sits_holding}
use Rattle.ob_soundness_laws.proofs.tests.Permitted.{permitted, place_written, place_alike, this_after, held_after, permitted_quiet}
use Rattle.ob_soundness_laws.proofs.tests.Opening.{begins_keep, test_begun, self_begun, progress_begun, marked_begun, owners_begun}

-- Permissions.

reference_kind : (kind : Kind) → is_reference kind ≡ true → (id : ContractId) × (kind ≡ Reference id)
reference_kind (Reference id) e = (id, refl)
reference_kind Int e = absurd (cc)
reference_kind BoolKind e = absurd (cc)
reference_kind Text e = absurd (cc)

reference_same : {i j : ℕ} → reference i ≡ reference j → i ≡ j
reference_same e = cc

within_owns : (p : Permission) (s : ℕ) → owns (permission_within p s) ≡ owns p
within_owns (owned a) s = refl
within_owns shared s = refl
within_owns unowned s = refl

without_owns : (p : Permission) (s : ℕ) → owns (permission_without p s) ≡ owns p
without_owns (owned a) s = refl
without_owns shared s = refl
without_owns unowned s = refl

first_bound : (a x y n : ℕ) → max a (max x y) ≤ n → a ≤ n
first_bound a x y n h = omega (arith, h)

-- where a permission counts as one with a say, it is that one
counted_is : (g : Context) (p : Location) (w : Permission) → is_unowned w ≡ false → counted g p ≡ w
    → permission_at g p ≡ w
counted_is g (slot n) w say e = e
counted_is g (field n) w say e = ⊎_elim (λ i. sym i ∙ e)
    (λ i. absurd (both_ways _ say (ap is_unowned (sym e ∙ i))))
    (under_is (permission_at g this) (permission_at g (field n)))

-- what holds of both ways of a choice holds of it
by_if : (b : Bool) (Q : NextStep → Type 0) (x y : NextStep) → (b ≡ true → Q x) → (b ≡ false → Q y)
    → Q (if b then x else y)
by_if true Q x y f g = f refl
by_if false Q x y f g = g refl

-- an object is read
reads_of : (w : World) (n : ℕ) → (reads : List ReadItem) × (read_object w n ≡ record w { reads = reads })
reads_of w n = by_made (is_made w n) refl
  where
    by_made : (b : Bool) → is_made w n ≡ b → (reads : List ReadItem) × (read_object w n ≡ record w { reads = reads })
    by_made true e = (w.reads, rw e refl)
    by_made false e = (object_item n ∷ w.reads, rw e refl)

module _ (program : SilicaProgram) (entry : Option ℕ) (beginning : Beginning) (c : Configuration)
    (checked : IsCheckedProgram program)
    (k : IsRunning program.table entry beginning c) (o : Operand) (s : StateId) (branch other : SilicaTerms)
    (join span : Span)
    (rest : SilicaTerms) (outer : List Rest)
    (so : c.control ≡ runs (and_term (test_form o s branch other join) span rest) outer) where
  abbrev b : BodyFrame
  b = body_of program.table c.frame k.whole.parts

  abbrev p : Location
  p = located o

  abbrev test : StateTest
  test = record { place = located o; state = s.0; branch = branch; other = other; rest = rest; outer = outer }

  left : Remains b k.holdings k.context (and_term (test_form o s branch other join) span rest) outer
  left = remains_so program.table entry beginning c k (and_term (test_form o s branch other join) span rest) outer so

  formed : IsWellFormedForm (static_of b) k.holdings (test_form o s branch other join)
  formed = first_formed b k.holdings k.context (test_form o s branch other join) span rest outer left

  first : IsFirst b k.context (test_form o s branch other join) span outer
  first = first_passes b k.holdings k.context (test_form o s branch other join) span rest outer left

  inside : IsPlaceIn b p
  inside = place_inside b o.place (first_bound (slots_of_operand o) (slots_of_terms branch)
      (slots_of_terms other) b.slots
      (first_slots b k.holdings k.context (test_form o s branch other join) span rest outer left)) formed.numbers.0

  abbrev u : Found (NeedsOwner program.table c.world.objects) (k.context p) (cell_at (here c) p)
  u = found_at program.table checked.table entry beginning c k p first.passes.can.usable.readable

  stands : Stands program.table c.world.objects u.cell
  stands = stands_at program.table checked.table entry beginning c k p u.cell u.is

  kind : (id : ContractId) × (u.cell.note.kind ≡ Reference id)
  kind =
      let has = there_is _ _ formed.kinds in
      let r = reference_kind has.0 has.2 in
      (r.0, kind_found program.table checked.table entry beginning c k o.place u.cell has.0 u.is has.1 ∙ r.1)

  object : (n : ℕ) × (u.cell.value ≡ reference n)
  object = refers_is program.table c.world.objects kind.0 u.cell.value
      (subst (λ d. IsOfKind program.table c.world.objects d u.cell.value) kind.1 stands.kind)

  abbrev tested : Object
  tested = nth_object c.world.objects object.0

  abbrev seen : ℕ
  seen = seen_state program.table kind.0 tested

  object_is_there : object.0 < length c.world.objects
  object_is_there = (reference_is program.table c.world.objects u.cell.note.kind object.0
      (subst (IsOfKind program.table c.world.objects u.cell.note.kind) object.1 stands.kind)).2

  -- the place may see the state in which the object is
  refers_in : (a : States) → RefersToIn program.table c.world.objects u.cell.note.kind a u.cell.value → a seen ≡ true
  refers_in a e = subst (λ d. is_in program.table d a tested ≡ true) kind.1
      (subst (RefersToIn program.table c.world.objects u.cell.note.kind a) object.1 e)

  in_refers : (a : States) → a seen ≡ true → RefersToIn program.table c.world.objects u.cell.note.kind a u.cell.value
  in_refers a e = subst (RefersToIn program.table c.world.objects u.cell.note.kind a) (sym object.1)
      (subst (λ d. is_in program.table d a tested ≡ true) (sym kind.1) e)

  sees : AllowsState u.cell.note.permission seen
  sees = by_permission u.cell.note.permission refl
    where
      by_permission : (q : Permission) → u.cell.note.permission ≡ q → AllowsState q seen
      by_permission (owned a) e = refers_in a (stands.states a e)
      by_permission shared e = tt
      by_permission unowned e = tt

  -- what stands with a permission that may see it
  noted_stands : (q : Permission) → (q ≡ shared → u.cell.note.permission ≡ shared) → AllowsState q seen
      → Stands program.table c.world.objects (noted q u.cell)
  noted_stands q sharing may = record {
    kind = stands.kind;
    marked = λ e. stands.marked (sharing e);
    states = λ a e. in_refers a (subst (λ x. AllowsState x seen) e may);
  }

  marked_so : u.cell.note.permission ≡ shared → tested.shared ≡ true
  marked_so e = subst (RefersToShared c.world.objects) object.1 (stands.marked e)

  owner_then : owns u.cell.note.permission ≡ true → 0 < owners object.0 c
  owner_then e =
      let one = cell_counted owns object.0 u.cell e object.1 in
      let same = ap (in_cell owns object.0) u.is in
      let most = place_whole owns object.0 c p
      (place_low program.table checked.table c.world.objects c.frame k.whole.parts k.whole.frame p inside) in
      omega (arith, one, same, most)

  -- a marked object with an owner is locked or in progress
  owner_busy : tested.shared ≡ true → 0 < owners object.0 c
      → (is_locked c.world object.0 || is_in_progress c.world object.0) ≡ true
  owner_busy marked some = ⊎_elim
      (λ e. or_left (is_locked c.world object.0) (is_in_progress c.world object.0)
      (times_among object.0 c.world.locked e))
      (λ e. or_right (is_locked c.world object.0) (is_in_progress c.world object.0)
      (times_among object.0 c.world.progress (k.whole.tested object.0 e)))
      (k.whole.shared object.0 marked some)

  ownerless : tested.shared ≡ true → (is_locked c.world object.0 || is_in_progress c.world object.0) ≡ false
      → owners object.0 c ≡ 0
  ownerless marked free = ⊎_elim (λ e. e) (λ e. absurd (both_ways _ free (owner_busy marked e)))
      (eq-zero-or-pos (owners object.0 c))

  not_made : c.frame.how ≡ by_new → p ≢ this
  not_made = spares program.table checked.table c.frame k.whole.parts (here c) k.context
      (sits_holding program.table entry beginning c k) p first.passes.can.usable.spares_this

  -- How the place counts, and what its cell has.
  way : ((a : States) × (w : States) × (counted k.context p ≡ owned a) × (u.cell.note.permission ≡ owned w)
      × AreAmong w a)
      ⊎ ((counted k.context p ≡ shared) × (u.cell.note.permission ≡ shared))
  way = ⊎_elim
      (λ e. let al = allowed (owned e.0) (counted_is k.context p (owned e.0) refl e.1) in
      inl (e.0, al.0, e.1, al.1, al.2))
      (λ y. ⊎_elim
      (λ e. inr (e, allowed shared (counted_is k.context p shared refl e)))
      (λ e. absurd (both_ways _ first.passes.can.has_say (ap is_unowned e))) y)
      (some_way (counted k.context p))
    where
      allowed : (w : Permission) → permission_at k.context p ≡ w → Allows w u.cell.note.permission
      allowed w e = subst (λ x. Allows x u.cell.note.permission) (ap permission_on (sym u.told) ∙ e) u.permission

  -- The owner of the place is told something.

  told_keeps : (q w : Permission) (reads : List ReadItem) (more : SilicaTerms) → Allows w q → owns w ≡ true
      → owns q ≡ owns u.cell.note.permission
      → (q ≡ shared → u.cell.note.permission ≡ shared) → same_mode w q ≡ true → AllowsState q seen
      → Remains b k.holdings (now k.context p w) more (record { terms = rest; ends = plain_end } ∷ outer)
      → IsRunning program.table entry beginning
      (moved c (permitted c reads p q) more (record { terms = rest; ends = plain_end } ∷ outer))
  told_keeps q w reads more allows owner alike sharing mode may remains =
      let after = place_alike program.table checked.table entry beginning c k.whole k.context
      (sits_holding program.table entry beginning c k) p inside u q w reads
      allows (noted_stands q sharing may) (λ n needs has. owner) (λ z. mode) not_made in
      quiet_step_keeps program.table entry beginning c (permitted c reads p q) more
      (record { terms = rest; ends = plain_end } ∷ outer) checked.table k
      (subst (λ (x : Control). EndsSame (around x) (record { terms = rest; ends = plain_end } ∷ outer)) (sym so)
      (record { locks = λ n. omega arith; tests = λ n. omega arith }))
      (permitted_quiet program.table checked.table entry beginning c k.whole k.context
      (sits_holding program.table entry beginning c k) p inside u q w reads after
      (and_term (test_form o s branch other join) span rest) more outer
      (record { terms = rest; ends = plain_end } ∷ outer) so (
        tt,
        tt,
        opens_so program.table entry beginning c k
            (and_term (test_form o s branch other join) span rest) outer so,
      ) alike sharing)
      (now k.context p w) after.says k.holdings
      (held_after program.table checked.table entry beginning c k.whole k.context
      (sits_holding program.table entry beginning c k) p inside u q w reads k.holdings k.held)
      remains

  tells_keep : (a w : States) → counted k.context p ≡ owned a → u.cell.note.permission ≡ owned w → AreAmong w a
      → (reads : List ReadItem) (holds : Bool)
      → is_in_state program.table kind.0 s tested ≡ holds
      → StepsSo program.table entry beginning (tells c (having_read c reads) test u.cell holds)
  tells_keep a w counts has among reads true e = running
      (told_keeps (permission_within u.cell.note.permission s.0) (owned (within a s.0)) reads branch
      (within w s.0, ap (λ x. permission_within x s.0) has, within_among w a s.0 among) refl
      (within_owns u.cell.note.permission s.0)
      (λ z. absurd (let y : owned (within w s.0) ≡ shared = ap (λ x. permission_within x s.0) (sym has) ∙ z in cc))
      (ap (λ x. owns (permission_within x s.0)) has)
      (tested_in program.table kind.0 s tested u.cell.note.permission e sees)
      (subst (λ x. Remains b k.holdings (in_tested_state x s p k.context) branch
      (record { terms = rest; ends = plain_end } ∷ outer)) counts
      (test_first b k.holdings k.context o s branch other join span rest outer first.mid plain_end left first.derives
      first.passes
      (subst (λ x. EndsWith x p plain_end) (sym counts) refl))))
  tells_keep a w counts has among reads false e = running
      (told_keeps (permission_without u.cell.note.permission s.0) (owned (without a s.0)) reads other
      (without w s.0, ap (λ x. permission_without x s.0) has, without_among w a s.0 among) refl
      (without_owns u.cell.note.permission s.0)
      (λ z. absurd (let y : owned (without w s.0) ≡ shared = ap (λ x. permission_without x s.0) (sym has) ∙ z in cc))
      (ap (λ x. owns (permission_without x s.0)) has)
      (tested_out program.table kind.0 s tested u.cell.note.permission e sees)
      (subst (λ x. Remains b k.holdings (in_other_state x s p k.context) other
      (record { terms = rest; ends = plain_end } ∷ outer)) counts
      (test_second b k.holdings k.context o s branch other join span rest outer first.mid left first.derives
      first.passes)))

  -- A shared object isn't in the tested state.
  fails_keep : counted k.context p ≡ shared → (reads : List ReadItem)
      → IsRunning program.table entry beginning
      (moved c (having_read c reads) other (record { terms = rest; ends = plain_end } ∷ outer))
  fails_keep counts reads = into_plain program.table entry beginning c k
      (and_term (test_form o s branch other join) span rest) outer so checked.table reads other rest
      (subst (λ x. Remains b k.holdings (in_other_state x s p k.context) other
      (record { terms = rest; ends = plain_end } ∷ outer)) counts
      (test_second b k.holdings k.context o s branch other join span rest outer first.mid left first.derives
      first.passes))

  -- It is in that state: the place owns it for a while.
  begins_remain : (e : Ends) → counted k.context p ≡ shared → EndsWith shared p e
      → Remains b k.holdings (now k.context p (owned (only s.0))) branch (record { terms = rest; ends = e } ∷ outer)
  begins_remain e counts with = subst (λ x. Remains b k.holdings (in_tested_state x s p k.context) branch
      (record { terms = rest; ends = e } ∷ outer)) counts
      (test_first b k.holdings k.context o s branch other join span rest outer first.mid e left first.derives
      first.passes
      (subst (λ x. EndsWith x p e) (sym counts) with))

  in_it : is_in_state program.table kind.0 s tested ≡ true
      → Stands program.table c.world.objects (noted (owned (only s.0)) u.cell)
  in_it e = noted_stands (owned (only s.0)) (λ z. absurd (cc)) e

  -- A test of `this`, which is Shared.
  module _ (itself : p ≡ this) (counts : counted k.context p ≡ shared) (sharing : u.cell.note.permission ≡ shared)
      (reads : List ReadItem)
      (holding : is_in_state program.table kind.0 s tested ≡ true)
      (free : is_locked_out c.frame (having_read c reads) ≡ false) where
    own : object.0 ≡ self_of c.frame.slots
    own = reference_same (sym object.1 ∙ ap (λ (x : Cell). x.value)
        (same_Some u.cell k.whole.frame.this (sym u.is ∙ ap (cell_at (here c)) itself ∙ k.whole.frame.set))
        ∙ k.whole.frame.refers)

    held_shared : permission_in (c.frame.slots 0) ≡ shared
    held_shared = ap permission_in (sym (ap (cell_at (here c)) itself) ∙ u.is) ∙ sharing

    no_owner : owners object.0 c ≡ 0
    no_owner = let y = k.shares held_shared in ⊎_elim
        (λ few. subst (λ n. owners n c ≡ 0) (sym own) (omega (arith, few)))
        (λ z. absurd (both_ways _ free (and_from c.frame.share_entered (is_locked c.world (self_of c.frame.slots)) z.0
        (times_among (self_of c.frame.slots) c.world.locked z.1))))
        y.1

    abbrev ls : List ℕ
    ls = (permitted c reads p (owned (only s.0))).world.locked

    same_locks : ls ≡ c.world.locked
    same_locks = (place_written program.table checked.table entry beginning c k.whole k.context
        (sits_holding program.table entry beginning c k) p inside u (owned (only s.0))
        (owned (only s.0)) reads).stays.locked

    this_keeps : IsRunning program.table entry beginning
        (moved c (permitted c reads p (owned (only s.0))) branch (record { terms = rest; ends = test_end p } ∷ outer))
    this_keeps = begins_keep program.table checked.table entry beginning c k
        (and_term (test_form o s branch other join) span rest) outer so p inside u s.0 reads
        object.0 object.1 sharing (marked_so sharing) (in_it holding) not_made ls no_owner branch rest (test_end p)
        (λ n. ap (λ i. one_if (nat_eq i n)) (sym own))
        (λ n. (let z = ap (times n) same_locks in omega (arith, z)))
        (inr (subst (λ i. 0 < one_if (nat_eq (self_of c.frame.slots) i)) (sym own)
        (let one = one_same (self_of c.frame.slots) in omega (arith, one))))
        (λ n. (let z = ap (times n) same_locks in let same = k.whole.locked n in let once = k.whole.locked_once n in
        omega (arith, z, same, once)))
        (λ n some. subst (λ i. 0 < times i c.world.progress) (one_of (self_of c.frame.slots) n some)
        (k.shares held_shared).0) (
          itself,
          subst (λ i. IsTestOf b (with_locked (permitted c reads p (owned (only s.0))) ls) p i) (own ∙ sym begun_self)
              (test_begun program.table checked.table entry beginning c k
              (and_term (test_form o s branch other join) span rest) outer so p inside u s.0 reads
              object.0 object.1 sharing (marked_so sharing) (in_it holding) not_made ls),
          marked_begun program.table checked.table entry beginning c k
              (and_term (test_form o s branch other join) span rest) outer so p inside u s.0 reads
              object.0 object.1 sharing (marked_so sharing) (in_it holding) not_made ls
              (self_of (permitted c reads p (owned (only s.0))).slots)
              ∙ ap (λ i. (nth_object c.world.objects i).shared) (begun_self ∙ sym own) ∙ marked_so sharing,
        )
        first.passes.can.untested
        (λ held. absurd (let y : shared ≡ owned (only s.0) = sym held
        ∙ ap permission_in (sym (ap (cell_at (permitted c reads p (owned (only s.0)))) itself)
        ∙ (place_written program.table checked.table entry beginning c k.whole k.context
        (sits_holding program.table entry beginning c k) p inside u (owned (only s.0))
        (owned (only s.0)) reads).itself) in cc))
        (begins_remain (test_end p) counts (inl refl))
      where
        begun_self : self_of (permitted c reads p (owned (only s.0))).slots ≡ self_of c.frame.slots
        begun_self = self_begun program.table checked.table entry beginning c k
            (and_term (test_form o s branch other join) span rest) outer so p inside u s.0 reads
            object.0 object.1 sharing (marked_so sharing) (in_it holding) not_made ls

  -- A test of another place, whose object is marked as shared, and neither locked nor in progress.
  module _ (elsewhere : same_location p this ≡ false) (counts : counted k.context p ≡ shared)
      (sharing : u.cell.note.permission ≡ shared) (reads : List ReadItem)
      (holding : is_in_state program.table kind.0 s tested ≡ true)
      (free : (is_locked c.world object.0 || is_in_progress c.world object.0) ≡ false) where
    unlocked_so : times object.0 c.world.locked ≡ 0
    unlocked_so = not_among_times object.0 c.world.locked
        (or_parts_left (is_locked c.world object.0) (is_in_progress c.world object.0) free)
      where
        or_parts_left : (x y : Bool) → (x || y) ≡ false → x ≡ false
        or_parts_left true y e = absurd (cc)
        or_parts_left false y e = refl

    idle : times object.0 c.world.progress ≡ 0
    idle = not_among_times object.0 c.world.progress
        (or_parts_right (is_locked c.world object.0) (is_in_progress c.world object.0) free)
      where
        or_parts_right : (x y : Bool) → (x || y) ≡ false → y ≡ false
        or_parts_right true y e = absurd (cc)
        or_parts_right false y e = e

    apart : p ≢ this
    apart i = both_ways _ elsewhere (ap (λ r. same_location r this) i)

    abbrev locks_now : List ℕ
    locks_now = object.0 ∷ (permitted c reads p (owned (only s.0))).world.locked

    were_locks : (permitted c reads p (owned (only s.0))).world.locked ≡ c.world.locked
    were_locks = (place_written program.table checked.table entry beginning c k.whole k.context
        (sits_holding program.table entry beginning c k) p inside u (owned (only s.0))
        (owned (only s.0)) reads).stays.locked

    lock_more : (n : ℕ) → one_if (nat_eq object.0 n) + times n c.world.locked ≡ times n locks_now
    lock_more n = let z = ap (times n) were_locks in omega (arith, z)

    lock_once : (n : ℕ) → times n locks_now ≤ 1
    lock_once n = let more = lock_more n in ⊎_elim
        (λ i. let one = ap one_if i.0 in let none = subst (λ j. times j c.world.locked ≡ 0) i.1 unlocked_so in
        omega (arith, more, one, none))
        (λ i. let zero_is = ap one_if i.0 in let same = k.whole.locked n in let once = k.whole.locked_once n in
        omega (arith, more, zero_is, same, once))
        (eqb_tells object.0 n)

    other_keeps : IsRunning program.table entry beginning
        (moved c (with_locked (permitted c reads p (owned (only s.0))) locks_now) branch
        (record { terms = rest; ends = lock_end p object.0 } ∷ outer))
    other_keeps = begins_keep program.table checked.table entry beginning c k
        (and_term (test_form o s branch other join) span rest) outer so p inside u s.0 reads
        object.0 object.1 sharing (marked_so sharing) (in_it holding) not_made locks_now
        (ownerless (marked_so sharing) free) branch rest (lock_end p object.0)
        (λ n. refl) lock_more
        (inl (let more = lock_more object.0 in let one = one_same object.0 in omega (arith, more, one)))
        lock_once
        (λ n some. absurd (omega (arith, some))) (
          elsewhere,
          test_begun program.table checked.table entry beginning c k
              (and_term (test_form o s branch other join) span rest) outer so p inside u s.0 reads
              object.0 object.1 sharing (marked_so sharing) (in_it holding) not_made locks_now,
          marked_begun program.table checked.table entry beginning c k
              (and_term (test_form o s branch other join) span rest) outer so p inside u s.0 reads
              object.0 object.1 sharing (marked_so sharing) (in_it holding) not_made locks_now object.0
              ∙ marked_so sharing,
        )
        first.passes.can.untested
        this_shares
        (begins_remain (lock_end p object.0) counts (inr (object.0, refl)))
      where
        this_self : self_of (with_locked (permitted c reads p (owned (only s.0))) locks_now).slots
            ≡ self_of c.frame.slots
        this_self = self_begun program.table checked.table entry beginning c k
            (and_term (test_form o s branch other join) span rest) outer so p inside u s.0 reads
            object.0 object.1 sharing (marked_so sharing) (in_it holding) not_made locks_now

        this_progress : (permitted c reads p (owned (only s.0))).world.progress ≡ c.world.progress
        this_progress = progress_begun program.table checked.table entry beginning c k
            (and_term (test_form o s branch other join) span rest) outer so p inside u s.0 reads
            object.0 object.1 sharing (marked_so sharing) (in_it holding) not_made locks_now

        gains : (n : ℕ) → owners n (moved c (with_locked (permitted c reads p (owned (only s.0))) locks_now) branch
            (record { terms = rest; ends = lock_end p object.0 } ∷ outer))
            ≡ owners n c + one_if (nat_eq object.0 n)
        gains = owners_begun program.table checked.table entry beginning c k
            (and_term (test_form o s branch other join) span rest) outer so p inside u s.0 reads
            object.0 object.1 sharing (marked_so sharing) (in_it holding) not_made locks_now
            (ownerless (marked_so sharing) free) branch rest (lock_end p object.0)
            (λ n. refl) lock_more
            (inl (let more = lock_more object.0 in let one = one_same object.0 in omega (arith, more, one)))
            lock_once
            (λ n some. absurd (omega (arith, some)))

        this_shares : SharesThis (record c.frame { slots = (permitted c reads p (owned (only s.0))).slots })
            (moved c (with_locked (permitted c reads p (owned (only s.0))) locks_now) branch
            (record { terms = rest; ends = lock_end p object.0 } ∷ outer)) 0
        this_shares held =
            let y = k.shares (⊎_elim (λ i. ap permission_in (sym i) ∙ held) (λ i. absurd (apart i.0))
            (this_after program.table checked.table entry beginning c k.whole k.context
            (sits_holding program.table entry beginning c k) p inside u (owned (only s.0))
            (owned (only s.0)) reads)) in
            let another : one_if (nat_eq object.0 (self_of c.frame.slots)) ≡ 0 = ⊎_elim
            (λ i. absurd (let busy = subst (λ j. 0 < times j c.world.progress) (sym i.1) y.0 in let none = idle in
            omega (arith, busy, none)))
            (λ i. ap one_if i.0)
            (eqb_tells object.0 (self_of c.frame.slots)) in (
              subst (λ n. 0 < times n (permitted c reads p (owned (only s.0))).world.progress) (sym this_self)
                  (subst (λ l. 0 < times (self_of c.frame.slots) l) (sym this_progress) y.0),
              ⊎_elim
                  (λ few. inl (subst (λ n. owners n (moved c
                  (with_locked (permitted c reads p (owned (only s.0))) locks_now) branch
                  (record { terms = rest; ends = lock_end p object.0 } ∷ outer)) ≤ 0) (sym this_self)
                  (let d = gains (self_of c.frame.slots) in omega (arith, few, d, another))))
                  (λ z. inr (
                    z.0,
                    subst (λ n. 0 < times n locks_now) (sym this_self)
                        (let more = lock_more (self_of c.frame.slots) in let some = z.1 in omega (arith, more, some)),
                  ))
                  y.1,
            )

  -- What is told by the object's state.
  told : (x : Bool) → is_in_one program.table u.cell.note.kind s tested ≡ x
      → is_in_state program.table kind.0 s tested ≡ x
  told x e = subst (λ d. is_in_one program.table d s tested ≡ x) kind.1 e

  shared_this_keep : p ≡ this → counted k.context p ≡ shared → u.cell.note.permission ≡ shared
      → (reads : List ReadItem) (holds : Bool)
      → is_in_state program.table kind.0 s tested ≡ holds → is_locked_out c.frame (having_read c reads) ≡ false
      → StepsSo program.table entry beginning (test_shared_this c (having_read c reads) test holds)
  shared_this_keep itself counts sharing reads true e free = running (this_keeps itself counts sharing reads e free)
  shared_this_keep itself counts sharing reads false e free = running (fails_keep counts reads)

  shared_keep : same_location p this ≡ false → counted k.context p ≡ shared → u.cell.note.permission ≡ shared
      → (reads : List ReadItem) (holds : Bool)
      → is_in_state program.table kind.0 s tested ≡ holds
      → (is_locked c.world object.0 || is_in_progress c.world object.0) ≡ false
      → StepsSo program.table entry beginning (test_shared c (having_read c reads) test object.0 holds)
  shared_keep elsewhere counts sharing reads true e free = running (other_keeps elsewhere counts sharing reads e free)
  shared_keep elsewhere counts sharing reads false e free = running (fails_keep counts reads)

  this_keep : (reads : List ReadItem) (holds : Bool) → is_in_state program.table kind.0 s tested ≡ holds
      → same_location p this ≡ true
      → StepsSo program.table entry beginning (test_this c (having_read c reads) test u.cell object.0 holds)
  this_keep reads holds e same = by_if (is_locked_out c.frame (having_read c reads))
      (StepsSo program.table entry beginning)
      (abort_step (by_state object.0 None) (having_read c reads).world)
      (test_this_as u.cell.note.permission c (having_read c reads) test u.cell holds)
      (λ z. tt)
      (λ free. ⊎_elim
      (λ y. subst (λ q. StepsSo program.table entry beginning
      (test_this_as q c (having_read c reads) test u.cell holds)) (sym y.3)
      (tells_keep y.0 y.1 y.2 y.3 y.4 reads holds e))
      (λ y. subst (λ q. StepsSo program.table entry beginning
      (test_this_as q c (having_read c reads) test u.cell holds)) (sym y.1)
      (shared_this_keep (same_location_is p this same) y.0 y.1 reads holds e free))
      way)

  other_keep : (reads : List ReadItem) (holds : Bool) → is_in_state program.table kind.0 s tested ≡ holds
      → same_location p this ≡ false
      → StepsSo program.table entry beginning (test_other c (having_read c reads) test u.cell object.0 tested holds)
  other_keep reads holds e elsewhere = by_if tested.shared (StepsSo program.table entry beginning)
      (if is_locked c.world object.0 || is_in_progress c.world object.0 then abort_step (by_state object.0 None)
      (having_read c reads).world
      else test_shared c (having_read c reads) test object.0 holds)
      (tells c (having_read c reads) test u.cell holds)
      (λ marked. by_if (is_locked c.world object.0 || is_in_progress c.world object.0)
      (StepsSo program.table entry beginning)
      (abort_step (by_state object.0 None) (having_read c reads).world)
      (test_shared c (having_read c reads) test object.0 holds)
      (λ z. tt)
      (λ free. ⊎_elim
      (λ y. absurd (let some = owner_then (ap owns y.3) in let none = ownerless marked free in
      omega (arith, some, none)))
      (λ y. shared_keep elsewhere y.0 y.1 reads holds e free) way))
      (λ unmarked. ⊎_elim
      (λ y. tells_keep y.0 y.1 y.2 y.3 y.4 reads holds e)
      (λ y. absurd (both_ways _ unmarked (marked_so y.1))) way)

  object_keep : (reads : List ReadItem) (holds : Bool) → is_in_state program.table kind.0 s tested ≡ holds
      → StepsSo program.table entry beginning (test_object c (having_read c reads) test u.cell object.0 tested holds)
  object_keep reads holds e = by_if (same_location p this) (StepsSo program.table entry beginning)
      (test_this c (having_read c reads) test u.cell object.0 holds)
      (test_other c (having_read c reads) test u.cell object.0 tested holds)
      (λ same. this_keep reads holds e same) (λ elsewhere. other_keep reads holds e elsewhere)

  -- A test leads into one of its branches, or aborts.
  pub test_keeps : StepsSo program.table entry beginning (act program (test_form o s branch other join) rest outer c)
  test_keeps =
      let r = reads_of c.world object.0 in
      subst (λ x. StepsSo program.table entry beginning (if_there x (λ x. if_there (referred x.value) (λ n.
      if_there (object_at c.world.objects n) (λ o.
      test_object c (reads_object (here c) n) test x n o (is_in_one program.table x.note.kind s o))))))
      (sym (reads_it program.table checked.table entry beginning c k p u.cell u.is))
      (subst (λ x. StepsSo program.table entry beginning (if_there x (λ n.
      if_there (object_at c.world.objects n) (λ o.
      test_object c (reads_object (here c) n) test u.cell n o (is_in_one program.table u.cell.note.kind s o)))))
      (sym (ap referred object.1))
      (subst (λ x. StepsSo program.table entry beginning (if_there x (λ o.
      test_object c (reads_object (here c) object.0) test u.cell object.0 o
      (is_in_one program.table u.cell.note.kind s o))))
      (sym (object_there c.world.objects object.0 object_is_there))
      (subst (λ w. StepsSo program.table entry beginning
      (test_object c (record (here c) { world = w }) test u.cell object.0 tested
      (is_in_one program.table u.cell.note.kind s tested)))
      (sym r.1)
      (object_keep r.0 (is_in_one program.table u.cell.note.kind s tested)
      (told (is_in_one program.table u.cell.note.kind s tested) refl)))))
