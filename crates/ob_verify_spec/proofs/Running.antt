-- The slot kinds of a body are the same however they are found, and where no condition holds they hold on.
use Rattle.std.proofs.Common.{◌≡◌, ◌≢◌, ℕ, ◌+◌, ◌<◌, ◌≤◌, length, Option, Some, None, true, false, not, nat_lt, ◌==◌, Contains, slice_get, refl, sym, ap, ◌∙◌, subst, arith, ◌⊎◌, inl, inr}
use Rattle.std.specs.Option.{option_map_or}
use Rattle.std.specs.List.{list_all}
use Rattle.std.proofs.lemmas.Bool.{true≢false, or_cases, false_from_ne_true, true_from_ne_false, not-true, not-false, and_parts, or_parts, or_from, ltb-true, eqb-false}
use Rattle.std.proofs.lemmas.Bool.Decides.{eqb_tells}
use Rattle.std.proofs.lemmas.Option.{slice_get_within}
use Rattle.ob_table.specs.declared.seen.Kind.{Kind}
use Rattle.ob_code.specs.declared.image.Image.{Image}
use Rattle.ob_code.specs.declared.instruction.Instruction.{Instruction}
use Rattle.ob_code.specs.declared.instruction.Instruction.TheVariants as is
use Rattle.ob_verify_spec.specs.declared.CodeFault.TheVariants.{BadJump, BadSlot, KindMismatch, BadField, BadCall, FallsOff, NoFuelMark}
use Rattle.ob_verify_spec.specs.Kinds.{fits, both_hold}
use Rattle.ob_verify_spec.specs.Frames.{CodeFrame}
use Rattle.ob_verify_spec.specs.Instructions.{KindsOfSlots, reads, slot_set, targets, leads, Need, slots_needed, meets, needs, Effect, keeps, sets, copies, set_slot, done, effect}
use Rattle.ob_verify_spec.specs.Conditions.{bad_jump, lacks_slots, bad_slot, bad_field, bad_call, may_set, names_bad_slot, is_unit, is_ahead_or_unit, no_fuel_mark, may_go_on}
use Rattle.ob_verify_spec.specs.Ways.{IsAt, at_entry, Way, start, step, IsReached, IsFaultless}
use Rattle.ob_verify_spec.specs.Verified.{HoldsOnAllWays, AreSlotKinds, IsVerifiedBody}
use Rattle.ob_verify_spec.specs.Passing.{held_at, KindRow}
use Rattle.ob_verify_spec.specs.Running.{AreKnownAt, KeepsKinds}
use Rattle.ob_verify_spec.specs.Laws.{AreSameKinds, HasOneSlotKinds}
use Rattle.ob_verify_spec.proofs.Cells.{some_same, none_some}
use Rattle.ob_verify_spec.proofs.Listed.{each_passes}
use Rattle.ob_verify_spec.proofs.Meeting.{HoldsOne, Two, both_self}
use Rattle.ob_verify_spec.proofs.Rows.{OnSomeWay}
use Rattle.ob_verify_spec.proofs.Naming.{may_go, next_or_target, leads_within, reads_below, needs_below, EffectFits, effect_fits}
use Rattle.ob_verify_spec.proofs.Pass.{Agrees, AgreesAt}
use Rattle.ob_verify_spec.proofs.Needs.{meets_alike, row_mismatch}
use Rattle.ob_verify_spec.proofs.SlotKinds.{at_within, reached_within, row_at, two_least, held_by, slot_kinds}
use Rattle.ob_verify_spec.proofs.Fitting.{belongs_fits}

-- what holds the same kinds is the same
same_held : (o p : Option Kind) → ((x : Kind) → o ≡ Some x → p ≡ Some x) → ((x : Kind) → p ≡ Some x → o ≡ Some x) → o ≡ p
same_held None None there back = refl
same_held None (Some y) there back = back y refl
same_held (Some x) p there back = sym (there x refl)

some_or_none : {A : Type 0} (o : Option A) → (o ≡ None) ⊎ ((x : A) × (o ≡ Some x))
some_or_none None = inl refl
some_or_none (Some x) = inr (x, refl)

-- a place that is reached has kinds
kinds_there : (f : CodeFrame) (kinds : ℕ → Option KindsOfSlots) → AreSlotKinds f kinds → (i : ℕ) → IsReached f i → (s : KindsOfSlots) × (kinds i ≡ Some s)
kinds_there f kinds a i way = elim (some_or_none (kinds i)) [ inl e ↦ absurd (a.unreached i e way) | inr w ↦ w ]

-- a place that isn't reached has none
no_kinds : (f : CodeFrame) (kinds : ℕ → Option KindsOfSlots) → AreSlotKinds f kinds → (i : ℕ) → ¬ (IsReached f i) → kinds i ≡ None
no_kinds f kinds a i never = elim (some_or_none (kinds i)) [ inl e ↦ e | inr w ↦ absurd (never (a.reached i w.0 w.1)) ]

pub same_kinds : (f : CodeFrame) (kinds others : ℕ → Option KindsOfSlots) → AreSlotKinds f kinds → AreSlotKinds f others → AreSameKinds f kinds others
same_kinds f kinds others a b = record {
  there = λ i. (λ e. no_kinds f others b i (a.unreached i e), λ e. no_kinds f kinds a i (b.unreached i e));
  held = λ i k s t e g lt. same_held (s k) (t k) (λ x h. (b.held i t k x g lt).1 ((a.held i s k x e lt).0 h)) (λ x h. (a.held i s k x e lt).1 ((b.held i t k x g lt).0 h));
}

pub one_slot_kinds : (f : CodeFrame) → HasOneSlotKinds f
one_slot_kinds f = record { some = slot_kinds f; same = same_kinds f }

-- Where no condition holds.

jump_well : (f : CodeFrame) → IsFaultless f → (i : ℕ) (x : Instruction) → IsAt f i x → bad_jump f x ≡ false
jump_well f n i x at = false_from_ne_true (bad_jump f x) (λ e. n i BadJump (record { instruction = x; at = at; so = e }))

mark_well : (f : CodeFrame) → IsFaultless f → (i : ℕ) (x : Instruction) → IsAt f i x → no_fuel_mark f i x ≡ false
mark_well f n i x at = false_from_ne_true (no_fuel_mark f i x) (λ e. n i NoFuelMark (record { instruction = x; at = at; so = e }))

slot_well : (f : CodeFrame) → IsFaultless f → (i : ℕ) (x : Instruction) → IsAt f i x → names_bad_slot f x ≡ false
slot_well f n i x at = false_from_ne_true (names_bad_slot f x) (λ e. n i BadSlot (inr (record { instruction = x; at = at; so = e })))

slots_well : (f : CodeFrame) → IsFaultless f → (i : ℕ) (x : Instruction) → IsAt f i x → bad_slot f i x ≡ false
slots_well f n i x at = or_from (lacks_slots f i) (names_bad_slot f x) (false_from_ne_true (lacks_slots f i) (λ e. n i BadSlot (inl e))) (slot_well f n i x at)

goes_well : (f : CodeFrame) → IsFaultless f → (i : ℕ) (x : Instruction) → IsAt f i x → may_go_on f i x ≡ true
goes_well f n i x at = may_go f i x (jump_well f n i x at) (slots_well f n i x at)
    (false_from_ne_true (bad_field f x) (λ e. n i BadField (record { instruction = x; at = at; so = e })))
    (false_from_ne_true (bad_call f x) (λ e. n i BadCall (record { instruction = x; at = at; so = e }))) (mark_well f n i x at)

set_within_of : (f : CodeFrame) (o : Option ℕ) (k : ℕ) → option_map_or (may_set f) o true ≡ true → o ≡ Some k → (k ≢ 0) × (k < f.body.slots)
set_within_of f None k e g = absurd (none_some g)
set_within_of f (Some j) k e g =
    let parts = and_parts (not (j == 0)) (nat_lt j f.body.slots) e in
    subst (λ z. (z ≢ 0) × (z < f.body.slots)) (some_same g) (eqb-false j 0 (not-true (j == 0) parts.0), ltb-true j f.body.slots parts.1)

sets_well : (f : CodeFrame) → IsFaultless f → (i k : ℕ) (x : Instruction) → IsAt f i x → slot_set x ≡ Some k → (k ≢ 0) × (k < f.body.slots)
sets_well f n i k x at e =
    let parts = or_parts (not (list_all (λ (j : ℕ). nat_lt j f.body.slots) (reads x))) (not (option_map_or (may_set f) (slot_set x) true)) (slot_well f n i x at) in
    set_within_of f (slot_set x) k (not-false (option_map_or (may_set f) (slot_set x) true) parts.1) e

-- Kinds.

-- the row of a place that has kinds: it says of each slot of the body what they say
record RowOfKinds (f : CodeFrame) (i : ℕ) (s : KindsOfSlots) : Type 0 where
  pub row : KindRow
  pub agrees : Agrees f i row
  pub same : (k : ℕ) → k < f.body.slots → s k ≡ held_at row k

row_of_kinds : (f : CodeFrame) (kinds : ℕ → Option KindsOfSlots) (i : ℕ) (s : KindsOfSlots) (o : Option KindRow) → AreSlotKinds f kinds → kinds i ≡ Some s → AgreesAt f i o → RowOfKinds f i s
row_of_kinds f kinds i s None a e agrees = absurd (agrees (a.reached i s e))
row_of_kinds f kinds i s (Some r) a e agrees = record {
  row = r;
  agrees = agrees;
  same = λ k lt. same_held (s k) (held_at r k) (λ x h. (held_by f i k x r agrees lt).1 ((a.held i s k x e lt).0 h)) (λ x h. (a.held i s k x e lt).1 ((held_by f i k x r agrees lt).0 h));
}

kinds_row : (f : CodeFrame) (kinds : ℕ → Option KindsOfSlots) → AreSlotKinds f kinds → (i : ℕ) (s : KindsOfSlots) → kinds i ≡ Some s → RowOfKinds f i s
kinds_row f kinds a i s e = row_of_kinds f kinds i s (row_at f i).0 a e (row_at f i).1

met_well : (f : CodeFrame) (kinds : ℕ → Option KindsOfSlots) → AreSlotKinds f kinds → IsFaultless f → (i : ℕ) (x : Instruction) (s : KindsOfSlots) (n : Need) → IsAt f i x
    → kinds i ≡ Some s → Contains (needs f x) n → meets f.image s n ≡ true
met_well f kinds a n i x s need at e c =
    let h = kinds_row f kinds a i s e in
    let within : (k : ℕ) → Contains (slots_needed need) k → k < f.body.slots = λ k d. needs_below f x need k (slot_well f n i x at) c d in
    meets_alike f.image s (held_at h.row) need (λ k d. h.same k (within k d))
    ∙ true_from_ne_false (meets f.image (held_at h.row) need)
    (λ g. n i KindMismatch (record { instruction = x; at = at; need = need; needed = c; so = row_mismatch f i h.row need h.agrees within g }))

-- what is known where a slot is set belongs to what all ways hold there
set_known : (f : CodeFrame) (i : ℕ) (s : KindsOfSlots) (k j : ℕ) (v : Option Kind) (w : KindsOfSlots → Option Kind) (x : Kind) → ((t : KindsOfSlots) → Way f i t → HoldsOne f.image (set_slot k (w t) t j) x)
    → (((t : KindsOfSlots) → Way f i t → HoldsOne f.image (w t) x) → HoldsOne f.image v x) → (HoldsOnAllWays f i j x → HoldsOne f.image (s j) x) → HoldsOne f.image (set_slot k v s j) x
set_known f i s k j v w x all given kept = elim (eqb_tells j k) [
  | inl u ↦ rw u.0 (given (λ t v. let e = all t v in rw u.0 at e))
  | inr u ↦ rw u.0 (kept (λ t v. let e = all t v in rw u.0 at e))
]

-- slots of which is known what belongs to what all ways hold
abbrev HoldsAll : CodeFrame → ℕ → KindsOfSlots → Type 0
HoldsAll f i s = (k : ℕ) (x : Kind) → k < f.body.slots → HoldsOnAllWays f i k x → HoldsOne f.image (s k) x

known_after : (f : CodeFrame) (i : ℕ) (s : KindsOfSlots) (e : Effect) (j : ℕ) (x : Kind) → EffectFits f.body.slots e → IsReached f i → HoldsAll f i s → j < f.body.slots
    → ((t : KindsOfSlots) → Way f i t → HoldsOne f.image (done e t j) x) → HoldsOne f.image (done e s j) x
known_after f i s keeps j x w way held lt all = held j x lt all
known_after f i s (sets k v) j x w way held lt all = set_known f i s k j v (λ t. v) x all (λ h. h way.0 way.1) (held j x lt)
known_after f i s (copies k a) j x w way held lt all = set_known f i s k j (s a) (λ t. t a) x all (λ h. held a x w h) (held j x lt)

holds_all_ways : (f : CodeFrame) (i : ℕ) (s : KindsOfSlots) → RowOfKinds f i s → HoldsAll f i s
holds_all_ways f i s h k x lt all = subst (λ z. HoldsOne f.image z x) (sym (h.same k lt)) (two_least f i k (held_at h.row k) x (h.agrees.good.two k lt) all)

fit_one : (m : Image) (o : Option Kind) (x : Kind) → HoldsOne m o x → (y : Kind) × (o ≡ Some y) × (fits m y x ≡ true)
fit_one m o x (y, at, b) = (y, at, belongs_fits m y x b)

leads_well : (f : CodeFrame) (kinds : ℕ → Option KindsOfSlots) → AreSlotKinds f kinds → IsFaultless f → (i j : ℕ) (x : Instruction) (s : KindsOfSlots) → IsAt f i x → kinds i ≡ Some s
    → Contains (leads i x) j → AreKnownAt f kinds j (done (effect f x) s)
leads_well f kinds a n i j x s at e c =
    let goes = goes_well f n i x at in
    let way = a.reached i s e in
    let next = kinds_there f kinds a j (done (effect f x) way.0, step x j way.1 at goes c) in
    record {
      known = next.0;
      there = next.1;
      held = λ k y lt h. fit_one f.image (done (effect f x) s k) y
          (known_after f i s (effect f x) k y (effect_fits f x (slot_well f n i x at)) way (holds_all_ways f i s (kinds_row f kinds a i s e)) lt
          (λ t v. ((a.held j next.0 k y next.1 lt).0 h).each (done (effect f x) t) (step x j v at goes c)));
    }

-- nothing leads back to the entry
abbrev NoneLeadsBack : CodeFrame → Type 0
NoneLeadsBack f = (i : ℕ) (x : Instruction) → IsAt f i x → ¬ (Contains (leads i x) 0)

first_way : {f : CodeFrame} {j : ℕ} {s : KindsOfSlots} → NoneLeadsBack f → Way f j s → j ≡ 0 → s ≡ at_entry f
first_way none start e = refl
first_way none (step {i = h} x j w at so c) e = absurd (none h x at (subst (Contains (leads h x)) e c))

enters_well : (f : CodeFrame) (kinds : ℕ → Option KindsOfSlots) → AreSlotKinds f kinds → AreKnownAt f kinds 0 (at_entry f)
enters_well f kinds a =
    let first = kinds_there f kinds a 0 (at_entry f, start) in
    record { known = first.0; there = first.1; held = λ k x lt h. fit_one f.image (at_entry f k) x (((a.held 0 first.0 k x first.1 lt).0 h).each (at_entry f) start) }

-- two ways to the entry hold what it holds
two_first : (f : CodeFrame) → NoneLeadsBack f → (k : ℕ) (r : Option Kind) → Two f.image (OnSomeWay f 0 k) r → r ≡ at_entry f k
two_first f none k r (o, p, (s, w, e), (t, v, g), h) =
    let left : o ≡ at_entry f k = sym e ∙ ap (λ (z : KindsOfSlots). z k) (first_way none w refl) in
    let right : p ≡ at_entry f k = sym g ∙ ap (λ (z : KindsOfSlots). z k) (first_way none v refl) in
    sym h ∙ ap (λ z. both_hold f.image z p) left ∙ ap (both_hold f.image (at_entry f k)) right ∙ both_self f.image (at_entry f k)

entered_well : (f : CodeFrame) (kinds : ℕ → Option KindsOfSlots) → AreSlotKinds f kinds → NoneLeadsBack f → (s : KindsOfSlots) (k : ℕ) → kinds 0 ≡ Some s → k < f.body.slots → s k ≡ at_entry f k
entered_well f kinds a none s k e lt = let h = kinds_row f kinds a 0 s e in h.same k lt ∙ two_first f none k (held_at h.row k) (h.agrees.good.two k lt)

never_ends : (f : CodeFrame) → IsFaultless f → ¬ (IsReached f (length f.body.instructions))
never_ends f n way = n (length f.body.instructions) FallsOff (refl, way)

stays_well : (f : CodeFrame) (kinds : ℕ → Option KindsOfSlots) → AreSlotKinds f kinds → IsFaultless f → (i : ℕ) (s : KindsOfSlots) → kinds i ≡ Some s → (x : Instruction) × IsAt f i x
stays_well f kinds a n i s e =
    let way = a.reached i s e in
    let le : i ≤ length f.body.instructions = reached_within f i way.0 way.1 in
    let other : i ≢ length f.body.instructions = λ g. never_ends f n (subst (IsReached f) g way) in
    at_within f i (omega arith)

unit_there : (o : Option Instruction) → option_map_or is_unit o false ≡ true → o ≡ Some is.Unit
unit_there None e = absurd (true≢false (sym e))
unit_there (Some is.Unit) e = refl
unit_there (Some x) e = absurd (true≢false (sym e))

ahead_or_unit : (f : CodeFrame) (i t : ℕ) → is_ahead_or_unit f i t ≡ true → (i < t) ⊎ IsAt f t is.Unit
ahead_or_unit f i t e = elim (or_cases (nat_lt i t) (option_map_or is_unit (slice_get f.body.instructions t) false) e) [
  | inl lt ↦ inl (ltb-true i t lt)
  | inr h ↦ inr (unit_there (slice_get f.body.instructions t) h)
]

ahead_well : (f : CodeFrame) → IsFaultless f → (i j : ℕ) (x : Instruction) → IsAt f i x → Contains (leads i x) j → (j ≤ length f.body.instructions) × ((i < j) ⊎ IsAt f j is.Unit)
ahead_well f n i j x at c =
    let lt : j < length f.body.instructions + 1 = leads_within f i x j (slice_get_within f.body.instructions i x at) (jump_well f n i x at) c in (
      omega arith,
      elim (next_or_target i x j c) [
        | inl same ↦ let next : i + 1 ≡ j = same in inl (omega arith)
        | inr h ↦ ahead_or_unit f i j (each_passes (is_ahead_or_unit f i) (targets x) j (not-false (list_all (is_ahead_or_unit f i) (targets x)) (mark_well f n i x at)) h)
      ],
    )

keeps_kinds : (f : CodeFrame) (kinds : ℕ → Option KindsOfSlots) → AreSlotKinds f kinds → IsFaultless f → KeepsKinds f kinds
keeps_kinds f kinds a n = record {
  enters = enters_well f kinds a;
  as_entered = entered_well f kinds a;
  stays = stays_well f kinds a n;
  met = met_well f kinds a n;
  leads_on = leads_well f kinds a n;
  goes = goes_well f n;
  reads_within = λ i k x at c. reads_below f x k (slot_well f n i x at) c;
  needs_within = λ i k x need at c d. needs_below f x need k (slot_well f n i x at) c d;
  sets_within = sets_well f n;
  ahead = ahead_well f n;
  ends = no_kinds f kinds a (length f.body.instructions) (never_ends f n);
}

pub verified_keep : (f : CodeFrame) (v : IsVerifiedBody f) → KeepsKinds f v.kinds
verified_keep f v = keeps_kinds f v.kinds v.are_kinds v.faultless
