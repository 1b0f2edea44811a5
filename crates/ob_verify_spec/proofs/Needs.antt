-- A need is met by a row exactly where no way has a mismatch in it.
use Rattle.std.proofs.Common.{◌≡◌, ℕ, ◌<◌, List, [], ◌∷◌, Option, Some, None, Bool, true, false, not, ◌&&◌, ◌≢◌, Contains, refl, sym, ap, ◌∙◌, subst, ◌⊎◌, inl, inr}
use Rattle.std.specs.List.{list_all}
use Rattle.std.proofs.lemmas.Bool.{and_parts, true≢false, false_from_ne_true, not-true, not-false}
use Rattle.ob_table.specs.declared.seen.Kind.{Kind}
use Rattle.ob_code.specs.declared.image.Image.{Image}
use Rattle.ob_code.specs.declared.instruction.Instruction.{Instruction}
use Rattle.ob_verify_spec.specs.Kinds.{same_kind, is_reference, fits, interface_of, BelongsTo, common, both_hold}
use Rattle.ob_verify_spec.specs.Frames.{CodeFrame}
use Rattle.ob_verify_spec.specs.Instructions.{KindsOfSlots, Need, of_kind, any_value, any_reference, alike, slots_needed, passes, are_alike, meets, needs}
use Rattle.ob_verify_spec.specs.Conditions.{names_bad_slot}
use Rattle.ob_verify_spec.specs.Ways.{Way, Mismatch, unmet, differs, IsReached}
use Rattle.ob_verify_spec.specs.Passing.{held_at, KindRow, mismatched}
use Rattle.ob_verify_spec.proofs.Listed.{not_empty, head, behind, cases, only, each_passes, some_fails}
use Rattle.ob_verify_spec.proofs.Cells.{none_some, some_same, same_kind_of}
use Rattle.ob_verify_spec.proofs.Meeting.{interface_own, interface_fits, interface_alone, wanted_is, interface_references, belongs_reference, belongs_plain, Common, the_same, of_both, apart, in_common, HoldsOne, both_least, Two}
use Rattle.ob_verify_spec.proofs.Rows.{OnSomeWay}
use Rattle.ob_verify_spec.proofs.Naming.{needs_below}
use Rattle.ob_verify_spec.proofs.Pass.{Agrees, AgreesAt}

-- a slot is set
abbrev pub IsSet : KindsOfSlots → ℕ → Type 0
IsSet s k = (x : Kind) × (s k ≡ Some x)

-- slots that hold the same where a need speaks of them meet it alike
pub meets_alike : (m : Image) (s t : KindsOfSlots) (n : Need) → ((k : ℕ) → Contains (slots_needed n) k → s k ≡ t k) → meets m s n ≡ meets m t n
meets_alike m s t (of_kind k wanted) same = ap (passes (λ given. fits m given wanted)) (same k (head k []))
meets_alike m s t (any_value k) same = ap (passes (λ given. true)) (same k (head k []))
meets_alike m s t (any_reference k) same = ap (passes is_reference) (same k (head k []))
meets_alike m s t (alike k l) same = ap (λ z. are_alike z (s l)) (same k (head k (l ∷ []))) ∙ ap (are_alike (t k)) (same l (behind k l (l ∷ []) (head l [])))

passes_set : (test : Kind → Bool) (o : Option Kind) → passes test o ≡ true → (x : Kind) × (o ≡ Some x)
passes_set test None e = absurd (true≢false (sym e))
passes_set test (Some x) e = (x, refl)

one_set : (s : KindsOfSlots) (k l : ℕ) → IsSet s k → Contains (k ∷ []) l → IsSet s l
one_set s k l h c = subst (IsSet s) (only k l c) h

alike_set : (o p : Option Kind) → are_alike o p ≡ true → ((x : Kind) × (o ≡ Some x)) × ((x : Kind) × (p ≡ Some x))
alike_set None p e = absurd (true≢false (sym e))
alike_set (Some x) p e = ((x, refl), passes_set (same_kind x) p (and_parts (not (is_reference x)) (passes (same_kind x) p) e).1)

-- a need that is met speaks of slots that are set
pub meets_set : (m : Image) (s : KindsOfSlots) (n : Need) (k : ℕ) → meets m s n ≡ true → Contains (slots_needed n) k → IsSet s k
meets_set m s (of_kind j wanted) k e c = one_set s j k (passes_set (λ given. fits m given wanted) (s j) e) c
meets_set m s (any_value j) k e c = one_set s j k (passes_set (λ given. true) (s j) e) c
meets_set m s (any_reference j) k e c = one_set s j k (passes_set is_reference (s j) e) c
meets_set m s (alike j l) k e c = elim (cases j k (l ∷ []) c) [
  | inl h ↦ subst (IsSet s) h (alike_set (s j) (s l) e).0
  | inr h ↦ one_set s l k (alike_set (s j) (s l) e).1 h
]

unset_fails : (m : Image) (s : KindsOfSlots) (n : Need) (k : ℕ) → s k ≡ None → Contains (slots_needed n) k → meets m s n ≡ false
unset_fails m s n k e c = false_from_ne_true (meets m s n) (λ h. let w = meets_set m s n k h c in none_some (sym e ∙ w.1))

set_or_not : (s : KindsOfSlots) (k : ℕ) (o : Option Kind) → s k ≡ o → IsSet s k ⊎ (s k ≡ None)
set_or_not s k None e = inr e
set_or_not s k (Some x) e = inl (x, e)

-- each of these slots is set, or one isn't
all_set : (s : KindsOfSlots) (ks : List ℕ) → ((k : ℕ) → Contains ks k → IsSet s k) ⊎ ((k : ℕ) × Contains ks k × (s k ≡ None))
all_set s [] = inl (λ k c. absurd (not_empty k c))
all_set s (j ∷ ks) = elim (set_or_not s j (s j) refl) [
  | inr e ↦ inr (j, head j ks, e)
  | inl h ↦ elim (all_set s ks) [
    | inr w ↦ inr (w.0, behind j w.0 ks w.1, w.2)
    | inl w ↦ inl (λ k c. elim (cases j k ks c) [ inl e ↦ subst (IsSet s) e h | inr d ↦ w k d ])
  ]
]

-- By a row.

-- what is known of a slot, two ways both hold
abbrev TwoWays : CodeFrame → ℕ → ℕ → Option Kind → Type 0
TwoWays f i k o = Two f.image (OnSomeWay f i k) o

-- a slot of which nothing is known is a mismatch
unknown_mismatch : (f : CodeFrame) (i : ℕ) (n : Need) (k : ℕ) → Contains (slots_needed n) k → TwoWays f i k None → Mismatch f i n
unknown_mismatch f i n k c (o, p, (s, w, e), (t, v, g), h) = differs s t k w v c (ap (λ z. both_hold f.image z (t k)) e ∙ ap (both_hold f.image o) g ∙ h)

-- A need of a kind.

test_of : (b : Bool) → (b ≡ true) ⊎ (b ≡ false)
test_of true = inl refl
test_of false = inr refl

-- where both kinds fit, what they have in common does
both_fit_by : (m : Image) (x y z wanted : Kind) → x ≢ y → interface_of m x ≡ Some z → interface_of m y ≡ Some z → (wanted ≡ x) ⊎ (wanted ≡ z) → (wanted ≡ y) ⊎ (wanted ≡ z) → wanted ≡ z
both_fit_by m x y z wanted ne u v (inr h) g = h
both_fit_by m x y z wanted ne u v (inl h) (inr g) = g
both_fit_by m x y z wanted ne u v (inl h) (inl g) = absurd (ne (sym h ∙ g))

both_fit : (m : Image) (x y z wanted : Kind) (o : Option Kind) → Common m x y o → o ≡ Some z → fits m x wanted ≡ true → fits m y wanted ≡ true → fits m z wanted ≡ true
both_fit m x y z wanted o (the_same e) g a b = ap (λ w. fits m w wanted) (sym (some_same g)) ∙ a
both_fit m x y z wanted o (of_both w ne u v) g a b =
    ap (fits m z) (both_fit_by m x y z wanted ne (u ∙ g) (v ∙ g) (wanted_is m x z wanted (u ∙ g) a) (wanted_is m y z wanted (v ∙ g) b)) ∙ interface_fits m z z (interface_own m x z (u ∙ g))
both_fit m x y z wanted o (apart ne fails) g a b = absurd (none_some g)

-- where what is known doesn't fit, on one of two ways it doesn't
one_unfit : (m : Image) (x y z wanted : Kind) → common m x y ≡ Some z → fits m z wanted ≡ false → (fits m x wanted ≡ false) ⊎ (fits m y wanted ≡ false)
one_unfit m x y z wanted e fails = elim (test_of (fits m x wanted)) [
  | inr h ↦ inl h
  | inl h ↦ elim (test_of (fits m y wanted)) [ inr g ↦ inr g | inl g ↦ absurd (true≢false (sym (both_fit m x y z wanted (common m x y) (in_common m x y) e h g) ∙ fails)) ]
]

kind_mismatch : (f : CodeFrame) (i k : ℕ) (wanted z : Kind) → TwoWays f i k (Some z) → fits f.image z wanted ≡ false → Mismatch f i (of_kind k wanted)
kind_mismatch f i k wanted z (None, p, a, b, h) fails = absurd (none_some h)
kind_mismatch f i k wanted z (Some x, None, a, b, h) fails = absurd (none_some h)
kind_mismatch f i k wanted z (Some x, Some y, (s, w, e), (t, v, g), h) fails = elim (one_unfit f.image x y z wanted h fails) [
  | inl u ↦ unmet s w (ap (passes (λ given. fits f.image given wanted)) e ∙ u)
  | inr u ↦ unmet t v (ap (passes (λ given. fits f.image given wanted)) g ∙ u)
]

-- what is known fits where each way does
fits_below : (m : Image) (x z wanted : Kind) → BelongsTo m x z → fits m z wanted ≡ true → fits m x wanted ≡ true
fits_below m x z wanted (inl e) h = ap (λ w. fits m w wanted) e ∙ h
fits_below m x z wanted (inr e) h = ap (fits m x) (interface_alone m x z wanted e h) ∙ interface_fits m x z e

-- Other needs are met on a way exactly where they are by what is known.

-- these slots hold kinds that belong to those
abbrev Follow : CodeFrame → KindRow → KindsOfSlots → Need → Type 0
Follow f r s n = (k : ℕ) → Contains (slots_needed n) k → (x : Kind) × (held_at r k ≡ Some x) × HoldsOne f.image (s k) x

differs_from : (x y : Kind) → is_reference x ≡ false → is_reference y ≡ true → same_kind x y ≡ false
differs_from x y plain is = false_from_ne_true (same_kind x y) (λ e. true≢false (sym is ∙ ap is_reference (sym (same_kind_of x y e)) ∙ plain))

reference_as : (m : Image) (o p : Option Kind) (x : Kind) → o ≡ Some x → HoldsOne m p x → passes is_reference p ≡ passes is_reference o
reference_as m o p x e (y, at, b) = ap (passes is_reference) at ∙ belongs_reference m y x b ∙ ap (passes is_reference) (sym e)

same_as_plain : (m : Image) (x y z : Kind) → is_reference x ≡ false → BelongsTo m y z → same_kind x y ≡ same_kind x z
same_as_plain m x y z plain (inl e) = ap (same_kind x) e
same_as_plain m x y z plain (inr e) = let h = interface_references m y z e in differs_from x y plain h.0 ∙ sym (differs_from x z plain h.1)

alike_as : (m : Image) (x y v w : Kind) (b : Bool) → BelongsTo m y x → BelongsTo m w v → is_reference x ≡ b → are_alike (Some y) (Some w) ≡ are_alike (Some x) (Some v)
alike_as m x y v w true h g e = ap (λ z. not z && same_kind y w) (belongs_reference m y x h ∙ e) ∙ sym (ap (λ z. not z && same_kind x v) e)
alike_as m x y v w false h g e = let same : y ≡ x = belongs_plain m y x e h in
    ap (λ z. are_alike (Some z) (Some w)) same ∙ ap (λ z. not (is_reference x) && z) (same_as_plain m x w v e g)

alike_row : (m : Image) (o p q r : Option Kind) (x v : Kind) → o ≡ Some x → q ≡ Some v → HoldsOne m p x → HoldsOne m r v → are_alike p r ≡ are_alike o q
alike_row m o p q r x v e g (y, at, h) (w, there, k) =
    ap (λ z. are_alike z r) at ∙ ap (are_alike (Some y)) there ∙ alike_as m x y v w (is_reference x) h k refl ∙ sym (ap (λ z. are_alike z q) e ∙ ap (are_alike (Some x)) g)

value_as : (o p : Option Kind) (x : Kind) → o ≡ Some x → ((y : Kind) × (p ≡ Some y)) → passes (λ given. true) p ≡ passes (λ given. true) o
value_as o p x e h = ap (passes (λ given. true)) h.1 ∙ sym (ap (passes (λ given. true)) e)

-- what a row doesn't meet though it says what the slots hold is a mismatch
known_mismatch : (f : CodeFrame) (i : ℕ) (r : KindRow) (n : Need) → ((k : ℕ) → Contains (slots_needed n) k → TwoWays f i k (held_at r k)) → (s : KindsOfSlots) → Way f i s → Follow f r s n
    → meets f.image (held_at r) n ≡ false → Mismatch f i n
known_mismatch f i r (of_kind k wanted) two s w a e = let h = a k (head k []) in
    kind_mismatch f i k wanted h.0 (subst (TwoWays f i k) h.1 (two k (head k []))) (sym (ap (passes (λ given. fits f.image given wanted)) h.1) ∙ e)
known_mismatch f i r (any_value k) two s w a e = let h = a k (head k []) in unmet s w (value_as (held_at r k) (s k) h.0 h.1 (h.2.0, h.2.1) ∙ e)
known_mismatch f i r (any_reference k) two s w a e = let h = a k (head k []) in unmet s w (reference_as f.image (held_at r k) (s k) h.0 h.1 h.2 ∙ e)
known_mismatch f i r (alike k l) two s w a e =
    let h = a k (head k (l ∷ [])) in
    let g = a l (behind k l (l ∷ []) (head l [])) in
    unmet s w (alike_row f.image (held_at r k) (s k) (held_at r l) (s l) h.0 g.0 h.1 g.1 h.2 g.2 ∙ e)

-- what a row meets, each way meets
met_below : (m : Image) (r : KindRow) (s : KindsOfSlots) (n : Need) → ((k : ℕ) → Contains (slots_needed n) k → (x : Kind) × (held_at r k ≡ Some x) × HoldsOne m (s k) x)
    → meets m (held_at r) n ≡ true → meets m s n ≡ true
met_below m r s (of_kind k wanted) a e = let h = a k (head k []) in
    ap (passes (λ given. fits m given wanted)) h.2.1 ∙ fits_below m h.2.0 h.0 wanted h.2.2 (sym (ap (passes (λ given. fits m given wanted)) h.1) ∙ e)
met_below m r s (any_value k) a e = let h = a k (head k []) in value_as (held_at r k) (s k) h.0 h.1 (h.2.0, h.2.1) ∙ e
met_below m r s (any_reference k) a e = let h = a k (head k []) in reference_as m (held_at r k) (s k) h.0 h.1 h.2 ∙ e
met_below m r s (alike k l) a e =
    let h = a k (head k (l ∷ [])) in
    let g = a l (behind k l (l ∷ []) (head l [])) in
    alike_row m (held_at r k) (s k) (held_at r l) (s l) h.0 g.0 h.1 g.1 h.2 g.2 ∙ e

follows : (f : CodeFrame) (i : ℕ) (r : KindRow) (n : Need) → Agrees f i r → ((k : ℕ) → Contains (slots_needed n) k → IsSet (held_at r) k) → (s : KindsOfSlots) → Way f i s → Follow f r s n
follows f i r n a set s w k c = let h = set k c in (h.0, h.1, (a.all s w).keeps k h.0 h.1)

-- what a row doesn't meet is a mismatch
pub row_mismatch : (f : CodeFrame) (i : ℕ) (r : KindRow) (n : Need) → Agrees f i r
    → ((k : ℕ) → Contains (slots_needed n) k → k < f.body.slots) → meets f.image (held_at r) n ≡ false → Mismatch f i n
row_mismatch f i r n a below e = elim (all_set (held_at r) (slots_needed n)) [
  | inl set ↦ known_mismatch f i r n (λ k c. a.good.two k (below k c)) a.good.reached.0 a.good.reached.1 (follows f i r n a set a.good.reached.0 a.good.reached.1) e
  | inr w ↦ unknown_mismatch f i n w.0 w.1 (subst (TwoWays f i w.0) w.2 (a.good.two w.0 (below w.0 w.1)))
]

-- what it meets is none
pub row_meets : (f : CodeFrame) (i : ℕ) (r : KindRow) (n : Need) → Agrees f i r → meets f.image (held_at r) n ≡ true → ¬ (Mismatch f i n)
row_meets f i r n a e (unmet s w g) = true≢false (sym (met_below f.image r s n (follows f i r n a (λ k c. meets_set f.image (held_at r) n k e c) s w) e) ∙ g)
row_meets f i r n a e (differs s t k v w c g) =
    let h = meets_set f.image (held_at r) n k e c in
    none_some ((both_least f.image (s k) (t k) None h.0 g ((a.all s v).keeps k h.0 h.1) ((a.all t w).keeps k h.0 h.1)).1)

pub mismatch_reached : (f : CodeFrame) (i : ℕ) (n : Need) → Mismatch f i n → IsReached f i
mismatch_reached f i n (unmet s w g) = (s, w)
mismatch_reached f i n (differs s t k v w c g) = (s, v)

-- By the row of a place, or none.

pub mismatch_here : (f : CodeFrame) (i : ℕ) (x : Instruction) (o : Option KindRow) → AgreesAt f i o → names_bad_slot f x ≡ false → mismatched f x o ≡ true
    → (n : Need) × Contains (needs f x) n × Mismatch f i n
mismatch_here f i x None a below e = absurd (true≢false (sym e))
mismatch_here f i x (Some r) a below e =
    let found = some_fails (meets f.image (held_at r)) (needs f x) (not-true (list_all (meets f.image (held_at r)) (needs f x)) e) in
    (found.0, found.1, row_mismatch f i r found.0 a (λ k c. needs_below f x found.0 k below found.1 c) found.2)

pub no_mismatch_here : (f : CodeFrame) (i : ℕ) (x : Instruction) (o : Option KindRow) → AgreesAt f i o → mismatched f x o ≡ false → (n : Need) → Contains (needs f x) n → ¬ (Mismatch f i n)
no_mismatch_here f i x None a e n c h = a (mismatch_reached f i n h)
no_mismatch_here f i x (Some r) a e n c h = row_meets f i r n a (each_passes (meets f.image (held_at r)) (needs f x) n (not-false (list_all (meets f.image (held_at r)) (needs f x)) e) c) h
