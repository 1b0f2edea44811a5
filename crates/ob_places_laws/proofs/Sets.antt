-- Sets of states, state by state.
use Rattle.std.proofs.Common.{◌≡◌, ◌≢◌, ℕ, zero, suc, ◌<◌, true, false, not, ◌&&◌, nat_lt, refl, sym, ap, ◌∙◌, arith, ⊎_elim, ◌⊎◌, inl, inr, eq-eqb, eqb-true, lt-ltb, ltb-true}
use Rattle.std.specs.Bool.{◌==◌}
use Rattle.std.proofs.lemmas.Bool.{and_parts, and_from, or_cases, or_left, or_right, not-true, not_from_false, both_ways, ne_eqb, eqb-false, false_from_ne_true}
use Rattle.ob_perm.specs.States.{States, stateless, unnamed, states_max, IsNumbered, only, union, intersection, within, without, subset, meets, all_states, interface_states, image, preimage}
use Rattle.ob_perm.specs.Masks.{states_of, mask_below, mask_of}
use Rattle.ob_places_laws.specs.Serving.{AreAmong}
pub use Rattle.ob_perm.proofs.SetLemmas.{all_below_at, all_below_from, any_below_at, any_below_from}
use Rattle.ob_perm.proofs.FitLemmas.{subset_at, subset_from}
use Rattle.ob_perm.proofs.StandsLemmas.{states_of-mask_of}

-- Bounds.

pub states_are_34 : states_max ≡ 34
unfolding states_max
states_are_34 = refl

pub low_state : (i : ℕ) → i < 34 → i < states_max
unfolding states_max
low_state i h = h

pub below_34 : (i : ℕ) → i < states_max → i < 34
unfolding states_max
below_34 i h = h

-- Tests of sets.

pub among_from_subset : (a b : States) → subset a b ≡ true → AreAmong a b
among_from_subset a b e = subset_at a b e

pub subset_from_among : (a b : States) → AreAmong a b → subset a b ≡ true
subset_from_among a b h = subset_from a b h

pub among_itself : (a : States) → AreAmong a a
among_itself a i h e = e

pub among_onward : (a b c : States) → AreAmong a b → AreAmong b c → AreAmong a c
among_onward a b c first second i h e = second i h (first i h e)

-- Two sets meet where some state with a number is in both.
pub meeting_state : (a b : States) → meets a b ≡ true → (i : ℕ) × (i < states_max) × (a i ≡ true) × (b i ≡ true)
meeting_state a b e =
    let some : (i : ℕ) × (i < states_max) × ((a i && b i) ≡ true) = any_below_at states_max (λ i. a i && b i) e in
    let parts = and_parts (a some.0) (b some.0) some.2 in
    (some.0, some.1, parts.0, parts.1)

pub meets_from : (a b : States) (i : ℕ) → i < states_max → a i ≡ true → b i ≡ true → meets a b ≡ true
meets_from a b i h in_a in_b = any_below_from states_max (λ k. a k && b k) i h (and_from (a i) (b i) in_a in_b)

-- Where two sets don't meet, no state with a number is in both.
pub apart_at : (a b : States) → meets a b ≡ false → (i : ℕ) → i < states_max → a i ≡ true → b i ≡ false
apart_at a b e i h in_a = false_from_ne_true (b i) (λ in_b. both_ways (meets a b) e (meets_from a b i h in_a in_b))

-- Sets made of others.

pub only_at : (s i : ℕ) → only s i ≡ true → i ≡ s
only_at s i e = eqb-true i s e

pub only_itself : (s : ℕ) → only s s ≡ true
only_itself s = eq-eqb s s refl

pub union_at : (a b : States) (i : ℕ) → union a b i ≡ true → (a i ≡ true) ⊎ (b i ≡ true)
union_at a b i e = or_cases (a i) (b i) e

pub union_left : (a b : States) (i : ℕ) → a i ≡ true → union a b i ≡ true
union_left a b i e = or_left (a i) (b i) e

pub union_right : (a b : States) (i : ℕ) → b i ≡ true → union a b i ≡ true
union_right a b i e = or_right (a i) (b i) e

pub within_at : (a : States) (s i : ℕ) → within a s i ≡ true → (a i ≡ true) × (i ≡ s)
within_at a s i e = let parts = and_parts (a i) (i == s) e in (parts.0, eqb-true i s parts.1)

pub within_from : (a : States) (s i : ℕ) → a i ≡ true → i ≡ s → within a s i ≡ true
within_from a s i e same = and_from (a i) (i == s) e (eq-eqb i s same)

pub without_at : (a : States) (s i : ℕ) → without a s i ≡ true → (a i ≡ true) × (i ≢ s)
without_at a s i e =
    let parts = and_parts (a i) (not (i == s)) e in (parts.0, eqb-false i s (not-true (i == s) parts.1))

pub without_from : (a : States) (s i : ℕ) → a i ≡ true → i ≢ s → without a s i ≡ true
without_from a s i e other = and_from (a i) (not (i == s)) e (not_from_false (i == s) (ne_eqb i s other))

-- What a state of the set is called is in its image, and nothing else is.
pub image_from : (f : ℕ → ℕ) (a : States) (s : ℕ) → s < states_max → a s ≡ true → image f a (f s) ≡ true
image_from f a s h e =
    any_below_from states_max (λ k. a k && f s == f k) s h (and_from (a s) (f s == f s) e (eq-eqb (f s) (f s) refl))

pub image_at : (f : ℕ → ℕ) (a : States) (i : ℕ) → image f a i ≡ true
    → (s : ℕ) × (s < states_max) × (a s ≡ true) × (i ≡ f s)
image_at f a i e =
    let some : (s : ℕ) × (s < states_max) × ((a s && i == f s) ≡ true) =
    any_below_at states_max (λ s. a s && i == f s) e in
    let parts = and_parts (a some.0) (i == f some.0) some.2 in
    (some.0, some.1, parts.0, eqb-true i (f some.0) parts.1)

-- A larger set has a larger image.
pub image_among : (f : ℕ → ℕ) (a b : States) → AreAmong a b → AreAmong (image f a) (image f b)
image_among f a b h i low e =
    let some = image_at f a i e in
    ap (image f b) some.3 ∙ image_from f b some.0 some.1 (h some.0 some.1 some.2)

pub preimage_at : (f : ℕ → ℕ) (a : States) (s : ℕ) → preimage f a s ≡ a (f s)
preimage_at f a s = refl

-- So does it a larger preimage, where names are numbers of states.
pub preimage_among : (f : ℕ → ℕ) (a b : States) → ((s : ℕ) → f s < states_max) → AreAmong a b
    → AreAmong (preimage f a) (preimage f b)
preimage_among f a b low h s small e = h (f s) (low s) e

pub intersection_at : (a b : States) (i : ℕ) → intersection a b i ≡ true → (a i ≡ true) × (b i ≡ true)
intersection_at a b i e = and_parts (a i) (b i) e

pub intersection_from : (a b : States) (i : ℕ) → a i ≡ true → b i ≡ true → intersection a b i ≡ true
intersection_from a b i in_a in_b = and_from (a i) (b i) in_a in_b

pub intersection_among : (a b c : States) → AreAmong b c → AreAmong (intersection a b) (intersection a c)
intersection_among a b c h i low e =
    let parts = intersection_at a b i e in intersection_from a c i parts.0 (h i low parts.1)

pub union_among : (a b c d : States) → AreAmong a c → AreAmong b d → AreAmong (union a b) (union c d)
union_among a b c d first second i low e = ⊎_elim
    (λ in_a. union_left c d i (first i low in_a))
    (λ in_b. union_right c d i (second i low in_b))
    (union_at a b i e)

pub within_among : (a b : States) (s : ℕ) → AreAmong a b → AreAmong (within a s) (within b s)
within_among a b s h i low e = let parts = within_at a s i e in within_from b s i (h i low parts.0) parts.1

pub without_among : (a b : States) (s : ℕ) → AreAmong a b → AreAmong (without a s) (without b s)
without_among a b s h i low e = let parts = without_at a s i e in without_from b s i (h i low parts.0) parts.1

-- The states of a contract: each of its own, or no state if it has none.

pub all_states_at : (n i : ℕ) → all_states n i ≡ true → (i < n) ⊎ ((n ≡ 0) × (i ≡ stateless))
all_states_at n i e = ⊎_elim
    (λ below. inl (ltb-true i n below))
    (λ none. let parts = and_parts (n == 0) (i == stateless) none in
    inr (eqb-true n 0 parts.0, eqb-true i stateless parts.1))
    (or_cases (nat_lt i n) (n == 0 && i == stateless) e)

pub all_states_own : (n i : ℕ) → i < n → all_states n i ≡ true
all_states_own n i h = or_left (nat_lt i n) (n == 0 && i == stateless) (lt-ltb i n h)

pub all_states_none : (n : ℕ) → n ≡ 0 → all_states n stateless ≡ true
all_states_none n e =
    or_right (nat_lt stateless n) (n == 0 && stateless == stateless)
    (and_from (n == 0) (stateless == stateless) (eq-eqb n 0 e) refl)

pub interface_states_at : (n i : ℕ) → interface_states n i ≡ true → (all_states n i ≡ true) ⊎ (i ≡ unnamed)
interface_states_at n i e = ⊎_elim
    (λ own. inl own)
    (λ other. inr (eqb-true i unnamed other))
    (or_cases (all_states n i) (i == unnamed) e)

-- Sets and the numbers that represent them.

mask_below_same : (n : ℕ) (a b : States) → ((i : ℕ) → i < n → a i ≡ b i) → mask_below n a ≡ mask_below n b
mask_below_same zero a b h = refl
mask_below_same (suc n) a b h = sum_same (mask_below_same n a b (λ i low. h i (omega (arith, low)))) (h n (omega arith))
  where
    sum_same : mask_below n a ≡ mask_below n b → a n ≡ b n → mask_below (suc n) a ≡ mask_below (suc n) b
    sum_same more here = rw (more, here) refl

-- a set without what has no number
abbrev numbered_part : States → States
numbered_part a = λ i. nat_lt i states_max && a i

numbered_part_is : (a : States) → IsNumbered (numbered_part a)
numbered_part_is a i e = ltb-true i states_max (and_parts (nat_lt i states_max) (a i) e).0

-- The number of a set represents its states that have a number.
pub mask_states : (a : States) → states_of (mask_of a) ≡ (λ (i : ℕ). nat_lt i states_max && a i)
mask_states a =
    ap states_of (mask_below_same states_max a (numbered_part a)
    (λ i low. sym (ap (λ b. b && a i) (lt-ltb i states_max low))))
    ∙ states_of-mask_of (numbered_part a) (numbered_part_is a)

pub mask_state : (a : States) (i : ℕ) → i < states_max → states_of (mask_of a) i ≡ a i
mask_state a i low = ap (λ f. f i) (mask_states a) ∙ ap (λ b. b && a i) (lt-ltb i states_max low)

pub mask_numbered : (a : States) → IsNumbered (states_of (mask_of a))
mask_numbered a i e = numbered_part_is a i (sym (ap (λ f. f i) (mask_states a)) ∙ e)
