-- The set that a number represents, after each operation on its bits.
use Rattle.std.proofs.Common.{◌≡◌, ℕ, zero, suc, ◌-◌, ◌*◌, ◌/◌, ◌%◌, ◌^◌, ◌<◌, ◌≤◌, min, max, ⊎_elim, Bool, true, false, not, ◌&&◌, ◌||◌, nat_lt, refl, sym, ap, ◌∙◌, arith, lt-ltb, le-ltb, ne_eqb, eq-eqb, eqb-true, w64, bit_and, bit_or}
use Rattle.std.specs.Bool.{◌==◌}
use Rattle.std.specs.Int.{bit_at, bit_not}
use Rattle.std.proofs.Math.Path.{fun_ext}
use Rattle.std.specs.Cmp.{both_ways}
use Rattle.std.proofs.Math.Bool.{and-true}
use Rattle.std.proofs.lemmas.Bool.{cases_lt, cases_eq, and_left, and_right, not-true, not_from_false}
use Rattle.std.proofs.lemmas.Nat.{one_shl}
use Rattle.std.proofs.lemmas.Nat.Bits.{bit_at_and, bit_at_or, bit_at-lt, bit_at_not, bit_at_above, bit_at-zero, bit_at-pow_same, bit_at-pow_other, bit_at_ones, bit_at_ones_above, same_from_bits, shr_and_one}
use Rattle.ob_perm.specs.States.{states_max, no_states, any_below, all_below, only, union, intersection, difference, subset, meets}
use Rattle.ob_perm.specs.Masks.{states_of}
use Rattle.ob_perm.proofs.SetLemmas.{all_below_at, all_below_from, all_below_same, not-all_below}

-- Two bits are equal where both or none is 1.
same_bit : (x y : ℕ) → x < 2 → y < 2 → (x == 1) ≡ (y == 1) → x ≡ y
same_bit zero zero p q e = refl
same_bit zero (suc zero) p q e = absurd cc
same_bit (suc zero) zero p q e = absurd cc
same_bit (suc zero) (suc zero) p q e = refl
same_bit (suc (suc x)) y p q e = absurd (omega arith)
same_bit zero (suc (suc y)) p q e = absurd (omega arith)
same_bit (suc zero) (suc (suc y)) p q e = absurd (omega arith)

either_bit : (x y : ℕ) → x < 2 → y < 2 → (max x y == 1) ≡ (x == 1 || y == 1)
either_bit zero zero p q = refl
either_bit zero (suc zero) p q = refl
either_bit (suc zero) zero p q = refl
either_bit (suc zero) (suc zero) p q = refl
either_bit (suc (suc x)) y p q = absurd (omega arith)
either_bit zero (suc (suc y)) p q = absurd (omega arith)
either_bit (suc zero) (suc (suc y)) p q = absurd (omega arith)

both_bits : (x y : ℕ) → x < 2 → y < 2 → (min x y == 1) ≡ (x == 1 && y == 1)
both_bits zero zero p q = refl
both_bits zero (suc zero) p q = refl
both_bits (suc zero) zero p q = refl
both_bits (suc zero) (suc zero) p q = refl
both_bits (suc (suc x)) y p q = absurd (omega arith)
both_bits zero (suc (suc y)) p q = absurd (omega arith)
both_bits (suc zero) (suc (suc y)) p q = absurd (omega arith)

other_bit : (x : ℕ) → x < 2 → (1 - x == 1) ≡ not (x == 1)
other_bit zero p = refl
other_bit (suc zero) p = refl
other_bit (suc (suc x)) p = absurd (omega arith)

pub states_of-or : (a b : ℕ) → states_of (bit_or a b) ≡ union (states_of a) (states_of b)
unfolding states_of
states_of-or a b = fun_ext (λ i. ap (λ x. x == 1) (bit_at_or a b i)
    ∙ either_bit (bit_at a i) (bit_at b i) (bit_at-lt a i) (bit_at-lt b i))

pub states_of-and : (a b : ℕ) → states_of (bit_and a b) ≡ intersection (states_of a) (states_of b)
unfolding states_of
states_of-and a b = fun_ext (λ i. ap (λ x. x == 1) (bit_at_and a b i)
    ∙ both_bits (bit_at a i) (bit_at b i) (bit_at-lt a i) (bit_at-lt b i))

pub states_of-not : (a i : ℕ) → a < 2 ^ 64 → i < 64 → states_of (bit_not w64 a) i ≡ not (states_of a i)
unfolding states_of
states_of-not a i small h = ap (λ x. x == 1) (bit_at_not w64 a i small h) ∙ other_bit (bit_at a i) (bit_at-lt a i)

pub states_of-zero : states_of 0 ≡ no_states
unfolding states_of
states_of-zero = fun_ext (λ i. ap (λ x. x == 1) (bit_at-zero i))

pub states_of-pow : (k : ℕ) → states_of (2 ^ k) ≡ only k
unfolding states_of
states_of-pow k = fun_ext (λ i. ⊎_elim
    (λ same. ap (λ j. bit_at (2 ^ k) j == 1) same ∙ ap (λ x. x == 1) (bit_at-pow_same k) ∙ sym (eq-eqb i k same))
    (λ other. ap (λ x. x == 1) (bit_at-pow_other k i other) ∙ sym (ne_eqb i k other))
    (cases_eq i k))

-- `1 << k`
pub states_of-bit : (k : ℕ) → k < 64 → states_of (1 * 2 ^ k % 2 ^ 64) ≡ only k
states_of-bit k h = ap states_of (one_shl k 64 h) ∙ states_of-pow k

-- `(1 << n) - 1`
pub states_of-below : (n : ℕ) → states_of (2 ^ n - 1) ≡ (λ (i : ℕ). nat_lt i n)
unfolding states_of
states_of-below n = fun_ext (λ i. ⊎_elim
    (λ below. ap (λ x. x == 1) (bit_at_ones n i below) ∙ sym (lt-ltb i n below))
    (λ above. ap (λ x. x == 1) (bit_at_ones_above n i above) ∙ sym (le-ltb i n above))
    (cases_lt i n))

-- A number of k bits has no state from k on.
pub states_of-above : (a k i : ℕ) → a < 2 ^ k → k ≤ i → states_of a i ≡ false
unfolding states_of
states_of-above a k i small h = ap (λ x. x == 1) (bit_at_above a k i small h)

-- Two numbers that represent one set are equal.
pub same_mask : (a b : ℕ) → states_of a ≡ states_of b → a ≡ b
unfolding states_of
same_mask a b e = same_from_bits a b (λ i.
    same_bit (bit_at a i) (bit_at b i) (bit_at-lt a i) (bit_at-lt b i) (ap (λ f. f i) e))

-- `(a >> k) & 1 == 1`
pub states_of_bit : (a k : ℕ) → (bit_and (a / 2 ^ k) 1 == 1) ≡ states_of a k
unfolding states_of
states_of_bit a k = ap (λ x. x == 1) (shr_and_one a k)

-- `a & !b`
pub states_of-minus : (a b : ℕ) → a < 2 ^ 64 → b < 2 ^ 64
    → states_of (bit_and a (bit_not w64 b)) ≡ difference (states_of a) (states_of b)
states_of-minus a b small_a small_b = states_of-and a (bit_not w64 b) ∙ fun_ext (λ i. ⊎_elim
    (λ below. ap (λ c. states_of a i && c) (states_of-not b i small_b below))
    (λ above. let out = states_of-above a 64 i small_a above in
    and_left (states_of a i) (states_of (bit_not w64 b) i) out ∙ sym (and_left (states_of a i) (not (states_of b i)) out))
    (cases_lt i 64))

-- `a & ALL_BITS`
abbrev low_bits : ℕ → ℕ
low_bits a = bit_and a (2 ^ 34 - 1)

states_of-low_bits : (a : ℕ) → states_of (low_bits a) ≡ intersection (states_of a) (λ i. nat_lt i 34)
states_of-low_bits a = states_of-and a (2 ^ 34 - 1) ∙ ap (intersection (states_of a)) (states_of-below 34)

low_state : (a i : ℕ) → i < 34 → states_of (low_bits a) i ≡ states_of a i
low_state a i h = ap (λ f. f i) (states_of-low_bits a)
    ∙ ap (λ b. states_of a i && b) (lt-ltb i 34 h) ∙ and-true (states_of a i)

high_state : (a i : ℕ) → 34 ≤ i → states_of (low_bits a) i ≡ false
high_state a i h = ap (λ f. f i) (states_of-low_bits a) ∙ and_right (states_of a i) (nat_lt i 34) (le-ltb i 34 h)

-- `a & ALL_BITS == 0`
is_empty : (a : ℕ) → (low_bits a == 0) ≡ all_below 34 (λ i. not (states_of a i))
is_empty a = both_ways (low_bits a == 0) (all_below 34 (λ i. not (states_of a i)))
    (λ none. all_below_from 34 (λ i. not (states_of a i)) (λ i h. not_from_false (states_of a i)
    (sym (low_state a i h) ∙ ap (λ m. states_of m i) (eqb-true (low_bits a) 0 none) ∙ ap (λ f. f i) states_of-zero)))
    (λ each. eq-eqb (low_bits a) 0 (same_mask (low_bits a) 0 (fun_ext (λ i. ⊎_elim
    (λ below. low_state a i below
    ∙ not-true (states_of a i) (all_below_at 34 (λ i. not (states_of a i)) each i below))
    (high_state a i)
    (cases_lt i 34)) ∙ sym states_of-zero)))

-- The first set has nothing outside of the second, of the states that have a number.
pub is_empty-difference : (d a b : ℕ) → states_of d ≡ difference (states_of a) (states_of b)
    → (low_bits d == 0) ≡ subset (states_of a) (states_of b)
unfolding states_max
is_empty-difference d a b e = is_empty d ∙ all_below_same 34
    (λ i. not (states_of d i)) (λ i. not (states_of a i) || states_of b i)
    (λ i h. ap (λ f. not (f i)) e ∙ not_both (states_of a i) (states_of b i))
  where
    not_both : (x y : Bool) → not (x && not y) ≡ (not x || y)
    not_both true true = refl
    not_both true false = refl
    not_both false y = refl

-- The two sets have something in common, of the states that have a number.
pub is_empty-intersection : (d a b : ℕ) → states_of d ≡ intersection (states_of a) (states_of b)
    → not (low_bits d == 0) ≡ meets (states_of a) (states_of b)
unfolding states_max
is_empty-intersection d a b e = ap not (is_empty d) ∙ not-all_below 34 (states_of d) ∙ ap (any_below 34) e
