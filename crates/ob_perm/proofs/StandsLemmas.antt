-- What holds of the numbers that represent sets and permissions.
use Rattle.std.proofs.Common.{◌≡◌, ◌≢◌, ℕ, zero, suc, ◌+◌, ◌*◌, ◌^◌, ◌<◌, ◌≤◌, Bool, true, false, cond, ◌&&◌, nat_lt, refl, sym, ap, ◌∙◌, ⊎_elim, arith, bit_or, add-zero, add-one, lt-ltb, ltb-true, leb-true, eqb-true, one-mul, pow-suc, lit<}
use Rattle.std.specs.Bool.{◌==◌}
use Rattle.std.proofs.Math.Path.{fun_ext}
use Rattle.std.proofs.lemmas.Nat.{or_shifted, or_comm}
use Rattle.std.proofs.lemmas.Bool.{cases_lt, cases_Bool, or_cases, and_parts, and_from, and_right, both_ways}
use Rattle.ob_base.specs.declared.permission.Mode.{Mode}
use Rattle.ob_base.specs.declared.permission.Mode.TheVariants.{Owned, Shared, Unowned}
use Rattle.ob_base.specs.declared.permission.Perm.{Perm}
use Rattle.ob_perm.specs.States.{States, stateless, unnamed, states_max, IsNumbered, only, union, intersection, all_states, interface_states, anywhere}
use Rattle.ob_perm.specs.Permissions.{Permission, owned, shared, unowned, IsNumberedPermission}
use Rattle.ob_perm.specs.Masks.{states_of, held, permission_of, IsCanonical, mask_below, mask_of, perm_of}
use Rattle.ob_perm.proofs.MaskLemmas.{states_of-zero, states_of-or, states_of-pow, states_of-above, same_mask}
use Rattle.ob_perm.proofs.NamingLemmas.{below_passing, passing-none, passing_more, passing_same}

-- To add a bit above all others is to set it.
add-bit : (n x : ℕ) → x < 2 ^ n → x + 2 ^ n ≡ bit_or x (2 ^ n)
add-bit n x small = let set : bit_or (1 * 2 ^ n) x ≡ 1 * 2 ^ n + x = or_shifted 1 n x small in
    omega arith ∙ sym set ∙ or_comm (1 * 2 ^ n) x ∙ ap (bit_or x) (one-mul (2 ^ n))

mask_below-lt : (n : ℕ) (a : States) → mask_below n a < 2 ^ n
mask_below-lt zero a = lit< tt
mask_below-lt (suc n) a = more (a n) (mask_below n a) (mask_below-lt n a)
  where
    more : (b : Bool) (x : ℕ) → x < 2 ^ n → x + cond b (2 ^ n) 0 < 2 ^ suc n
    more true x small = omega (arith, pow-suc 2 n)
    more false x small = omega (arith, pow-suc 2 n)

-- One more state of a set in its number.
add_state : (n : ℕ) (a : States) (x : ℕ) → x < 2 ^ n → states_of x ≡ below_passing n a
    → states_of (x + cond (a n) (2 ^ n) 0) ≡ below_passing (n + 1) a
add_state n a x small is = ⊎_elim
    (λ in_a. ap (λ b. states_of (x + cond b (2 ^ n) 0)) in_a
    ∙ ap states_of (add-bit n x small)
    ∙ states_of-or x (2 ^ n)
    ∙ ap (union (states_of x)) (states_of-pow n)
    ∙ passing_more n a (states_of x) in_a is)
    (λ out. ap (λ b. states_of (x + cond b (2 ^ n) 0)) out
    ∙ ap states_of (add-zero x)
    ∙ passing_same n a (states_of x) out is)
    (cases_Bool (a n))

-- The number of a set's states below a bound represents these.
states_of-mask_below : (n : ℕ) (a : States) → states_of (mask_below n a) ≡ below_passing n a
states_of-mask_below zero a = states_of-zero ∙ passing-none a
states_of-mask_below (suc n) a =
    add_state n a (mask_below n a) (mask_below-lt n a) (states_of-mask_below n a) ∙ ap (λ k. below_passing k a) (add-one n)

-- A set whose states have numbers is what its number represents.
pub states_of-mask_of : (a : States) → IsNumbered a → states_of (mask_of a) ≡ a
states_of-mask_of a numbered = states_of-mask_below states_max a ∙ fun_ext (λ i. ⊎_elim
    (λ in_a. and_from (nat_lt i states_max) (a i) (lt-ltb i states_max (numbered i in_a)) in_a ∙ sym in_a)
    (λ out. and_right (nat_lt i states_max) (a i) out ∙ sym out)
    (cases_Bool (a i)))

pub permission_of-perm_of : (p : Permission) → IsNumberedPermission p → permission_of (perm_of p) ≡ p
permission_of-perm_of (owned a) numbered = ap owned (states_of-mask_of a numbered)
permission_of-perm_of shared numbered = refl
permission_of-perm_of unowned numbered = refl

pub perm_of_canonical : (p : Permission) → IsCanonical (perm_of p)
perm_of_canonical (owned a) h = absurd (h refl)
perm_of_canonical shared h = refl
perm_of_canonical unowned h = refl

-- a permission of the code
abbrev in_code : Mode → ℕ → Perm
in_code m s = record { mode = m; states = s }

pub same_perm : (p q : Perm) → IsCanonical p → IsCanonical q → permission_of p ≡ permission_of q → p ≡ q
same_perm p q canonical_p canonical_q e = at p.mode p.states canonical_p q.mode q.states canonical_q e
  where
    at : (m : Mode) (s : ℕ) → (m ≢ Owned → s ≡ 0) → (n : Mode) (t : ℕ) → (n ≢ Owned → t ≡ 0)
        → held m (states_of s) ≡ held n (states_of t) → in_code m s ≡ in_code n t
    at Owned s h Owned t k e = ap (in_code Owned) (same_mask s t cc)
    at Shared s h Shared t k e = ap (in_code Shared) (h (λ o. cc) ∙ sym (k (λ o. cc)))
    at Unowned s h Unowned t k e = ap (in_code Unowned) (h (λ o. cc) ∙ sym (k (λ o. cc)))
    at Owned s h Shared t k e = absurd cc
    at Owned s h Unowned t k e = absurd cc
    at Shared s h Owned t k e = absurd cc
    at Shared s h Unowned t k e = absurd cc
    at Unowned s h Owned t k e = absurd cc
    at Unowned s h Shared t k e = absurd cc

-- The number that represents a set is the set's.
pub mask_is : (m : ℕ) (a : States) → IsNumbered a → states_of m ≡ a → m ≡ mask_of a
mask_is m a numbered e = same_mask m (mask_of a) (e ∙ sym (states_of-mask_of a numbered))

-- What represents a permission in canonical form is the permission's.
pub perm_is : (p : Perm) (q : Permission) → IsCanonical p → IsNumberedPermission q → permission_of p ≡ q → p ≡ perm_of q
perm_is p q canonical numbered e =
    same_perm p (perm_of q) canonical (perm_of_canonical q) (e ∙ sym (permission_of-perm_of q numbered))

-- Sets whose states have numbers.
pub states_of_numbered : (m : ℕ) → m < 2 ^ 34 → IsNumbered (states_of m)
unfolding states_max
states_of_numbered m small i e = ⊎_elim
    (λ below. below)
    (λ above. absurd (both_ways (states_of m i) (states_of-above m 34 i small above) e))
    (cases_lt i 34)

pub only_numbered : (s : ℕ) → s < 32 → IsNumbered (only s)
unfolding states_max
only_numbered s h i e = omega (arith, eqb-true i s e)

pub union_numbered : (a b : States) → IsNumbered a → IsNumbered b → IsNumbered (union a b)
union_numbered a b numbered_a numbered_b i e = ⊎_elim (numbered_a i) (numbered_b i) (or_cases (a i) (b i) e)

pub intersection_numbered : (a b : States) → IsNumbered a → IsNumbered (intersection a b)
intersection_numbered a b numbered i e = numbered i (and_parts (a i) (b i) e).0

pub all_states_numbered : (n : ℕ) → n ≤ 32 → IsNumbered (all_states n)
unfolding states_max
all_states_numbered n few i e = ⊎_elim
    (λ below. omega (arith, ltb-true i n below))
    (λ none. omega (arith, eqb-true i stateless (and_parts (n == 0) (i == stateless) none).1))
    (or_cases (nat_lt i n) (n == 0 && i == stateless) e)

pub interface_states_numbered : (n : ℕ) → n ≤ 32 → IsNumbered (interface_states n)
unfolding states_max
interface_states_numbered n few i e = ⊎_elim
    (all_states_numbered n few i)
    (λ other. omega (arith, eqb-true i unnamed other))
    (or_cases (all_states n i) (i == unnamed) e)

pub anywhere_numbered : IsNumbered anywhere
unfolding states_max
anywhere_numbered i e = omega (arith, leb-true i stateless e)
