-- Written permissions as they stand in the table.
use Rattle.std.proofs.Common.{◌≡◌, ℕ, zero, suc, ◌+◌, ◌*◌, ◌^◌, ◌<◌, Bool, true, false, List, [], ◌∷◌, length, refl, bit_or, add-zero, add-one, one-mul, lt-ltb, ⊎_elim, sym, ap, arith, ◌∙◌, cond}
use Rattle.std.specs.Prelude.{◌||◌, ◌&&◌, not, slice_get, if◌then◌else◌}
use Rattle.std.specs.Option.{option_map_or}
use Rattle.std.proofs.lemmas.Bool.{cases_Bool}
use Rattle.std.proofs.lemmas.Nat.{or_shifted, or_comm}
use native.Mathlib.Numerals.{unary_clauses}
use Rattle.ob_tree.specs.Members.{Contract}
use Rattle.ob_perm.specs.States.{States, states_max, union, subset, all_below, all_states, interface_states}
use Rattle.ob_perm.specs.Masks.{states_of, mask_below, mask_of, perm_of}
use Rattle.ob_perm.proofs.MaskLemmas.{states_of-zero, states_of-or, states_of-pow}
use Rattle.ob_perm.proofs.NamingLemmas.{below_passing, passing-none, passing_more, passing_same}
use Rattle.ob_table_spec.specs.Names.{Name, is_among}
use Rattle.ob_resolve_spec.specs.Declarations.{Program, state_names}
use Rattle.ob_resolve_spec.specs.Permissions.{WrittenPermission, as_shared, as_unowned, as_owner, as_owner_in, may_leave}
use Rattle.ob_resolve_spec.specs.Numbers.{whole, numbers_of_states, permission_on}
use Rattle.ob_resolve_spec.specs.TableOf.{contract_in_table}
use Rattle.ob_table_spec.specs.Conditions.{IsPermOn, MayLeave}

pub mask_below_bound : (n : ℕ) (a : States) → mask_below n a < 2 ^ n
mask_below_bound zero a = omega arith
mask_below_bound (suc n) a = at (a n) (mask_below_bound n a)
  where
    at : (b : Bool) → mask_below n a < 2 ^ n → mask_below n a + cond b (2 ^ n) 0 < 2 ^ suc n
    at true h = simp unary_clauses (omega (arith, h))
    at false h = simp unary_clauses (omega (arith, h))

pub mask_of_bound : (a : States) → mask_of a < 2 ^ 34
unfolding states_max
mask_of_bound a = mask_below_bound 34 a

-- sets that have the same states below a bound have one number
pub same_mask_below : (n : ℕ) (a b : States) → ((i : ℕ) → i < n → a i ≡ b i) → mask_below n a ≡ mask_below n b
same_mask_below zero a b h = refl
same_mask_below (suc n) a b h =
    let e = same_mask_below n a b (λ i l. h i (omega arith)) in
    let f = h n (omega arith) in
    rw (e, f) refl

pub same_mask_of : (a b : States) → ((i : ℕ) → i < 34 → a i ≡ b i) → mask_of a ≡ mask_of b
unfolding states_max
same_mask_of a b h = same_mask_below 34 a b h

-- to add a bit above all others is to set it
add_bit : (n x : ℕ) → x < 2 ^ n → x + 2 ^ n ≡ bit_or x (2 ^ n)
add_bit n x small =
    let e : bit_or (1 * 2 ^ n) x ≡ 1 * 2 ^ n + x = or_shifted 1 n x small in
    omega arith ∙ sym e ∙ or_comm (1 * 2 ^ n) x ∙ ap (bit_or x) (one-mul (2 ^ n))

-- one more state of a set in its number
add_state : (n : ℕ) (a : States) (x : ℕ) → x < 2 ^ n → states_of x ≡ below_passing n a
    → states_of (x + cond (a n) (2 ^ n) 0) ≡ below_passing (n + 1) a
add_state n a x small is =
    ⊎_elim
    (λ in_a. ap (λ b. states_of (x + cond b (2 ^ n) 0)) in_a ∙ ap states_of (add_bit n x small) ∙ states_of-or x (2 ^ n)
    ∙ ap (union (states_of x)) (states_of-pow n) ∙ passing_more n a (states_of x) in_a is)
    (λ out. ap (λ b. states_of (x + cond b (2 ^ n) 0)) out ∙ ap states_of (add-zero x)
    ∙ passing_same n a (states_of x) out is)
    (cases_Bool (a n))

-- the number of a set's states below a bound represents these
states_of-mask_below : (n : ℕ) (a : States) → states_of (mask_below n a) ≡ below_passing n a
states_of-mask_below zero a = states_of-zero ∙ passing-none a
states_of-mask_below (suc n) a =
    add_state n a (mask_below n a) (mask_below_bound n a) (states_of-mask_below n a)
    ∙ ap (λ k. below_passing k a) (add-one n)

pub mask_bit : (a : States) (i : ℕ) → i < 34 → states_of (mask_of a) i ≡ a i
unfolding states_max
mask_bit a i h = ap (λ f. f i) (states_of-mask_below 34 a) ∙ ap (λ b. b && a i) (lt-ltb i 34 h)

-- a set is inside another where each of its states is
all_below_from : (n : ℕ) (f : ℕ → Bool) → ((i : ℕ) → i < n → f i ≡ true) → all_below n f ≡ true
all_below_from zero f h = refl
all_below_from (suc n) f h = rw (h n (omega arith), all_below_from n f (λ i l. h i (omega arith))) refl

pub subset_from : (a b : States) → ((i : ℕ) → i < 34 → a i ≡ true → b i ≡ true) → subset a b ≡ true
unfolding states_max
subset_from a b h = all_below_from 34 (λ i. not (a i) || b i) (λ i l. at i (a i) refl l)
  where
    at : (i : ℕ) (x : Bool) → a i ≡ x → i < 34 → (not x || b i) ≡ true
    at i true e l = h i l e
    at i false e l = refl

mask_subset : (a b : States) → ((i : ℕ) → i < 34 → a i ≡ true → b i ≡ true) → subset (states_of (mask_of a)) b ≡ true
mask_subset a b h = subset_from (states_of (mask_of a)) b (λ i l e. h i l (sym (mask_bit a i l) ∙ e))

-- a state that is named is one of the whole set
get_some : {A : Type 0} (xs : List A) (i : ℕ) (f : A → Bool) → option_map_or f (slice_get xs i) false ≡ true
    → i < length xs
get_some [] i f e = absurd cc
get_some (x ∷ xs) zero f e = omega arith
get_some (x ∷ xs) (suc i) f e = let r = get_some xs i f e in omega (arith, r)

pub below_all : (n i : ℕ) → i < n → all_states n i ≡ true
below_all n i l = grind arith

below_whole : (interface : Bool) (n i : ℕ) → i < n → (if interface then interface_states n else all_states n) i ≡ true
below_whole true n i l = rw (below_all n i l) refl
below_whole false n i l = below_all n i l

-- what is written of a contract stands in the table as a permission on it
named_inside : (own : Contract) (names : List Name) (i : ℕ) → numbers_of_states (state_names own) names i ≡ true
    → whole own i ≡ true
named_inside own names i e =
    below_whole own.interface (length (state_names own)) i
    (get_some (state_names own) i (λ state. is_among state names) e)

zero_inside : (a : States) → subset (states_of 0) a ≡ true
zero_inside a =
    subset_from (states_of 0) a (λ i l e. let f : states_of 0 i ≡ false = ap (λ f. f i) states_of-zero in absurd (cc))

pub perm_is_on : (program : Program) (own : Contract) (p : WrittenPermission)
    → IsPermOn (contract_in_table program own) (perm_of (permission_on own p))
perm_is_on program own as_shared = record { canonical = λ h. refl; low = omega arith; inside = zero_inside (whole own) }
perm_is_on program own as_unowned =
    record { canonical = λ h. refl; low = omega arith; inside = zero_inside (whole own) }
perm_is_on program own as_owner = record {
  canonical = λ h. absurd (h refl);
  low = mask_of_bound (whole own);
  inside =
      mask_subset (whole own) (whole own) (λ i l e. e);
}
perm_is_on program own (as_owner_in names) = record {
  canonical = λ h. absurd (h refl);
  low = mask_of_bound (numbers_of_states (state_names own) names);
  inside = mask_subset (numbers_of_states (state_names own) names) (whole own) (λ i l e. named_inside own names i e);
}

-- what may follow as it is written may follow in the table
pub may_leave_in_table : (own : Contract) (entry exit : WrittenPermission) → may_leave entry exit ≡ true
    → MayLeave (perm_of (permission_on own entry)) (perm_of (permission_on own exit))
may_leave_in_table own as_shared as_shared h n = refl
may_leave_in_table own as_shared as_unowned h n = absurd cc
may_leave_in_table own as_shared as_owner h n = absurd cc
may_leave_in_table own as_shared (as_owner_in names) h n = absurd cc
may_leave_in_table own as_unowned as_unowned h n = refl
may_leave_in_table own as_unowned as_shared h n = absurd cc
may_leave_in_table own as_unowned as_owner h n = absurd cc
may_leave_in_table own as_unowned (as_owner_in names) h n = absurd cc
may_leave_in_table own as_owner exit h n = absurd (n refl)
may_leave_in_table own (as_owner_in names) exit h n = absurd (n refl)
