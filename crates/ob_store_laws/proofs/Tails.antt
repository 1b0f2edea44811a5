-- Ends of lists, by the number of what they begin with.
use Rattle.std.proofs.Common.{◌≡◌, ◌∙◌, ℕ, suc, ◌+◌, ◌<◌, true, false, List, [], ◌∷◌, ◌++◌, length, Some, None, ap, arith, length-append, zero-add}
use Rattle.std.specs.Prelude.{nat_lt, slice_get}

-- this is the end of a list, from a number on
abbrev pub IsTail : {X : Type 0} → List X → ℕ → List X → Type 0
IsTail all n xs = (i : ℕ) → slice_get all (n + i) ≡ slice_get xs i

pub whole_tail : {X : Type 0} (all : List X) → IsTail all 0 all
whole_tail all i = ap (slice_get all) (zero-add i)

pub rest_tail : {X : Type 0} (all : List X) (n : ℕ) (x : X) (xs : List X) → IsTail all n (x ∷ xs) → IsTail all (suc n) xs
rest_tail all n x xs h i = let same : suc n + i ≡ n + suc i = omega arith in ap (slice_get all) same ∙ h (suc i)

pub first_of_tail : {X : Type 0} (all : List X) (n : ℕ) (x : X) (xs : List X) → IsTail all n (x ∷ xs) → slice_get all n ≡ Some x
first_of_tail all n x xs h = let same : n ≡ n + 0 = omega arith in ap (slice_get all) same ∙ h 0

pub rest_of_none : {X : Type 0} (all : List X) (n : ℕ) → IsTail all n [] → IsTail all (suc n) []
rest_of_none all n h i = let same : suc n + i ≡ n + suc i = omega arith in ap (slice_get all) same ∙ h (suc i)

pub none_in_tail : {X : Type 0} (all : List X) (n : ℕ) → IsTail all n [] → slice_get all n ≡ None
none_in_tail all n h = let same : n ≡ n + 0 = omega arith in ap (slice_get all) same ∙ h 0

pub length_more : {X : Type 0} (front : List X) (n : ℕ) (x : X) → n ≡ length front → suc n ≡ length (front ++ x ∷ [])
length_more front n x is = let l = length-append front (x ∷ []) in omega arith

pub is_lower : (m n : ℕ) → m < n → nat_lt m n ≡ true
is_lower m n h = grind arith

pub not_lower : (m n : ℕ) → m ≡ n → nat_lt m n ≡ false
not_lower m n h = grind arith
