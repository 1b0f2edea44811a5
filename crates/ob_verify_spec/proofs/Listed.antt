-- Elements of lists, and tests on each.
use Rattle.std.proofs.Common.{◌≡◌, ℕ, suc, zero, ◌<◌, List, [], ◌∷◌, length, Some, Bool, true, false, Contains, slice_get, refl, subst, arith, ◌⊎◌, inl, inr}
use Rattle.std.specs.List.{list_all}
use Rattle.std.proofs.lemmas.Bool.{and_parts, and_cases}
use Rattle.std.proofs.lemmas.Option.{slice_get_within, get_or_from_slice_get}

pub not_empty : {X : Type 0} (y : X) → Contains [] y → ⊥
not_empty y c = let lt : c.0 < 0 = c.1 in omega arith

pub head : {X : Type 0} (x : X) (xs : List X) → Contains (x ∷ xs) x
head x xs = (0, omega arith, refl)

pub behind : {X : Type 0} (x y : X) (xs : List X) → Contains xs y → Contains (x ∷ xs) y
behind x y xs c = let lt : c.0 < length xs = c.1 in (suc c.0, omega arith, c.2)

pub cases : {X : Type 0} (x y : X) (xs : List X) → Contains (x ∷ xs) y → (x ≡ y) ⊎ Contains xs y
cases x y xs (zero, lt, e) = inl e
cases x y xs (suc k, lt, e) = inr (k, omega arith, e)

pub only : {X : Type 0} (x y : X) → Contains (x ∷ []) y → x ≡ y
only x y c = elim (cases x y [] c) [ inl e ↦ e | inr h ↦ absurd (not_empty y h) ]

-- the one element of a list is in each list that begins with it
pub only_head : {X : Type 0} (x y : X) (xs : List X) → Contains (x ∷ []) y → Contains (x ∷ xs) y
only_head x y xs c = subst (Contains (x ∷ xs)) (only x y c) (head x xs)

pub from_get : {X : Type 0} (xs : List X) (k : ℕ) (x : X) → slice_get xs k ≡ Some x → Contains xs x
from_get xs k x e = (k, slice_get_within xs k x e, get_or_from_slice_get xs k x x e)

-- what passes at each element
pub each_passes : {X : Type 0} (test : X → Bool) (xs : List X) (y : X) → list_all test xs ≡ true → Contains xs y → test y ≡ true
each_passes test [] y e c = absurd (not_empty y c)
each_passes test (x ∷ xs) y e c = elim (cases x y xs c) [
  | inl h ↦ subst (λ z. test z ≡ true) h (and_parts (test x) (list_all test xs) e).0
  | inr h ↦ each_passes test xs y (and_parts (test x) (list_all test xs) e).1 h
]

-- what fails at one
pub some_fails : {X : Type 0} (test : X → Bool) (xs : List X) → list_all test xs ≡ false → (y : X) × Contains xs y × (test y ≡ false)
some_fails test [] e = absurd (cc)
some_fails test (x ∷ xs) e = elim (and_cases (test x) (list_all test xs) e) [
  | inl h ↦ (x, head x xs, h)
  | inr h ↦ let found = some_fails test xs h in (found.0, behind x found.0 xs found.1, found.2)
]
