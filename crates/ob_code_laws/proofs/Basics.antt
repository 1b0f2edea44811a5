-- Lists, and values that may be missing.
use Rattle.std.proofs.Common.{◌≡◌, ◌≢◌, ℕ, zero, suc, ◌+◌, ◌-◌, ◌≤◌, List, [], ◌∷◌, ◌++◌, length, replicate, Option, Some, None, Bool, true, false, cond, slice_get, slice_set, refl, sym, ap, ◌∙◌, arith, ◌⊎◌, inl, inr, length-append}
use Rattle.std.specs.Prelude.{position, find, nat_lt}
use Rattle.std.specs.List.{position_or_len}
use Rattle.std.specs.Option.{option_and_then, option_map_or}
use Rattle.std.proofs.lemmas.Bool.{true≢false}
use Rattle.std.proofs.lemmas.List.{length-replicate}
use Rattle.std.proofs.lemmas.List.Folds.{find_at}
use Rattle.ob_base.specs.Optional.{◌>>=◌, where_true}
use Rattle.ob_base.specs.declared.id.ContractId.{ContractId}
use Rattle.ob_verify_spec.proofs.Cells.{none_some, some_same}

-- Values that may be missing.

-- there is a value, and it leads to another
pub then_some : {A B : Type 0} (o : Option A) (f : A → Option B) (b : B) → (o >>= f) ≡ Some b → (a : A) × (o ≡ Some a) × (f a ≡ Some b)
then_some None f b e = absurd (none_some e)
then_some (Some a) f b e = (a, refl, e)

pub same_then : {A B : Type 0} (o : Option A) (f : A → Option B) → option_and_then f o ≡ (o >>= f)
same_then None f = refl
same_then (Some a) f = refl

-- a test of what is there, false of nothing
pub passes_some : {A : Type 0} (test : A → Bool) (o : Option A) → option_map_or test o false ≡ true → (a : A) × (o ≡ Some a) × (test a ≡ true)
passes_some test None e = absurd (true≢false (sym e))
passes_some test (Some a) e = (a, refl, e)

pub where_true_some : {A : Type 0} (b : Bool) (a z : A) → where_true b a ≡ Some z → (b ≡ true) × (a ≡ z)
where_true_some true a z e = (refl, some_same e)
where_true_some false a z e = absurd (none_some e)

-- Numbers of contracts.

pub same_contract : (c d : ContractId) → c.0 ≡ d.0 → c ≡ d
same_contract c d e = ap (λ (n : ℕ). let made : ContractId = record { 0 = n } in made) e

-- Lists.

pub get-set_same : {A : Type 0} (xs : List A) (k : ℕ) (x y : A) → slice_get xs k ≡ Some x → slice_get (slice_set xs k y) k ≡ Some y
get-set_same [] k x y e = absurd (none_some e)
get-set_same (z ∷ xs) zero x y e = refl
get-set_same (z ∷ xs) (suc k) x y e = get-set_same xs k x y e

pub get-set_other : {A : Type 0} (xs : List A) (k j : ℕ) (y : A) → j ≢ k → slice_get (slice_set xs k y) j ≡ slice_get xs j
get-set_other [] k j y ne = refl
get-set_other (z ∷ xs) zero zero y ne = absurd (ne refl)
get-set_other (z ∷ xs) zero (suc j) y ne = refl
get-set_other (z ∷ xs) (suc k) zero y ne = refl
get-set_other (z ∷ xs) (suc k) (suc j) y ne = get-set_other xs k j y (λ e. ne (ap suc e))

pub get-append_left : {A : Type 0} (xs ys : List A) (k : ℕ) (x : A) → slice_get xs k ≡ Some x → slice_get (xs ++ ys) k ≡ Some x
get-append_left [] ys k x e = absurd (none_some e)
get-append_left (z ∷ xs) ys zero x e = e
get-append_left (z ∷ xs) ys (suc k) x e = get-append_left xs ys k x e

pub get-append_last : {A : Type 0} (xs : List A) (y : A) → slice_get (xs ++ y ∷ []) (length xs) ≡ Some y
get-append_last [] y = refl
get-append_last (x ∷ xs) y = get-append_last xs y

one_cases : {A : Type 0} (y : A) (k : ℕ) (x : A) → slice_get (y ∷ []) k ≡ Some x → y ≡ x
one_cases y zero x e = some_same e
one_cases y (suc k) x e = absurd (none_some e)

pub get-append_cases : {A : Type 0} (xs : List A) (y : A) (k : ℕ) (x : A) → slice_get (xs ++ y ∷ []) k ≡ Some x → (slice_get xs k ≡ Some x) ⊎ (y ≡ x)
get-append_cases [] y k x e = inr (one_cases y k x e)
get-append_cases (z ∷ xs) y zero x e = inl e
get-append_cases (z ∷ xs) y (suc k) x e = get-append_cases xs y k x e

-- The first that passes.

place_of : (b : Bool) (m n : ℕ) → cond b (Some m) None ≡ Some n → m ≡ n
place_of true m n e = some_same e
place_of false m n e = absurd (none_some e)

-- what stands at the place of the first that passes is the first that passes
pub found_at : {A : Type 0} (p : A → Bool) (xs : List A) (n : ℕ) → position p xs ≡ Some n → find p xs ≡ slice_get xs n
found_at p xs n e = find_at p xs ∙ ap (slice_get xs) (place_of (nat_lt (position_or_len p xs) (length xs)) (position_or_len p xs) n e)

-- as many as are set, and the rest
fill_sum : (n m : ℕ) → m ≤ n → m + (n - m) ≡ n
fill_sum n m le = omega arith

pub filled-length : {A : Type 0} (xs : List A) (y : A) (n : ℕ) → length xs ≤ n → length (xs ++ replicate (n - length xs) y) ≡ n
filled-length xs y n le = length-append xs (replicate (n - length xs) y) ∙ ap (λ z. length xs + z) (length-replicate (n - length xs) y) ∙ fill_sum n (length xs) le
