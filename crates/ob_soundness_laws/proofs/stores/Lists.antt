-- Sums over lists, by the places in them.
use Rattle.std.proofs.Common.{◌≡◌, ℕ, zero, suc, ◌+◌, ◌<◌, ◌≤◌, List, [], ◌∷◌, length, slice_get, refl, ap, arith, ⊎_elim}
use Rattle.std.specs.Option.{option_map_or}
use Rattle.ob_coherent_spec.specs.Counting.{sum_below}
use Rattle.ob_soundness_laws.proofs.counting.Sums.{sum_same}
use Rattle.std.proofs.lemmas.Bool.{cases_lt}

-- the first term on its own
pub sum_first : (n : ℕ) (f : ℕ → ℕ) → sum_below (suc n) f ≡ f 0 + sum_below n (λ k. f (suc k))
sum_first zero f = omega arith
sum_first (suc n) f = let rest = sum_first n f in omega (arith, rest)

-- terms past a bound that are zero
pub sum_further : (n m : ℕ) (f : ℕ → ℕ) → m ≤ n → ((k : ℕ) → m ≤ k → k < n → f k ≡ 0) → sum_below n f ≡ sum_below m f
sum_further zero m f le none = ap (λ i. sum_below i f) (let e : zero ≡ m = omega arith in e)
sum_further (suc n) m f le none = ⊎_elim
    (λ below. omega (
      arith,
      none n (omega arith) (omega arith),
      sum_further n m f (omega arith) (λ k from to. none k from (omega arith)),
    ))
    (λ above. ap (λ i. sum_below i f) (let e : suc n ≡ m = omega arith in e))
    (cases_lt m (suc n))

-- the sum of what each element counts with its place, from a number on
abbrev pub sum_each : {A : Type 0} → (ℕ → A → ℕ) → ℕ → List A → ℕ
sum_each g i [] = 0
sum_each g i (x ∷ xs) = g i x + sum_each g (i + 1) xs

-- what the element at a place counts
abbrev pub each_at : {A : Type 0} → (ℕ → A → ℕ) → List A → ℕ → ℕ
each_at g xs k = option_map_or (g k) (slice_get xs k) 0

pub sum_each_below : {A : Type 0} (g : ℕ → A → ℕ) (i : ℕ) (xs : List A)
    → sum_each g i xs ≡ sum_below (length xs) (λ k. option_map_or (g (i + k)) (slice_get xs k) 0)
sum_each_below g i [] = refl
sum_each_below {A} g i (x ∷ xs) =
    let rest = sum_each_below g (i + 1) xs in
    let front = sum_first (length xs) (λ k. option_map_or (g (i + k)) (slice_get (x ∷ xs) k) 0) in
    let here : g (i + 0) x ≡ g i x = ap (λ j. g j x) (omega arith) in
    let same = sum_same (length xs) (λ k. option_map_or (g (i + 1 + k)) (slice_get xs k) 0)
    (λ k. option_map_or (g (i + suc k)) (slice_get xs k) 0)
    (λ k below. ap (λ j. option_map_or (g j) (slice_get xs k) 0) (let e : i + 1 + k ≡ i + suc k = omega arith in e)) in
    omega (arith, rest, front, here, same)
