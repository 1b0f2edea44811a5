-- Sums at the numbers below a bound, and where one of them changes.
use Rattle.std.proofs.Common.{◌≡◌, ◌≢◌, ℕ, zero, suc, ◌+◌, ◌<◌, ◌≤◌, ⊎_elim, refl, sym, ap, ◌∙◌, subst, arith, eq-eqb, ne_eqb}
use Rattle.std.proofs.lemmas.Bool.Decides.{eqb_tells}
use Rattle.ob_silica_places.specs.Known.{at}
use Rattle.ob_coherent_spec.specs.Counting.{sum_below}

-- One of many things changes.

pub at_same : {A : Type 0} (xs : ℕ → A) (k : ℕ) (x : A) → at xs k x k ≡ x
at_same xs k x = rw (eq-eqb k k refl)

pub at_other : {A : Type 0} (xs : ℕ → A) (k : ℕ) (x : A) (n : ℕ) → n ≢ k → at xs k x n ≡ xs n
at_other xs k x n other = rw (ne_eqb n k other)

-- Sums.

pub sum_same : (n : ℕ) (f g : ℕ → ℕ) → ((k : ℕ) → k < n → f k ≡ g k) → sum_below n f ≡ sum_below n g
sum_same zero f g same = refl
sum_same (suc n) f g same = rw (same n (omega arith), sum_same n f g (λ k below. same k (omega arith)))

pub sum_at_most : (n : ℕ) (f g : ℕ → ℕ) → ((k : ℕ) → k < n → f k ≤ g k) → sum_below n f ≤ sum_below n g
sum_at_most zero f g less = omega arith
sum_at_most (suc n) f g less =
    omega (arith, less n (omega arith), sum_at_most n f g (λ k below. less k (omega arith)))

-- where two functions differ at one number alone
pub sum_but_one : (n k : ℕ) (f g : ℕ → ℕ) → k < n → ((i : ℕ) → i < n → i ≢ k → f i ≡ g i)
    → sum_below n f + g k ≡ sum_below n g + f k
sum_but_one zero k f g below same = absurd (omega arith)
sum_but_one (suc n) k f g below same = ⊎_elim
    (λ e. subst (λ m. f m + sum_below n f + g k ≡ g m + sum_below n g + f k) (sym e.1)
    (let rest : sum_below n f ≡ sum_below n g = sum_same n f g (λ i less. same i (omega arith)
    (λ z. absurd (omega (arith, e.1)))) in omega arith))
    (λ e. let here : f n ≡ g n = same n (omega arith) e.1 in
    let ne : n ≢ k = e.1 in
    omega (arith, sum_but_one n k f g (omega arith) (λ i less. same i (omega arith))))
    (eqb_tells n k)

-- one of many things that are counted changes
pub sum_at : {A : Type 0} (F : A → ℕ) (n k : ℕ) (xs : ℕ → A) (x : A) → k < n
    → sum_below n (λ i. F (at xs k x i)) + F (xs k) ≡ sum_below n (λ i. F (xs i)) + F x
sum_at F n k xs x below =
    subst (λ m. sum_below n (λ i. F (at xs k x i)) + F (xs k) ≡ sum_below n (λ i. F (xs i)) + F m) (at_same xs k x)
    (sum_but_one n k (λ i. F (at xs k x i)) (λ i. F (xs i)) below (λ i less other. ap F (at_other xs k x i other)))

pub sum_zero : (n : ℕ) (f : ℕ → ℕ) → ((k : ℕ) → k < n → f k ≡ 0) → sum_below n f ≡ 0
sum_zero zero f none = refl
sum_zero (suc n) f none = omega (arith, none n (omega arith), sum_zero n f (λ k below. none k (omega arith)))

-- a term is at most the sum
pub term_at_most : (n : ℕ) (f : ℕ → ℕ) (k : ℕ) → k < n → f k ≤ sum_below n f
term_at_most zero f k below = absurd (omega arith)
term_at_most (suc n) f k below = ⊎_elim
    (λ e. subst (λ m. f m ≤ f n + sum_below n f) e.1 (omega arith))
    (λ e. let ne : n ≢ k = e.1 in omega (arith, term_at_most n f k (omega arith)))
    (eqb_tells n k)

-- two terms are at most the sum
pub terms_at_most : (n : ℕ) (f : ℕ → ℕ) (j k : ℕ) → j < n → k < n → j ≢ k → f j + f k ≤ sum_below n f
terms_at_most zero f j k bj bk other = absurd (omega arith)
terms_at_most (suc n) f j k bj bk other = ⊎_elim
    (λ e. subst (λ m. f m + f k ≤ f n + sum_below n f) e.1
    (let ne : n ≢ k = (λ z. other (sym e.1 ∙ z)) in omega (arith, term_at_most n f k (omega arith))))
    (λ e. let ne : n ≢ j = e.1 in ⊎_elim
    (λ d. subst (λ m. f j + f m ≤ f n + sum_below n f) d.1 (omega (arith, term_at_most n f j (omega arith))))
    (λ d. let nk : n ≢ k = d.1 in omega (arith, terms_at_most n f j k (omega arith) (omega arith) other))
    (eqb_tells n k))
    (eqb_tells n j)

pub terms_zero : (n : ℕ) (f : ℕ → ℕ) → sum_below n f ≡ 0 → (k : ℕ) → k < n → f k ≡ 0
terms_zero n f none k below = omega (arith, term_at_most n f k below)

-- a positive sum has a positive term
pub term_of : (n : ℕ) (f : ℕ → ℕ) → 0 < sum_below n f → (k : ℕ) × (k < n) × (0 < f k)
term_of zero f some = absurd (omega arith)
term_of (suc n) f some =
    go (f n) refl (λ rest. let r = term_of n f rest in (r.0, omega (arith, r.1), r.2))
  where
    go : (m : ℕ) → f n ≡ m → (0 < sum_below n f → (k : ℕ) × (k < suc n) × (0 < f k)) → (k : ℕ) × (k < suc n) × (0 < f k)
    go zero e more = more (omega arith)
    go (suc m) e more = (n, omega arith, omega arith)

-- a sum of at most 1 has no positive term but one
pub no_other_term : (n : ℕ) (f : ℕ → ℕ) → sum_below n f ≤ 1 → (j k : ℕ) → j < n → k < n → 0 < f j → j ≢ k → f k ≡ 0
no_other_term n f one j k bj bk some other = omega (arith, terms_at_most n f j k bj bk other)
