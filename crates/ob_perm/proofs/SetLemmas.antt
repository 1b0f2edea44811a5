-- Tests below a bound.
use Rattle.std.proofs.Common.{◌≡◌, ℕ, zero, suc, ◌<◌, ⊎_elim, Bool, true, false, not, ◌&&◌, ◌||◌, nat_lt, refl, sym, ap, ap₂, ◌∙◌, arith, lt-ltb, le-ltb, le-leb}
use Rattle.std.proofs.Math.Path.{fun_ext}
use Rattle.std.proofs.lemmas.Bool.{cases_lt, lt-leb, and_parts, or_cases, or_left, or_right, and_from}
use Rattle.ob_perm.specs.States.{any_below, all_below, unnamed, anywhere}

-- a test at the last number or below it
last_or_below : {P : Type 0} (n i : ℕ) → i < suc n → (i ≡ n → P) → (i < n → P) → P
last_or_below n i h last below =
    ⊎_elim below (λ more. last (omega (arith, h, more))) (cases_lt i n)

-- What holds of each number below a bound holds of one.
pub all_below_at : (n : ℕ) (f : ℕ → Bool) → all_below n f ≡ true → (i : ℕ) → i < n → f i ≡ true
all_below_at zero f e i h = absurd (omega arith)
all_below_at (suc n) f e i h = let parts = and_parts (f n) (all_below n f) e
    in last_or_below n i h (λ same. ap f same ∙ parts.0) (λ below. all_below_at n f parts.1 i below)

pub all_below_from : (n : ℕ) (f : ℕ → Bool) → ((i : ℕ) → i < n → f i ≡ true) → all_below n f ≡ true
all_below_from zero f e = refl
all_below_from (suc n) f e =
    and_from (f n) (all_below n f) (e n (omega arith)) (all_below_from n f (λ i h. e i (omega (arith, h))))

-- A test that holds below a bound holds of some number.
pub any_below_at : (n : ℕ) (f : ℕ → Bool) → any_below n f ≡ true → (i : ℕ) × (i < n) × (f i ≡ true)
any_below_at zero f e = absurd cc
any_below_at (suc n) f e = ⊎_elim
    (λ last. (n, omega arith, last))
    (λ below. let some : (i : ℕ) × (i < n) × (f i ≡ true) = any_below_at n f below in (some.0, omega (arith, some.1), some.2))
    (or_cases (f n) (any_below n f) e)

pub any_below_from : (n : ℕ) (f : ℕ → Bool) (i : ℕ) → i < n → f i ≡ true → any_below n f ≡ true
any_below_from zero f i h e = absurd (omega arith)
any_below_from (suc n) f i h e = last_or_below n i h
    (λ same. or_left (f n) (any_below n f) (ap f (sym same) ∙ e))
    (λ below. or_right (f n) (any_below n f) (any_below_from n f i below e))

-- Two tests that agree below a bound give one answer.
pub all_below_same : (n : ℕ) (f g : ℕ → Bool) → ((i : ℕ) → i < n → f i ≡ g i) → all_below n f ≡ all_below n g
all_below_same zero f g e = refl
all_below_same (suc n) f g e = ap₂ (λ x y. x && y) (e n (omega arith)) (all_below_same n f g (λ i h. e i (omega (arith, h))))

pub anywhere-below : (λ (i : ℕ). nat_lt i unnamed) ≡ anywhere
anywhere-below = fun_ext (λ i. ⊎_elim
    (λ below. lt-ltb i 33 below ∙ sym (le-leb i 32 (omega (arith, below))))
    (λ above. le-ltb i 33 above ∙ sym (lt-leb i 32 (omega (arith, above))))
    (cases_lt i 33))

-- Of no number below a bound: not of each that it isn't.
pub not-all_below : (n : ℕ) (f : ℕ → Bool) → not (all_below n (λ i. not (f i))) ≡ any_below n f
not-all_below zero f = refl
not-all_below (suc n) f = not_and (f n) (all_below n (λ i. not (f i))) ∙ ap (λ b. f n || b) (not-all_below n f)
  where
    not_and : (x y : Bool) → not (not x && y) ≡ (x || not y)
    not_and true y = refl
    not_and false y = refl
