-- Whether something holds, of one and of each.
use Rattle.std.proofs.Common.{◌≡◌, ◌⊎◌, inl, inr, ℕ, zero, suc, ◌<◌, ◌≤◌, Bool, true, false, List, [], ◌∷◌, All, AllPairs, Option, Some, None, refl, sym, subst, arith, true≢false}
use Rattle.std.specs.Prelude.{IsSomeAnd, IfSome}
use Rattle.std.specs.declared.cmp.Ordering.{Ordering}
use Rattle.std.specs.declared.cmp.Ordering.TheVariants.{Less, Equal, Greater}
use Rattle.std.proofs.lemmas.Bool.{cases_lt}
use Rattle.std.proofs.lemmas.List.Elements.{All-nil, All-cons, All-head, All-tail}
use Rattle.std.proofs.lemmas.List.Kept.{AllPairs-cons}
use Rattle.ob_format_spec.specs.Combinators.{Each}

-- something holds, or it doesn't
abbrev pub Decided : Type 0 → Type 0
Decided A = A ⊎ (¬ A)

pub decided_as : {A B : Type 0} → (A → B) → (B → A) → Decided A → Decided B
decided_as to back (inl a) = inl (to a)
decided_as to back (inr none) = inr (λ b. none (back b))

pub both_decided : {A B : Type 0} → Decided A → Decided B → Decided (A × B)
both_decided (inl a) (inl b) = inl (a, b)
both_decided (inl a) (inr none) = inr (λ both. none both.1)
both_decided (inr none) b = inr (λ both. none both.0)

-- ---- numbers and truth

pub less_decided : (m n : ℕ) → Decided (m < n)
less_decided m n = by (cases_lt m n)
  where
    by : (m < n) ⊎ (n ≤ m) → Decided (m < n)
    by (inl less) = inl less
    by (inr least) = inr (λ less. omega (arith, least, less))

pub at_most_decided : (m n : ℕ) → Decided (m ≤ n)
at_most_decided m n = by (cases_lt n m)
  where
    by : (n < m) ⊎ (m ≤ n) → Decided (m ≤ n)
    by (inl more) = inr (λ most. omega (arith, most, more))
    by (inr most) = inl most

pub true_decided : (b : Bool) → Decided (b ≡ true)
true_decided true = inl refl
true_decided false = inr (λ e. true≢false (sym e))

pub false_decided : (b : Bool) → Decided (b ≡ false)
false_decided true = inr (λ e. true≢false e)
false_decided false = inl refl

pub order_decided : (o : Ordering) → Decided (o ≡ Less)
order_decided Less = inl refl
order_decided Equal = inr (λ e. let z : Equal ≡ Less = e in cc)
order_decided Greater = inr (λ e. let z : Greater ≡ Less = e in cc)

pub nil_decided : {X : Type 0} (xs : List X) → Decided (xs ≡ [])
nil_decided [] = inl refl
nil_decided (x ∷ xs) = inr (λ e. let z : x ∷ xs ≡ [] = e in cc)

-- ---- options

pub some_decided : {X : Type 0} (P : X → Type 0) → ((x : X) → Decided (P x)) → (o : Option X) → Decided (IsSomeAnd o P)
some_decided P one None = inr (λ h. h)
some_decided P one (Some x) = one x

pub if_some_decided : {X : Type 0} (P : X → Type 0) → ((x : X) → Decided (P x)) → (o : Option X) → Decided (IfSome o P)
if_some_decided P one None = inl tt
if_some_decided P one (Some x) = one x

-- ---- lists

cons_decided : {X : Type 0} (P : X → Type 0) (x : X) (xs : List X) → Decided (P x) → Decided (All P xs) → Decided (All P (x ∷ xs))
cons_decided P x xs (inl here) (inl there) = inl (All-cons P x xs here there)
cons_decided P x xs (inl here) (inr none) = inr (λ all. none (All-tail P x xs all))
cons_decided P x xs (inr none) there = inr (λ all. none (All-head P x xs all))

pub all_decided : {X : Type 0} (P : X → Type 0) → ((x : X) → Decided (P x)) → (xs : List X) → Decided (All P xs)
all_decided P one [] = inl (All-nil P)
all_decided P one (x ∷ xs) = cons_decided P x xs (one x) (all_decided P one xs)

-- the same where something else holds of each
pub each_decided : {X : Type 0} (P Q : X → Type 0) → ((x : X) → Q x → Decided (P x)) → (xs : List X) → Each Q xs → Decided (All P xs)
each_decided P Q one [] each = inl (All-nil P)
each_decided P Q one (x ∷ xs) each = cons_decided P x xs (one x each.0) (each_decided P Q one xs each.1)

pairs_cons_decided : {X : Type 0} (R : X → X → Type 0) (x : X) (xs : List X) → Decided (All (R x) xs) → Decided (AllPairs R xs) → Decided (AllPairs R (x ∷ xs))
pairs_cons_decided R x xs (inl here) (inl there) = inl (AllPairs-cons R x xs here there)
pairs_cons_decided R x xs (inl here) (inr none) = inr (λ pairs. none (λ i j d less within. pairs (suc i) (suc j) d (omega (arith, less)) (omega (arith, within))))
pairs_cons_decided R x xs (inr none) there = inr (λ pairs. none (λ k d within. pairs 0 (suc k) d (omega arith) (omega (arith, within))))

pub pairs_decided : {X : Type 0} (R : X → X → Type 0) → ((x y : X) → Decided (R x y)) → (xs : List X) → Decided (AllPairs R xs)
pairs_decided R one [] = inl (λ i j d less within. absurd (omega (arith, within)))
pairs_decided R one (x ∷ xs) = pairs_cons_decided R x xs (all_decided (R x) (one x) xs) (pairs_decided R one xs)

-- ---- numbers below one

abbrev pub AllBelow : (ℕ → Type 0) → ℕ → Type 0
AllBelow P n = (k : ℕ) → k < n → P k

below_or_last : (P : ℕ → Type 0) (n : ℕ) → AllBelow P n → P n → AllBelow P (suc n)
below_or_last P n all last k within = by (cases_lt k n)
  where
    by : (k < n) ⊎ (n ≤ k) → P k
    by (inl less) = all k less
    by (inr least) = let same : n ≡ k = omega (arith, least, within) in subst P same last

next_below_decided : (P : ℕ → Type 0) (n : ℕ) → Decided (P n) → Decided (AllBelow P n) → Decided (AllBelow P (suc n))
next_below_decided P n (inl last) (inl all) = inl (below_or_last P n all last)
next_below_decided P n (inl last) (inr none) = inr (λ all. none (λ k within. all k (omega (arith, within))))
next_below_decided P n (inr none) all = inr (λ every. none (every n (omega arith)))

pub below_decided : (P : ℕ → Type 0) → ((k : ℕ) → Decided (P k)) → (n : ℕ) → Decided (AllBelow P n)
below_decided P one zero = inl (λ k within. absurd (omega (arith, within)))
below_decided P one (suc n) = next_below_decided P n (one n) (below_decided P one n)
