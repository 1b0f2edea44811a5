-- Premises that hold, taken apart and put together.
use Rattle.std.proofs.Common.{◌≡◌, ℕ, zero, suc, ◌<◌, Bool, true, false, List, [], ◌∷◌, ◌++◌, Option, Some, None, Result, Ok, Err, Contains, refl, arith, subst, sym}
use Rattle.std.specs.Prelude.{nat_eq, slice_get, if◌then◌else◌}
use Rattle.ob_base.specs.declared.fault.ProgramFault.{ProgramFault}
use Rattle.ob_base.specs.declared.fault.Span.{Span}
use Rattle.ob_flow_spec.specs.Premises.{Premise, one, each, for_all, first_failing, unless, checked, ◌>>=◌}
use Rattle.ob_flow_laws.specs.Premises.{Hold}
use Rattle.ob_flow_laws.proofs.Tests.{same_number}

-- None fails where all hold, and the other way round.

first_holds : (p : Premise) (ps : List Premise) → (first_failing ps ≡ None → Hold ps) → (b : Bool) → p.condition ≡ b
    → (if b then first_failing ps else Some p.fault) ≡ None → Hold (p ∷ ps)
first_holds p ps go true e f = (e, go f)
first_holds p ps go false e f = absurd (cc)

pub all_hold : (ps : List Premise) → first_failing ps ≡ None → Hold ps
all_hold [] f = tt
all_hold (p ∷ ps) f = first_holds p ps (all_hold ps) p.condition refl f

pub none_fails : (ps : List Premise) → Hold ps → first_failing ps ≡ None
none_fails [] h = refl
none_fails (p ∷ ps) h = rw h.0 (none_fails ps h.1)

-- Checked premises.

then_holds : {A B : Type 0} (p : Premise) (ps : List Premise) (x : A) (f : A → Result B ProgramFault) (y : B)
    → ((checked ps x >>= f) ≡ Ok y → Hold ps × (f x ≡ Ok y)) → (b : Bool) → p.condition ≡ b
    → (unless (if b then first_failing ps else Some p.fault) x >>= f) ≡ Ok y
    → Hold (p ∷ ps) × (f x ≡ Ok y)
then_holds p ps x f y go true e h = let r = go h in ((e, r.0), r.1)
then_holds p ps x f y go false e h = absurd (cc)

-- what follows checked premises
pub checked_then : {A B : Type 0} (ps : List Premise) (x : A) (f : A → Result B ProgramFault) (y : B)
    → (checked ps x >>= f) ≡ Ok y → Hold ps × (f x ≡ Ok y)
checked_then [] x f y h = (tt, h)
checked_then (p ∷ ps) x f y h = then_holds p ps x f y (checked_then ps x f y) p.condition refl h

ok_again : {A : Type 0} (r : Result A ProgramFault) → (r >>= (λ x. Ok x)) ≡ r
ok_again (Ok x) = refl
ok_again (Err e) = refl

pub ok_same : {A : Type 0} (x y : A) → ◌≡◌ {A = Result A ProgramFault} (Ok x) (Ok y) → x ≡ y
ok_same x y e = cc

pub checked_holds : {A : Type 0} (ps : List Premise) (x y : A) → checked ps x ≡ Ok y → Hold ps × (x ≡ y)
checked_holds ps x y h =
    let r = checked_then ps x (λ z. Ok z) y (rw (ok_again (checked ps x)) h) in (r.0, ok_same x y r.1)

pub checked_ok : {A : Type 0} (ps : List Premise) (x : A) → Hold ps → checked ps x ≡ Ok x
checked_ok ps x h = rw (none_fails ps h) refl

-- what comes before another step
pub bind_ok : {A B : Type 0} (r : Result A ProgramFault) (f : A → Result B ProgramFault) (y : B) → (r >>= f) ≡ Ok y
    → (x : A) × (r ≡ Ok x) × (f x ≡ Ok y)
bind_ok (Ok x) f y h = (x, refl, h)
bind_ok (Err e) f y h = absurd (cc)

-- One list after another.

pub both_hold : (ps qs : List Premise) → Hold (ps ++ qs) → Hold ps × Hold qs
both_hold [] qs h = (tt, h)
both_hold (p ∷ ps) qs h = let r = both_hold ps qs h.1 in ((h.0, r.0), r.1)

pub hold_both : (ps qs : List Premise) → Hold ps → Hold qs → Hold (ps ++ qs)
hold_both [] qs h k = k
hold_both (p ∷ ps) qs h k = (h.0, hold_both ps qs h.1 k)

-- One premise.

pub one_holds : (number : ℕ) (place : Span) (b : Bool) → Hold (one number place b) → b ≡ true
one_holds number place b h = h.0

pub hold_one : (number : ℕ) (place : Span) (b : Bool) → b ≡ true → Hold (one number place b)
hold_one number place b h = (h, tt)

-- Premises for each number.

lower_number : (k n : ℕ) → k < suc n → nat_eq k n ≡ false → k < n
lower_number k n lt e = grind arith

one_of : (n : ℕ) (says : ℕ → List Premise) (k : ℕ) → k < suc n → (k < n → Hold (says k)) → Hold (says n) → (b : Bool)
    → nat_eq k n ≡ b → Hold (says k)
one_of n says k lt go h true e = subst (λ j. Hold (says j)) (sym (same_number k n e)) h
one_of n says k lt go h false e = go (lower_number k n lt e)

pub each_holds : (n : ℕ) (says : ℕ → List Premise) → Hold (each n says) → (k : ℕ) → k < n → Hold (says k)
each_holds zero says h k lt = absurd (omega arith)
each_holds (suc n) says h k lt =
    let r = both_hold (each n says) (says n) h in
    one_of n says k lt (λ less. each_holds n says r.0 k less) r.1 (nat_eq k n) refl

pub hold_each : (n : ℕ) (says : ℕ → List Premise) → ((k : ℕ) → k < n → Hold (says k)) → Hold (each n says)
hold_each zero says h = tt
hold_each (suc n) says h =
    hold_both (each n says) (says n) (hold_each n says (λ k lt. h k (omega arith))) (h n (omega arith))

-- Premises for each thing of a list.

pub found_first : {A : Type 0} (x y : A) → ◌≡◌ {A = Option A} (Some x) (Some y) → x ≡ y
found_first x y e = cc

pub for_all_at : {A : Type 0} (xs : List A) (says : A → List Premise) → Hold (for_all xs says) → (k : ℕ) (x : A)
    → slice_get xs k ≡ Some x → Hold (says x)
for_all_at [] says h k x e = absurd (cc)
for_all_at (y ∷ ys) says h zero x e =
    subst (λ z. Hold (says z)) (found_first y x e) (both_hold (says y) (for_all ys says) h).0
for_all_at (y ∷ ys) says h (suc k) x e = for_all_at ys says (both_hold (says y) (for_all ys says) h).1 k x e

pub for_all_holds : {A : Type 0} (xs : List A) (says : A → List Premise) → Hold (for_all xs says) → (x : A)
    → Contains xs x → Hold (says x)
for_all_holds [] says h x c = absurd (let l = c.1 in omega arith)
for_all_holds (y ∷ ys) says h x (zero, l, e) = subst (λ z. Hold (says z)) e (both_hold (says y) (for_all ys says) h).0
for_all_holds (y ∷ ys) says h x (suc k, l, e) =
    for_all_holds ys says (both_hold (says y) (for_all ys says) h).1 x (k, (omega arith), e)

pub contains_first : {A : Type 0} (y : A) (ys : List A) → Contains (y ∷ ys) y
contains_first y ys = (0, omega arith, refl)

pub contains_later : {A : Type 0} (y : A) (ys : List A) (x : A) → Contains ys x → Contains (y ∷ ys) x
contains_later y ys x c = let l = c.1 in (suc c.0, omega arith, c.2)

pub contains_at : {A : Type 0} (xs : List A) (k : ℕ) (x : A) → slice_get xs k ≡ Some x → Contains xs x
contains_at [] k x e = absurd (cc)
contains_at (y ∷ ys) zero x e = (0, omega arith, found_first y x e)
contains_at (y ∷ ys) (suc k) x e = contains_later y ys x (contains_at ys k x e)

pub hold_for_all : {A : Type 0} (xs : List A) (says : A → List Premise) → ((x : A) → Contains xs x → Hold (says x))
    → Hold (for_all xs says)
hold_for_all [] says h = tt
hold_for_all (y ∷ ys) says h =
    hold_both (says y) (for_all ys says) (h y (contains_first y ys))
    (hold_for_all ys says (λ x c. h x (contains_later y ys x c)))
