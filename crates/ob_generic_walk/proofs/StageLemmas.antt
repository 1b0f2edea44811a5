-- The instances one after another: each stage is the front of what it needs, and the last is all instances.
use Rattle.std.proofs.Common.{◌≡◌, ℕ, ◌≤◌, List, [], ◌∷◌, ◌++◌, Option, Some, None, refl, ap, sym, ◌∙◌, take, zero, suc, arith}
use Rattle.std.specs.Prelude.{slice_get}
use Rattle.ob_base.specs.Limits.{most_instances}
use Rattle.ob_resolve_spec.specs.Declarations.{Program}
use Rattle.ob_generic_spec.specs.Instances.{needed_by, round, rounds, instances_of}
use Rattle.ob_generic_spec.specs.declared.instance.Instance.{Instance}
use Rattle.ob_generic_laws.proofs.Prefixes.{Starts, starts_self, starts_trans, starts_both}
use Rattle.ob_generic_laws.proofs.Rounds.{needed_by_starts, round_starts, rounds_within}
use Rattle.ob_generic_walk.specs.Stages.{stage}

taken_one : {A : Type 0} (n : ℕ) (xs : List A) (x : A) → slice_get xs n ≡ Some x → take (suc n) xs ≡ take n xs ++ x ∷ []
taken_one zero [] x e = absurd (cc e)
taken_one zero (y ∷ ys) x e = cc e
taken_one (suc n) [] x e = absurd (cc e)
taken_one (suc n) (y ∷ ys) x e = ap (λ l. y ∷ l) (taken_one n ys x e)

taken_all : {A : Type 0} (n : ℕ) (xs : List A) → slice_get xs n ≡ None → (take n xs ≡ xs) × (take (suc n) xs ≡ xs)
taken_all zero [] e = (refl, refl)
taken_all zero (y ∷ ys) e = absurd (cc e)
taken_all (suc n) [] e = (refl, refl)
taken_all (suc n) (y ∷ ys) e = let r = taken_all n ys e in (ap (λ l. y ∷ l) r.0, ap (λ l. y ∷ l) r.1)

-- what comes after it doesn't change what was taken
taken_front : {A : Type 0} (n : ℕ) (xs more : List A) (x : A) → slice_get xs n ≡ Some x
    → take (suc n) (xs ++ more) ≡ take (suc n) xs
taken_front zero [] more x e = absurd (cc e)
taken_front zero (y ∷ ys) more x e = refl
taken_front (suc n) [] more x e = absurd (cc e)
taken_front (suc n) (y ∷ ys) more x e = ap (λ l. y ∷ l) (taken_front n ys more x e)

take_fewer : {A : Type 0} (m n : ℕ) (xs : List A) → m ≤ n → Starts (take m xs) (take n xs)
take_fewer zero n xs h = (take n xs, refl)
take_fewer (suc m) zero xs h = absurd (omega (arith, h))
take_fewer (suc m) (suc n) [] h = ([], refl)
take_fewer (suc m) (suc n) (x ∷ xs) h = let r = take_fewer m n xs (omega (arith, h)) in (r.0, ap (λ l. x ∷ l) r.1)

abbrev IsFront : Program → ℕ → Type 0
IsFront program n = stage program n ≡ take n (needed_by program (stage program n))

some_step : (program : Program) (n : ℕ) (x : Instance) → IsFront program n
    → slice_get (needed_by program (stage program n)) n ≡ Some x → stage program (suc n) ≡ stage program n ++ x ∷ []
some_step program n x front e =
    taken_one n (needed_by program (stage program n)) x e ∙ ap (λ l. l ++ x ∷ []) (sym front)

none_step : (program : Program) (n : ℕ) → IsFront program n
    → slice_get (needed_by program (stage program n)) n ≡ None → stage program (suc n) ≡ stage program n
none_step program n front e =
    let r = taken_all n (needed_by program (stage program n)) e in r.1 ∙ sym r.0 ∙ sym front

-- a stage is the front of what it needs
pub stage_front : (program : Program) (n : ℕ) → stage program n ≡ take n (needed_by program (stage program n))
stage_front program zero = refl
stage_front program (suc n) = by (stage_front program n) (slice_get (needed_by program (stage program n)) n) refl
  where
    by : IsFront program n → (o : Option Instance) → slice_get (needed_by program (stage program n)) n ≡ o
        → IsFront program (suc n)
    by front None e = ap (λ s. take (suc n) (needed_by program s)) (sym (none_step program n front e))
    by front (Some x) e =
        let more = needed_by_starts program (stage program n) (stage program (suc n))
        (x ∷ [], some_step program n x front e) in
        sym (ap (take (suc n)) more.1 ∙ taken_front n (needed_by program (stage program n)) more.0 x e)

pub stage_some : (program : Program) (n : ℕ) (x : Instance) → slice_get (needed_by program (stage program n)) n ≡ Some x
    → stage program (suc n) ≡ stage program n ++ x ∷ []
stage_some program n x e = some_step program n x (stage_front program n) e

pub stage_none : (program : Program) (n : ℕ) → slice_get (needed_by program (stage program n)) n ≡ None
    → stage program (suc n) ≡ stage program n
stage_none program n e = none_step program n (stage_front program n) e

stage_within : (program : Program) (n : ℕ) → n ≤ most_instances → Starts (stage program n) (rounds program n)
stage_within program zero h = starts_self []
stage_within program (suc n) h =
    starts_trans (stage program (suc n)) (round program (stage program n)) (rounds program (suc n))
    (take_fewer (suc n) most_instances (needed_by program (stage program n)) h)
    (round_starts program (stage program n) (rounds program n) (stage_within program n (omega (arith, h))))

stage_rounds : (program : Program) (n : ℕ) → n ≡ most_instances → stage program n ≡ rounds program n
stage_rounds program n e =
    starts_both (stage program n) (rounds program n) (stage_within program n (omega (arith, e)))
    (rounds_within program n (stage program n)
    (stage_front program n ∙ ap (λ m. take m (needed_by program (stage program n))) e))

-- the last stage is the instances
pub stage_last : (program : Program) → stage program most_instances ≡ instances_of program
unfolding instances_of
stage_last program = stage_rounds program most_instances refl
