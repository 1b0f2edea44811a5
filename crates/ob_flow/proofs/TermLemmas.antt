-- Terms, turn by turn: what is left, with the context so far.
use Rattle.std.proofs.Common.{◌≡◌, ℕ, suc, ◌+◌, ◌<◌, ◌≤◌, List, ◌∷◌, length, drop, get_or, Some, None, Ok, refl, sym, ap, ◌∙◌, subst, add-one, drop-cons}
use Rattle.std.proofs.Math.ListN.{drop_of_length-le}
use Rattle.ob_silica.specs.Terms.{and_term}
use Rattle.ob_silica.specs.TermsView.{form_of, terms_of, term_of-fields}
use Rattle.ob_silica.specs.declared.term.Term.{Term}
use Rattle.ob_flow_spec.specs.Premises.{◌>>=◌}
use Rattle.ob_flow_spec.specs.Contexts.{BodyFrame, Context, TestedPlaces}
use Rattle.ob_flow_spec.specs.Numbered.{NamesStates, AllNameStates}
use Rattle.ob_flow_spec.specs.Deriving.{if_reached, derive, derive_all}
use Rattle.ob_base.specs.declared.text_error.TextError.{TextError}
use Rattle.ob_base.specs.declared.text_error.TextError.TheVariants.{Fault, Memory}
use Rattle.ob_flow.specs.Outcomes.{FailsWith}

first : (t : Term) (rest : List Term) → terms_of (t ∷ rest) ≡ and_term (form_of t.form) t.span (terms_of rest)
first t rest = ap (λ x. and_term x.0 x.1 (terms_of rest)) (term_of-fields t)

here : (xs : List Term) (i : ℕ) (t : Term) → i < length xs → t ≡ get_or xs i t
    → terms_of (drop i xs) ≡ and_term (form_of t.form) t.span (terms_of (drop (i + 1) xs))
here xs i t h is = rw add-one (ap terms_of (drop-cons xs i t h ∙ ap (λ y. y ∷ drop (suc i) xs) (sym is)) ∙ first t (drop (suc i) xs))

-- the terms that are left lead from this context to the outcome of all, and name states
pub record Left (b : BodyFrame) (ts : TestedPlaces) (xs : List Term) (start : Context) (i : ℕ) (g : Context) : Type 0 where
  pub same : derive_all b ts (terms_of xs) start ≡ derive_all b ts (terms_of (drop i xs)) g
  pub names : AllNameStates (terms_of (drop i xs))

pub left_none : (b : BodyFrame) (ts : TestedPlaces) (xs : List Term) (g : Context) → AllNameStates (terms_of xs) → Left b ts xs g 0 g
left_none b ts xs g n = record { same = refl; names = n }

pub left_names : (b : BodyFrame) (ts : TestedPlaces) (xs : List Term) (start : Context) (i : ℕ) (g : Context) (t : Term) → i < length xs
    → t ≡ get_or xs i t → Left b ts xs start i g → NamesStates (form_of t.form)
left_names b ts xs start i g t h is l = (subst AllNameStates (here xs i t h is) l.names).0

step : (b : BodyFrame) (ts : TestedPlaces) (xs : List Term) (start : Context) (i : ℕ) (g : Context) (t : Term) → i < length xs
    → t ≡ get_or xs i t → Left b ts xs start i g
    → derive_all b ts (terms_of xs) start
    ≡ (derive b ts (form_of t.form) t.span g >>= (λ left. if_reached left (λ h. derive_all b ts (terms_of (drop (i + 1) xs)) h)))
step b ts xs start i g t h is l = l.same ∙ ap (λ x. derive_all b ts x g) (here xs i t h is)

pub left_turn : (b : BodyFrame) (ts : TestedPlaces) (xs : List Term) (start : Context) (i : ℕ) (g next : Context) (t : Term) → i < length xs
    → t ≡ get_or xs i t → derive b ts (form_of t.form) t.span g ≡ Ok (Some next) → Left b ts xs start i g
    → Left b ts xs start (i + 1) next
left_turn b ts xs start i g next t h is d l = record {
  same = step b ts xs start i g t h is l ∙ ap (λ r. r >>= (λ left. if_reached left (λ h. derive_all b ts (terms_of (drop (i + 1) xs)) h))) d;
  names = (subst AllNameStates (here xs i t h is) l.names).1;
}

pub left_ends : (b : BodyFrame) (ts : TestedPlaces) (xs : List Term) (start : Context) (i : ℕ) (g : Context) (t : Term) → i < length xs
    → t ≡ get_or xs i t → derive b ts (form_of t.form) t.span g ≡ Ok None → Left b ts xs start i g
    → derive_all b ts (terms_of xs) start ≡ Ok None
left_ends b ts xs start i g t h is d l =
    step b ts xs start i g t h is l ∙ ap (λ r. r >>= (λ left. if_reached left (λ h. derive_all b ts (terms_of (drop (i + 1) xs)) h))) d

pub left_fails : (b : BodyFrame) (ts : TestedPlaces) (xs : List Term) (start : Context) (i : ℕ) (g : Context) (t : Term) (e : TextError)
    → i < length xs → t ≡ get_or xs i t → FailsWith e (derive b ts (form_of t.form) t.span g) → Left b ts xs start i g
    → FailsWith e (derive_all b ts (terms_of xs) start)
left_fails b ts xs start i g t (Fault f) h is d l =
    step b ts xs start i g t h is l ∙ ap (λ r. r >>= (λ left. if_reached left (λ h. derive_all b ts (terms_of (drop (i + 1) xs)) h))) d
left_fails b ts xs start i g t Memory h is d l = d

pub left_all : (b : BodyFrame) (ts : TestedPlaces) (xs : List Term) (start : Context) (i : ℕ) (g : Context) → length xs ≤ i
    → Left b ts xs start i g → derive_all b ts (terms_of xs) start ≡ Ok (Some g)
left_all b ts xs start i g le l = l.same ∙ ap (λ ys. derive_all b ts (terms_of ys) g) (drop_of_length-le xs le)

pub ruleset terms = (left_none, left_names, left_turn, left_ends, left_fails, left_all)
