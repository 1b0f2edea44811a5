-- Terms put one after the other.
use Rattle.std.proofs.Common.{◌≡◌, ◌≤◌, ◌<◌, ℕ, ◌+◌, zero, suc, List, [], ◌∷◌, ◌++◌, length, drop, get_or, refl, ap, sym, ◌∙◌, arith, add-one, drop-cons}
use Rattle.ob_base.specs.declared.fault.Span.{Span}
use Rattle.ob_lower_spec.specs.Forms.{drops}
use Rattle.ob_lower_functions.specs.Progress.{with_term}
use Rattle.ob_silica.specs.Terms.{SilicaTerms, no_terms, and_term, then_terms, one_term, drop_form}
use Rattle.ob_silica.specs.TermsView.{form_of, term_of, terms_of, term_of-fields, term_views}
use Rattle.ob_silica.specs.declared.term.Term.{Term}

-- one more term
pub terms_of-push : (ts : List Term) (t : Term) → terms_of (ts ++ t ∷ []) ≡ then_terms (terms_of ts) (one_term (form_of t.form) t.span)
terms_of-push [] t = ap (λ x. and_term x.0 x.1 no_terms) (term_of-fields t)
terms_of-push (u ∷ ts) t = ap (λ rest. and_term (term_of u).0 (term_of u).1 rest) (terms_of-push ts t)

pub then_terms-assoc : (a b c : SilicaTerms) → then_terms (then_terms a b) c ≡ then_terms a (then_terms b c)
then_terms-assoc no_terms b c = refl
then_terms-assoc (and_term form span rest) b c = ap (λ ts. and_term form span ts) (then_terms-assoc rest b c)

pub then_terms-none : (a : SilicaTerms) → then_terms a no_terms ≡ a
then_terms-none no_terms = refl
then_terms-none (and_term form span rest) = ap (λ ts. and_term form span ts) (then_terms-none rest)

pub ruleset views = (term_views, terms_of-push)

pub drop-all : {A : Type 0} (l : List A) (i : ℕ) → length l ≤ i → drop i l ≡ []
drop-all [] zero h = refl
drop-all [] (suc i) h = refl
drop-all (x ∷ l) zero h = absurd (omega arith)
drop-all (x ∷ l) (suc i) h = drop-all l i (omega arith)

-- one more slot is dropped
pub drops-step : (out : SilicaTerms) (ks : List ℕ) (i : ℕ) (span : Span) → i < length ks
    → then_terms (with_term out (drop_form (get_or ks i 0)) span) (drops (drop (i + 1) ks) span)
    ≡ then_terms out (drops (drop i ks) span)
drops-step out ks i span h =
    then_terms-assoc out (one_term (drop_form (get_or ks i 0)) span) (drops (drop (i + 1) ks) span)
    ∙ ap (λ k. then_terms out (and_term (drop_form (get_or ks i 0)) span (drops (drop k ks) span))) (add-one i)
    ∙ sym (ap (λ l. then_terms out (drops l span)) (drop-cons ks i 0 h))

-- all are dropped
pub drops-all : (out : SilicaTerms) (ks : List ℕ) (i : ℕ) (span : Span) → length ks ≤ i
    → then_terms out (drops (drop i ks) span) ≡ out
drops-all out ks i span h = ap (λ l. then_terms out (drops l span)) (drop-all ks i h) ∙ then_terms-none out

pub ruleset code = (then_terms-assoc, then_terms-none)

-- what the terms of lists are
pub ruleset terms = (term_views, terms_of-push, then_terms-none)
