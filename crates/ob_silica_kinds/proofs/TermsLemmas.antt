-- Terms, turn by turn.
use Rattle.std.proofs.Common.{◌≡◌, ℕ, suc, ◌+◌, ◌<◌, ◌≤◌, Bool, true, false, List, ◌∷◌, length, drop, get_or, refl, sym, ap, ◌∙◌, add-one, drop-cons}
use Rattle.std.specs.Prelude.{◌||◌}
use Rattle.std.proofs.Math.ListN.{drop_of_length-le}
use Rattle.ob_silica.specs.Terms.{and_term}
use Rattle.ob_silica.specs.TermsView.{form_of, terms_of, term_of-fields}
use Rattle.ob_silica.specs.declared.term.Term.{Term}
use Rattle.ob_silica_formed.specs.Holdings.{form_ends, terms_end}
use Rattle.ob_table_spec.specs.WellFormed.{StaticFrame}
use Rattle.ob_silica_kinds.specs.Kinds.{Kinds, kinds_after_form, kinds_after}

first : (t : Term) (rest : List Term) → terms_of (t ∷ rest) ≡ and_term (form_of t.form) t.span (terms_of rest)
first t rest = ap (λ x. and_term x.0 x.1 (terms_of rest)) (term_of-fields t)

pub terms_dropped : (xs : List Term) (i : ℕ) (t : Term) → i < length xs → t ≡ get_or xs i t
    → terms_of (drop i xs) ≡ and_term (form_of t.form) t.span (terms_of (drop (i + 1) xs))
terms_dropped xs i t h is = rw add-one (ap terms_of (drop-cons xs i t h ∙ ap (λ y. y ∷ drop (suc i) xs) (sym is))
    ∙ first t (drop (suc i) xs))

or_assoc : (a b c : Bool) → ((a || b) || c) ≡ (a || (b || c))
or_assoc true b c = refl
or_assoc false b c = refl

-- one term more: whether an end is among them
pub ends_turn : (xs : List Term) (i : ℕ) (t : Term) (before last now : Bool) → i < length xs → t ≡ get_or xs i t
    → last ≡ form_ends (form_of t.form) → now ≡ (before || last)
    → (before || terms_end (terms_of (drop i xs))) ≡ terms_end (terms_of xs)
    → (now || terms_end (terms_of (drop (i + 1) xs))) ≡ terms_end (terms_of xs)
ends_turn xs i t before last now h is l n e =
    ap (λ b. b || terms_end (terms_of (drop (i + 1) xs))) n
    ∙ ap (λ b. (before || b) || terms_end (terms_of (drop (i + 1) xs))) l
    ∙ or_assoc before (form_ends (form_of t.form)) (terms_end (terms_of (drop (i + 1) xs)))
    ∙ sym (ap (λ ts. before || terms_end ts) (terms_dropped xs i t h is))
    ∙ e

-- one term more: the kinds
pub kinds_turn : (f : StaticFrame) (xs : List Term) (i : ℕ) (t : Term) (kinds next whole : Kinds) → i < length xs
    → t ≡ get_or xs i t
    → next ≡ kinds_after_form f (form_of t.form) kinds
    → kinds_after f (terms_of (drop i xs)) kinds ≡ whole
    → kinds_after f (terms_of (drop (i + 1) xs)) next ≡ whole
kinds_turn f xs i t kinds next whole h is n e =
    ap (λ ks. kinds_after f (terms_of (drop (i + 1) xs)) ks) n
    ∙ sym (ap (λ ts. kinds_after f ts kinds) (terms_dropped xs i t h is))
    ∙ e

-- no term is left
pub kinds_done : (f : StaticFrame) (xs : List Term) (i : ℕ) (kinds whole : Kinds) → length xs ≤ i
    → kinds_after f (terms_of (drop i xs)) kinds ≡ whole → kinds ≡ whole
kinds_done f xs i kinds whole h e = sym (ap (λ ts. kinds_after f (terms_of ts) kinds) (drop_of_length-le xs h)) ∙ e
