-- The slots of a block's own variables are dropped, the last one first.
use Rattle.std.proofs.Common.{◌≡◌, ◌≤◌, ℕ, ◌+◌, zero, suc, [], ◌∷◌, ap, sym, ◌∙◌, arith, add-one}
use Rattle.std.specs.Prelude.{if◌then◌else◌}
use Rattle.std.proofs.lemmas.Bool.{le-leb, lt-leb}
use Rattle.ob_base.specs.declared.fault.Span.{Span}
use Rattle.ob_silica.specs.Terms.{SilicaTerms, then_terms, one_term, drop_form}
use Rattle.ob_lower_spec.specs.Forms.{drops}
use Rattle.ob_lower_functions.specs.Progress.{with_term}
use Rattle.ob_lower_functions.specs.StatementCode.{slots_between}
use Rattle.ob_lower_parts.proofs.CodeLemmas.{then_terms-assoc, then_terms-none}

-- one more slot is dropped, from the last to the first
pub between-step : (out : SilicaTerms) (low k j : ℕ) (span : Span) → k + 1 ≡ j → low ≤ k
    → then_terms (with_term out (drop_form k) span) (drops (slots_between low k) span)
    ≡ then_terms out (drops (slots_between low j) span)
between-step out low k j span e h =
    then_terms-assoc out (one_term (drop_form k) span) (drops (slots_between low k) span)
    ∙ sym (ap (λ n. then_terms out (drops (slots_between low n) span)) (sym e ∙ add-one k)
    ∙ ap (λ b. then_terms out (drops (if b then k ∷ slots_between low k else []) span)) (le-leb low k h))

-- none is left
pub between-none : (out : SilicaTerms) (low n : ℕ) (span : Span) → n ≤ low
    → then_terms out (drops (slots_between low n) span) ≡ out
between-none out low zero span h = then_terms-none out
between-none out low (suc n) span h =
    ap (λ b. then_terms out (drops (if b then n ∷ slots_between low n else []) span)) (lt-leb low n (omega arith))
    ∙ then_terms-none out
