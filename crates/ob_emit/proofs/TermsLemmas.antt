-- Terms, turn by turn.
use Rattle.std.proofs.Common.{◌≡◌, ℕ, ◌+◌, ◌<◌, ◌≤◌, Bool, List, [], ◌∷◌, length, drop, get_or, refl, sym, ap, ◌∙◌, arith}
use Rattle.std.specs.Prelude.{not}
use Rattle.ob_silica.specs.TermsView.{form_of, terms_of}
use Rattle.ob_silica.specs.declared.term.Term.{Term}
use Rattle.ob_silica_kinds.specs.Kinds.{Kinds, kinds_after_form}
use Rattle.ob_silica_kinds.proofs.TermsLemmas.{terms_dropped}
use Rattle.ob_code.specs.declared.instruction.Instruction.{Instruction}
use Rattle.ob_emit_spec.specs.Emission.{EmissionFrame}
use Rattle.ob_emit.specs.Making.{jumps_over_terms, form_made, terms_made}

-- whether there is a jump over terms
pub jumps_over_some : (ends : Bool) (ts : List Term) → 1 ≤ length ts → jumps_over_terms ends (terms_of ts) ≡ not ends
jumps_over_some ends [] h = absurd (omega arith)
jumps_over_some ends (t ∷ ts) h = refl

-- one term more: the code
pub code_turn : (f : EmissionFrame) (xs : List Term) (i : ℕ) (t : Term) (kinds next : Kinds) (code more whole : List Instruction)
    → i < length xs → t ≡ get_or xs i t
    → next ≡ kinds_after_form f.static (form_of t.form) kinds
    → more ≡ form_made f kinds (form_of t.form) code
    → terms_made f kinds (terms_of (drop i xs)) code ≡ whole
    → terms_made f next (terms_of (drop (i + 1) xs)) more ≡ whole
code_turn f xs i t kinds next code more whole h is n m e =
    ap (λ ks. terms_made f ks (terms_of (drop (i + 1) xs)) more) n
    ∙ ap (λ c. terms_made f (kinds_after_form f.static (form_of t.form) kinds) (terms_of (drop (i + 1) xs)) c) m
    ∙ sym (ap (λ ts. terms_made f kinds ts code) (terms_dropped xs i t h is))
    ∙ e
