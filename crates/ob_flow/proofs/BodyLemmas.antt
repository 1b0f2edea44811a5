-- The fault of a body is that of its terms.
use Rattle.std.proofs.Common.{◌≡◌, List, [], Some, None, Ok, sym, ap, ◌∙◌}
use Rattle.std.specs.Option.{option_map_or}
use Rattle.ob_table.specs.Tables.{ClassTable}
use Rattle.ob_silica.specs.TermsView.{terms_of, silica_body_of}
use Rattle.ob_silica.specs.declared.body.TermBody.{TermBody}
use Rattle.ob_silica.specs.declared.place.Place.{Place}
use Rattle.ob_silica.specs.declared.term.Term.{Term}
use Rattle.ob_flow_spec.specs.Contexts.{BodyFrame, Context, beginning}
use Rattle.ob_flow_spec.specs.Deriving.{derive_all, derive_in, body_frame, IsFlowFault}
use Rattle.ob_flow_context.specs.View.{tested_of}
use Rattle.ob_base.specs.TextErrors.{OnFault}
use Rattle.ob_base.specs.declared.text_error.TextError.{TextError}
use Rattle.ob_base.specs.declared.text_error.TextError.TheVariants.{Fault, Memory}
use Rattle.ob_flow.specs.Outcomes.{FailsWith}

pub fails_body : (table : ClassTable) (body : TermBody) (frame : BodyFrame) (terms : List Term) (places items : List Place) (g : Context) (e : TextError)
    → Some frame ≡ body_frame table (silica_body_of body) → terms ≡ body.terms → places ≡ items → items ≡ [] → g ≡ beginning frame
    → FailsWith e (derive_all frame (tested_of places) (terms_of terms) g) → OnFault e (IsFlowFault table (silica_body_of body))
fails_body table body frame terms places items g (Fault fault) is whole same none start fails =
    ap (λ o. option_map_or (λ b. derive_in b (terms_of body.terms)) o (Ok None)) (sym is)
    ∙ ap (λ ts. derive_all frame ts (terms_of body.terms) (beginning frame)) (sym (ap tested_of (same ∙ none)))
    ∙ ap (λ xs. derive_all frame (tested_of places) (terms_of xs) (beginning frame)) (sym whole)
    ∙ ap (λ h. derive_all frame (tested_of places) (terms_of terms) h) (sym start)
    ∙ fails
fails_body table body frame terms places items g Memory is whole same none start fails = tt
