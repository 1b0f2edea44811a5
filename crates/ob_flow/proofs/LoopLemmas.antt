-- A Loop goes on with a turn from where its first part ends.
use Rattle.std.proofs.Common.{◌≡◌, Ok, sym, ap, ◌∙◌, subst}
use Rattle.std.specs.Prelude.{Option, Result}
use Rattle.ob_base.specs.declared.fault.Span.{Span}
use Rattle.ob_base.specs.declared.text_error.TextError.{TextError}
use Rattle.ob_silica.specs.Terms.{SilicaForm, loop_form, SilicaTerms}
use Rattle.ob_silica.specs.declared.place.Operand.{Operand}
use Rattle.ob_flow_spec.specs.Premises.{◌>>=◌}
use Rattle.ob_flow_spec.specs.Contexts.{BodyFrame, Context, TestedPlaces}
use Rattle.ob_flow_spec.specs.Looping.{head_context}
use Rattle.ob_flow_spec.specs.Deriving.{derive, derive_all}
use Rattle.ob_flow.specs.Loops.{derive_turn}
use Rattle.ob_flow.specs.Outcomes.{DerivesTo}
use Rattle.ob_flow.specs.declared.branches.Flow.{Flow}

turn_follows : (b : BodyFrame) (ts : TestedPlaces) (form : SilicaForm) (first seen body last : SilicaTerms) (a : Operand) (end at : Span)
    (g here head : Context) (left : Option Context) → form ≡ loop_form first a body end → seen ≡ first → last ≡ body
    → here ≡ head_context b seen last g → head ≡ head_context b seen last g → derive_all b ts seen here ≡ Ok left
    → derive b ts form at g ≡ derive_turn b ts head a last end left
turn_follows b ts form first seen body last a end at g here head left is f l h same passes =
    ap (λ x. derive b ts x at g) (is ∙ ap (λ x. loop_form x a body end) (sym f) ∙ ap (λ x. loop_form seen a x end) (sym l))
    ∙ ap (λ r. r >>= (λ x. derive_turn b ts (head_context b seen last g) a last end x))
    (ap (λ x. derive_all b ts seen x) (sym h) ∙ passes)
    ∙ ap (λ x. derive_turn b ts x a last end left) (sym same)

pub turn_leads : (b : BodyFrame) (ts : TestedPlaces) (form : SilicaForm) (first seen body last : SilicaTerms) (a : Operand) (end at : Span)
    (g here head : Context) (left : Option Context) (r : Result Flow TextError) (new : Context) → form ≡ loop_form first a body end
    → seen ≡ first → last ≡ body → here ≡ head_context b seen last g → head ≡ head_context b seen last g
    → derive_all b ts seen here ≡ Ok left → DerivesTo r new (derive_turn b ts head a last end left)
    → DerivesTo r new (derive b ts form at g)
turn_leads b ts form first seen body last a end at g here head left r new is f l h same passes turns =
    subst (DerivesTo r new) (sym (turn_follows b ts form first seen body last a end at g here head left is f l h same passes)) turns
