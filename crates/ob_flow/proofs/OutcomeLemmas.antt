-- Outcomes of forms from their premises.
use Rattle.std.proofs.Common.{◌≡◌, Option, None, Ok, List, sym, ap, ◌∙◌}
use Rattle.ob_flow_spec.specs.Premises.{Premise, first_failing, unless, checked}
use Rattle.ob_flow_spec.specs.Contexts.{Context}
use Rattle.ob_flow_spec.specs.Deriving.{Derived}
use Rattle.ob_base.specs.declared.text_error.TextError.{TextError}
use Rattle.ob_base.specs.declared.text_error.TextError.TheVariants.{Fault, Memory}
use Rattle.ob_flow_context.specs.Checking.{FailsPremises}
use Rattle.ob_flow.specs.Outcomes.{FailsWith}

-- all premises hold
pub held : {A : Type 0} (ps : List Premise) (x y : A) → first_failing ps ≡ None → y ≡ x → checked ps x ≡ Ok y
held ps x y h e = ap (λ o. unless o x) h ∙ ap Ok (sym e)

-- one of them doesn't
pub failed : (ps : List Premise) (x : Option Context) (e : TextError) → FailsPremises e ps → FailsWith e (checked ps x)
failed ps x (Fault f) h = ap (λ o. unless o x) h
failed ps x Memory h = h

pub failed_as : (ps : List Premise) (d : Derived) (x : Option Context) (e : TextError) → d ≡ checked ps x → FailsPremises e ps → FailsWith e d
failed_as ps d x (Fault f) is h = is ∙ ap (λ o. unless o x) h
failed_as ps d x Memory is h = h

pub same_outcome : (d e : Derived) (f : TextError) → d ≡ e → FailsWith f e → FailsWith f d
same_outcome d e (Fault f) is h = is ∙ h
same_outcome d e Memory is h = h

pub ruleset outcomes = (held, failed, failed_as, same_outcome)
