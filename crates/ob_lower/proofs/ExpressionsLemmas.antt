-- Expressions, part by part.
use Rattle.std.proofs.Common.{◌≡◌, refl, sym}
use Rattle.std.specs.Prelude.{Result, Ok, Err}
use Rattle.ob_base.specs.declared.fault.Span.{Span}
use Rattle.ob_table.specs.Expressions.{Expression, resolved_binary, resolved_logical}
use Rattle.ob_table.specs.ExpressionsView.{expression_views}
use Rattle.ob_table.specs.declared.operator.BinaryOperator.{BinaryOperator}
use Rattle.ob_table.specs.declared.operator.LogicalOperator.{LogicalOperator}
use Rattle.ob_table.specs.declared.operator.LogicalOperator.TheVariants.{And, Or}
use Rattle.ob_silica.specs.Terms.{copy_form, no_terms}
use Rattle.ob_lower_spec.specs.Forms.{AroundExpression}
use Rattle.ob_lower_functions.specs.Progress.{Stop, ◌>>=◌, Progress, with_term}
use Rattle.ob_lower_functions.specs.ExpressionCode.{branching, expression_code, value_code}
use Rattle.ob_lower_parts.specs.Makes.{progress}
use Rattle.ob_lower_parts.specs.Operands.{choice_code}
use Rattle.ob_lower.specs.Parts.{binary_code, logical_rest, with_slots}

pub bind-assoc : {A B C : Type 0} (r : Result A Stop) (f : A → Result B Stop) (g : B → Result C Stop)
    → (r >>= f) >>= g ≡ r >>= (λ x. f x >>= g)
bind-assoc (Ok x) f g = refl
bind-assoc (Err e) f g = refl

pub bind-same : {A B : Type 0} (r : Result A Stop) (f g : A → Result B Stop) → ((x : A) → f x ≡ g x) → r >>= f ≡ r >>= g
bind-same (Ok x) f g same = same x
bind-same (Err e) f g same = refl

-- an operator with two operands is its left side and then the rest
pub binary-parts : (a : AroundExpression) (operator : BinaryOperator) (sign : Span) (left right : Expression) (span : Span) (p : Progress)
    → expression_code a (resolved_binary operator sign left right span) p
    ≡ value_code a left p >>= binary_code a operator sign span right
binary-parts a operator sign left right span p = refl

pub logical-parts : (a : AroundExpression) (operator : LogicalOperator) (sign : Span) (left right : Expression) (span : Span) (p : Progress)
    → expression_code a (resolved_logical operator sign left right span) p
    ≡ value_code a left p >>= logical_rest a operator sign span right
logical-parts a And sign left right span p =
    bind-same (value_code a left p) _ _ (λ x. sym (bind-assoc (value_code a right (branching x.0))
    (λ y. Ok (progress (with_term y.0.terms (copy_form x.1.place y.1) a.span) y.0.slots))
    (λ b. with_slots b.slots (choice_code a sign span x.1 b.terms no_terms x.0.terms))))
logical-parts a Or sign left right span p =
    bind-same (value_code a left p) _ _ (λ x. sym (bind-assoc (value_code a right (branching x.0))
    (λ y. Ok (progress (with_term y.0.terms (copy_form x.1.place y.1) a.span) y.0.slots))
    (λ b. with_slots b.slots (choice_code a sign span x.1 no_terms b.terms x.0.terms))))

pub ruleset expressions = (expression_views, binary-parts, logical-parts)
