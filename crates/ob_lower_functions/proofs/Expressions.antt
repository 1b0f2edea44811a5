-- What expressions and arguments come to.
use Rattle.std.proofs.Common.{ℕ, List, [], refl}
use Rattle.ob_base.specs.Limits.{most_slots}
use Rattle.ob_table.specs.Expressions.{Expression, resolved_number, resolved_text, resolved_bool, resolved_seen, resolved_unary, resolved_binary, resolved_logical, resolved_call, resolved_new, Arguments, no_arguments, and_argument}
use Rattle.ob_silica.specs.Terms.{const_form}
use Rattle.ob_silica.specs.declared.term.SilicaOperator.TheVariants.{Binary}
use Rattle.ob_silica.specs.declared.place.Constant.TheVariants.{Int, Bool as BoolConstant, Text}
use Rattle.ob_silica.specs.declared.place.Operand.{Operand}
use Rattle.ob_lower_spec.specs.Forms.{AroundExpression, locals_of}
use Rattle.ob_lower_spec.specs.SlotNeeds.{one_more, needs, needs_of_all}
use Rattle.ob_lower_functions.specs.Progress.{Progress, ◌>>=◌}
use Rattle.ob_lower_functions.specs.ExpressionCode.{expression_code, arguments_code, constant_code, value_code, valued}
use Rattle.ob_lower_functions.proofs.Places.{AllBelow}
use Rattle.ob_lower_functions.proofs.Outcomes.{Comes}
use Rattle.ob_lower_functions.proofs.Growing.{Ready}
use Rattle.ob_lower_functions.proofs.Valuing.{Valued, Reached, Passed, comes_valued, comes_reached, comes_leaf, seen_comes}
use Rattle.ob_lower_functions.proofs.Operators.{unary_comes, binary_comes, logical_comes}
use Rattle.ob_lower_functions.proofs.Calls.{none_passed, arguments_come, new_comes, call_comes}

module _ (a : AroundExpression) (all : AllBelow most_slots a.variables) where
  mutual
    pub expression_comes : (e : Expression) (used : List ℕ) (p : Progress) → Ready used p
        → Comes (needs a.frame (locals_of a.variables) p.slots.top e) (Reached a used e p) (expression_code a e p)
    expression_comes (resolved_number z span) used p r =
        comes_reached a (one_more p.slots.top span) used (resolved_number z span) p _ (constant_code a (Int z) span p) refl
        (comes_leaf a used (resolved_number z span) p span (λ k. const_form k (Int z)) r (λ le. le) (λ k free. (k, free, refl)) refl)
    expression_comes (resolved_text z span) used p r =
        comes_reached a (one_more p.slots.top span) used (resolved_text z span) p _ (constant_code a (Text z) span p) refl
        (comes_leaf a used (resolved_text z span) p span (λ k. const_form k (Text z)) r (λ le. le) (λ k free. (k, free, refl)) refl)
    expression_comes (resolved_bool z span) used p r =
        comes_reached a (one_more p.slots.top span) used (resolved_bool z span) p _ (constant_code a (BoolConstant z) span p) refl
        (comes_leaf a used (resolved_bool z span) p span (λ k. const_form k (BoolConstant z)) r (λ le. le) (λ k free. (k, free, refl)) refl)
    expression_comes (resolved_seen seen span) used p r = seen_comes a used p seen span r all
    expression_comes (resolved_unary o sign e span) used p r =
        unary_comes a used p o sign e span (expression_code a e p >>= valued) (comes_valued a _ used e p (expression_code a e p) (expression_comes e used p r))
    expression_comes (resolved_logical o sign left right span) used p r =
        logical_comes a used p o sign left right span (expression_code a left p >>= valued) (λ q. expression_code a right q >>= valued)
        (comes_valued a _ used left p (expression_code a left p) (expression_comes left used p r))
        (λ q now s. comes_valued a _ now right q (expression_code a right q) (expression_comes right now q s))
    expression_comes (resolved_binary o sign left right span) used p r =
        binary_comes a used p (Binary o) sign left right span _ (expression_code a left p >>= valued) (λ q. expression_code a right q >>= valued)
        (resolved_binary o sign left right span) (λ x y k lx ly free. (x, lx, y, ly, k, free, refl)) refl refl
        (comes_valued a _ used left p (expression_code a left p) (expression_comes left used p r))
        (λ q now s. comes_valued a _ now right q (expression_code a right q) (expression_comes right now q s))
    expression_comes (resolved_call receiver contract tx name args span) used p r =
        call_comes a used p receiver contract tx name args span (arguments_code a args [] p) all (arguments_pass args [] used p r)
    expression_comes (resolved_new contract args span) used p r =
        new_comes a used p contract args span (arguments_code a args [] p) (arguments_pass args [] used p r)

    pub arguments_pass : (es : Arguments) (before : List Operand) (used : List ℕ) (p : Progress) → Ready used p
        → Comes (needs_of_all a.frame (locals_of a.variables) p.slots.top es) (Passed a used es before p) (arguments_code a es before p)
    arguments_pass no_arguments before used p r = (refl, none_passed a used before p r)
    arguments_pass (and_argument e es) before used p r =
        arguments_come a used e es before p (expression_code a e p >>= valued) (λ given q. arguments_code a es given q)
        (comes_valued a _ used e p (expression_code a e p) (expression_comes e used p r))
        (λ given q now s. arguments_pass es given now q s)

  pub value_comes : (e : Expression) (used : List ℕ) (p : Progress) → Ready used p
      → Comes (needs a.frame (locals_of a.variables) p.slots.top e) (Valued a used e p) (value_code a e p)
  value_comes e used p r = comes_valued a _ used e p (expression_code a e p) (expression_comes e used p r)
