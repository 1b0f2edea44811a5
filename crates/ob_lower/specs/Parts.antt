-- The terms of parts of an expression, with one slot after the other.
use Rattle.std.specs.Prelude.{Option, Result, Ok}
use Rattle.ob_base.specs.declared.fault.Span.{Span}
use Rattle.ob_table.specs.Expressions.{Expression}
use Rattle.ob_table.specs.declared.operator.BinaryOperator.{BinaryOperator}
use Rattle.ob_table.specs.declared.operator.LogicalOperator.{LogicalOperator}
use Rattle.ob_table.specs.declared.operator.LogicalOperator.TheVariants.{And, Or}
use Rattle.ob_silica.specs.Terms.{SilicaTerms, copy_form, no_terms}
use Rattle.ob_silica.specs.declared.place.Operand.{Operand}
use Rattle.ob_silica.specs.declared.place.Place.{Place}
use Rattle.ob_silica.specs.declared.term.SilicaOperator.TheVariants.{Binary}
use Rattle.ob_lower_spec.specs.Forms.{AroundExpression}
use Rattle.ob_lower_functions.specs.Progress.{Stop, ◌>>=◌, Slots, Progress, with_term}
use Rattle.ob_lower_functions.specs.ExpressionCode.{value_code}
use Rattle.ob_lower_parts.specs.Makes.{progress}
use Rattle.ob_lower_parts.specs.Operands.{with_value, operation_code, choice_code}

-- the terms of a right side, whose value is copied into the left side's temporary
abbrev pub right_code : AroundExpression → Place → Expression → Slots → Result Progress Stop
right_code a to right slots =
    value_code a right (progress no_terms slots)
    >>= (λ y. Ok (progress (with_term y.0.terms (copy_form to y.1) a.span) y.0.slots))

-- what is made, with these slots
abbrev pub with_slots : Slots → Result (SilicaTerms × Option Operand) Stop → Result (Progress × Option Operand) Stop
with_slots slots made = made >>= (λ x. Ok (progress x.0 slots, x.1))

-- an operator that needs both operands, after the left one
abbrev pub binary_code : AroundExpression → BinaryOperator → Span → Span → Expression → Progress × Operand → Result (Progress × Option Operand) Stop
binary_code a operator sign span right x =
    value_code a right x.0 >>= (λ y. with_value (operation_code a (Binary operator) sign span x.1 y.1 y.0))

-- `&&` or `||`, after the left operand
abbrev pub logical_rest : AroundExpression → LogicalOperator → Span → Span → Expression → Progress × Operand → Result (Progress × Option Operand) Stop
logical_rest a And sign span right x =
    right_code a x.1.place right x.0.slots >>= (λ y. with_slots y.slots (choice_code a sign span x.1 y.terms no_terms x.0.terms))
logical_rest a Or sign span right x =
    right_code a x.1.place right x.0.slots >>= (λ y. with_slots y.slots (choice_code a sign span x.1 no_terms y.terms x.0.terms))
