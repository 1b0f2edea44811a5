-- Operands, and operators after their operands.
use Rattle.std.specs.Prelude.{⊤, ℕ, Option, Some, false, Result, Ok}
use Rattle.ob_base.specs.declared.fault.Span.{Span}
use Rattle.ob_table.specs.Expressions.{Expression, resolved_number, resolved_text, resolved_bool, resolved_seen, resolved_unary, resolved_binary, resolved_logical, resolved_call, resolved_new}
use Rattle.ob_silica.specs.Terms.{SilicaForm, SilicaTerms, op_form, if_form}
use Rattle.ob_silica.specs.declared.place.Operand.{Operand}
use Rattle.ob_silica.specs.declared.term.SilicaOperator.{SilicaOperator}
use Rattle.ob_lower_spec.specs.Forms.{AroundExpression, operand, slot_operand}
use Rattle.ob_lower_functions.specs.Progress.{Stop, ◌>>=◌, Progress, with_term, into_slot}
use Rattle.ob_lower_functions.specs.ExpressionCode.{value}

-- an expression without parts
abbrev pub IsLeaf : Expression → Type 0
IsLeaf (resolved_number number span) = ⊤
IsLeaf (resolved_text text span) = ⊤
IsLeaf (resolved_bool truth span) = ⊤
IsLeaf (resolved_seen seen span) = ⊤
IsLeaf (resolved_unary operator sign e span) = ⊥
IsLeaf (resolved_binary operator sign left right span) = ⊥
IsLeaf (resolved_logical operator sign left right span) = ⊥
IsLeaf (resolved_call receiver contract tx name args span) = ⊥
IsLeaf (resolved_new contract args span) = ⊥

-- what is made always has a value
abbrev pub with_value : Result (Progress × Operand) Stop → Result (Progress × Option Operand) Stop
with_value made = made >>= value

-- a term that sets this slot, which represents the expression at this place
abbrev pub set_code : AroundExpression → ℕ → SilicaForm → Span → SilicaTerms → Result (SilicaTerms × Option Operand) Stop
set_code a k form span out = Ok (with_term out form a.span, Some (slot_operand k span))

-- the value of an operator with these operands
abbrev pub operation_code : AroundExpression → SilicaOperator → Span → Span → Operand → Operand → Progress → Result (Progress × Operand) Stop
operation_code a operator sign span left right p = into_slot a false span (λ k. op_form k operator left right sign.line) p

-- `&&` or `||`, with its left side's temporary and the terms for each value of it
abbrev pub choice_code : AroundExpression → Span → Span → Operand → SilicaTerms → SilicaTerms → SilicaTerms → Result (SilicaTerms × Option Operand) Stop
choice_code a sign span left branch other out =
    Ok (with_term out (if_form left branch other sign) a.span, Some (operand left.place span))
