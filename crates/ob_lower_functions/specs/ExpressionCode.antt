-- The terms of an expression, with one slot after the other (this project's own).
use Rattle.std.specs.Prelude.{ℕ, Bool, true, false, List, [], ◌∷◌, ◌++◌, Option, Some, None, option_map, Result, Ok}
use Rattle.std.specs.Option.{option_and_then}
use Rattle.ob_base.specs.declared.fault.Span.{Span}
use Rattle.ob_base.specs.declared.id.ContractId.{ContractId}
use Rattle.ob_base.specs.declared.id.TxId.{TxId}
use Rattle.ob_table.specs.Expressions.{Expression, resolved_number, resolved_text, resolved_bool, resolved_seen, resolved_unary, resolved_binary, resolved_logical, resolved_call, resolved_new, Arguments, no_arguments, and_argument}
use Rattle.ob_table.specs.Tables.{signature_of}
use Rattle.ob_table.specs.declared.operator.LogicalOperator.{LogicalOperator}
use Rattle.ob_table.specs.declared.seen.Kind.{Kind}
use Rattle.ob_table.specs.declared.seen.Seen.{Seen}
use Rattle.ob_table.specs.declared.seen.SeenAt.{SeenAt}
use Rattle.ob_table_spec.specs.WellFormed.{kind_of_seen, kind_of_resolved, is_reference}
use Rattle.ob_silica.specs.Terms.{SilicaForm, const_form, op_form, copy_form, new_form, call_form, call_this_form, SilicaTerms, no_terms}
use Rattle.ob_silica.specs.declared.term.SilicaOperator.TheVariants.{Unary, Binary}
use Rattle.ob_silica.specs.declared.place.Constant.{Constant}
use Rattle.ob_silica.specs.declared.place.Constant.TheVariants.{Int, Bool as BoolConstant, Text}
use Rattle.ob_silica.specs.declared.place.Operand.{Operand}
use Rattle.ob_silica.specs.declared.place.Place.TheVariants.{Slot}
use Rattle.ob_lower_spec.specs.Forms.{AroundExpression, locals_of, place_seen, operand, logical_form}
use Rattle.ob_lower_functions.specs.Progress.{Stop, ◌>>=◌, found, Progress, with_term, into_slot}

-- the operand of an expression's value, which must have one
abbrev pub valued : Progress × Option Operand → Result (Progress × Operand) Stop
valued x = found x.1 >>= (λ o. Ok (x.0, o))

-- what always has a value
abbrev pub value : Progress × Operand → Result (Progress × Option Operand) Stop
value x = Ok (x.0, Some x.1)

-- a value that is written in the text
abbrev pub constant_code : AroundExpression → Constant → Span → Progress → Result (Progress × Operand) Stop
constant_code a constant span p = into_slot a false span (λ k. const_form k constant) p

-- a name of this kind: that of a reference is the place itself, and a value is copied
abbrev pub name_code : AroundExpression → Bool → Operand → Progress → Result (Progress × Operand) Stop
name_code a true o p = Ok (p, o)
name_code a false o p = into_slot a false o.span (λ k. copy_form (Slot k) o) p

-- a name
abbrev pub seen_code : AroundExpression → Seen → Span → Progress → Result (Progress × Operand) Stop
seen_code a seen span p =
    found (kind_of_seen a.frame (locals_of a.variables) seen)
    >>= (λ kind. found (place_seen a.variables seen)
    >>= (λ place. name_code a (is_reference kind) (operand place span) p))

-- where the terms of a branch begin
abbrev pub branching : Progress → Progress
branching p = record { terms = no_terms; slots = p.slots }

-- the terms of a right side, whose value is copied into the left side's temporary
abbrev pub copied_code : AroundExpression → Operand → Progress × Operand → SilicaTerms
copied_code a left right = with_term right.0.terms (copy_form left.place right.1) a.span

-- `&&` or `||` of a left side and a right side that begins a branch
abbrev pub logical_code : AroundExpression → LogicalOperator → Span → Span → Progress × Operand → Progress × Operand → Progress × Operand
logical_code a operator sign span x y = (
  record {
    terms = with_term x.0.terms (logical_form operator x.1 (copied_code a x.1 y) sign) a.span;
    slots = y.0.slots;
  },
  operand x.1.place span,
)

-- the receiver of a call
abbrev pub receiver_code : AroundExpression → Option SeenAt → Result (Option Operand) Stop
receiver_code a None = Ok None
receiver_code a (Some receiver) =
    found (place_seen a.variables receiver.of) >>= (λ place. Ok (Some (operand place receiver.span)))

-- the form of a call with this slot for its result, if it has one
abbrev pub form_of_call : Option ℕ → Option Operand → ContractId → TxId → List Operand → SilicaForm
form_of_call k None contract tx args = call_this_form k tx args
form_of_call k (Some receiver) contract tx args = call_form k receiver contract tx args

-- the kind of the result of a transaction, if it has one
abbrev pub kind_of_result : AroundExpression → ContractId → TxId → Option Kind
kind_of_result a contract tx =
    option_and_then (λ s. option_map kind_of_resolved s.result) (signature_of a.frame.table contract tx)

-- a call after its arguments, by the kind of its result
abbrev pub call_code : AroundExpression → Option Operand → ContractId → TxId → Span → Option Kind → Progress × List Operand → Result (Progress × Option Operand) Stop
call_code a receiver contract tx span None x =
    Ok (
      record {
        terms = with_term x.0.terms (form_of_call None receiver contract tx x.1) a.span;
        slots = x.0.slots;
      },
      None,
    )
call_code a receiver contract tx span (Some kind) x =
    into_slot a (is_reference kind) span (λ k. form_of_call (Some k) receiver contract tx x.1) x.0 >>= value

abbrev mutual
  -- an expression: the progress after it, and the operand that represents its value, if it has one
  pub expression_code : AroundExpression → Expression → Progress → Result (Progress × Option Operand) Stop
  expression_code a (resolved_number number span) p = constant_code a (Int number) span p >>= value
  expression_code a (resolved_text text span) p = constant_code a (Text text) span p >>= value
  expression_code a (resolved_bool truth span) p = constant_code a (BoolConstant truth) span p >>= value
  expression_code a (resolved_seen seen span) p = seen_code a seen.of span p >>= value
  expression_code a (resolved_unary operator sign e span) p =
      expression_code a e p >>= valued
      >>= (λ x. into_slot a false span (λ k. op_form k (Unary operator) x.1 x.1 sign.line) x.0) >>= value
  expression_code a (resolved_logical operator sign left right span) p =
      expression_code a left p >>= valued
      >>= (λ x. expression_code a right (branching x.0) >>= valued
      >>= (λ y. value (logical_code a operator sign span x y)))
  expression_code a (resolved_binary operator sign left right span) p =
      expression_code a left p >>= valued
      >>= (λ x. expression_code a right x.0 >>= valued
      >>= (λ y. into_slot a false span (λ k. op_form k (Binary operator) x.1 y.1 sign.line) y.0 >>= value))
  expression_code a (resolved_call receiver contract tx name args span) p =
      receiver_code a receiver
      >>= (λ r. arguments_code a args [] p
      >>= call_code a r contract tx span (kind_of_result a contract tx))
  expression_code a (resolved_new contract args span) p =
      arguments_code a args [] p
      >>= (λ x. into_slot a true span (λ k. new_form k contract x.1) x.0) >>= value

  -- arguments from left to right, after these operands
  pub arguments_code : AroundExpression → Arguments → List Operand → Progress → Result (Progress × List Operand) Stop
  arguments_code a no_arguments operands p = Ok (p, operands)
  arguments_code a (and_argument e es) operands p =
      expression_code a e p >>= valued >>= (λ x. arguments_code a es (operands ++ x.1 ∷ []) x.0)

-- an expression that must have a value
abbrev pub value_code : AroundExpression → Expression → Progress → Result (Progress × Operand) Stop
value_code a e p = expression_code a e p >>= valued
