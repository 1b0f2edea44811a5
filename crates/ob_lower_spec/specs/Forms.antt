-- What lowering makes terms of, by its relation and by its functions: visible variables, operands, and the forms that set places
-- (this project's own).
use Rattle.std.specs.Prelude.{ℕ, ◌+◌, List, [], ◌∷◌, map, Option, Some, None, option_map, nat_eq, if◌then◌else◌}
use Rattle.ob_base.specs.declared.fault.Span.{Span}
use Rattle.ob_base.specs.declared.id.StateId.{StateId}
use Rattle.ob_table.specs.Statements.{GivenField, resolved_stage, resolved_change, Block, resolved_block, Otherwise, no_otherwise, otherwise_block, Statements, no_statements, and_statement}
use Rattle.ob_table.specs.declared.contract.Param.{Param}
use Rattle.ob_table.specs.declared.operator.LogicalOperator.{LogicalOperator}
use Rattle.ob_table.specs.declared.operator.LogicalOperator.TheVariants.{And, Or}
use Rattle.ob_table.specs.declared.seen.Kind.{Kind}
use Rattle.ob_table.specs.declared.seen.Kind.TheVariants.{Int, Bool as BoolKind, Text, Reference}
use Rattle.ob_table.specs.declared.seen.Seen.{Seen}
use Rattle.ob_table.specs.declared.seen.Seen.TheVariants.{This as ThisSeen, Local, Field as FieldSeen}
use Rattle.ob_table_spec.specs.WellFormed.{StaticFrame, LocalKinds, kind_of_resolved, one_ends_there}
use Rattle.ob_silica.specs.Terms.{SilicaForm, copy_form, move_form, drop_form, if_form, return_form, SilicaTerms, no_terms, and_term, one_term}
use Rattle.ob_silica.specs.declared.place.Given.{Given}
use Rattle.ob_silica.specs.declared.place.Operand.{Operand}
use Rattle.ob_silica.specs.declared.place.Place.{Place}
use Rattle.ob_silica.specs.declared.place.Place.TheVariants.{This, Slot, Field}

-- Variables.

-- a variable that is visible: its number, its kind, and its slot
pub record SlotVariable : Type 0 where
  pub local : ℕ
  pub kind : Kind
  pub slot : ℕ

-- the visible variables without their slots
abbrev pub locals_of : List SlotVariable → LocalKinds
locals_of variables = map (λ v. (v.local, v.kind)) variables

-- the slot of the variable of this number, if it is visible
abbrev pub slot_of : List SlotVariable → ℕ → Option ℕ
slot_of [] n = None
slot_of (v ∷ vs) n = if nat_eq n v.local then Some v.slot else slot_of vs n

-- where what a name denotes is found, if it is visible
abbrev pub place_seen : List SlotVariable → Seen → Option Place
place_seen variables ThisSeen = Some This
place_seen variables (Local n) = option_map Slot (slot_of variables n)
place_seen variables (FieldSeen f) = Some (Field f)

-- the parameters beside `this`, from this number on: each has the slot of its number
abbrev pub params_from : ℕ → List Param → List SlotVariable
params_from n [] = []
params_from n (p ∷ ps) = record { local = n; kind = kind_of_resolved p.of; slot = n } ∷ params_from (n + 1) ps

-- Operands.

-- what stands around an expression: the table and the body's contract, what is visible, and the place of its terms
pub record AroundExpression : Type 0 where
  pub frame : StaticFrame
  pub variables : List SlotVariable
  pub span : Span

-- a place that represents a part of the text
abbrev pub operand : Place → Span → Operand
operand place span = record { place = place; span = span }

-- a slot that represents a part of the text
abbrev pub slot_operand : ℕ → Span → Operand
slot_operand k span = operand (Slot k) span

-- Forms.

-- each of these slots is dropped, in their order
abbrev pub drops : List ℕ → Span → SilicaTerms
drops [] span = no_terms
drops (k ∷ ks) span = and_term (drop_form k) span (drops ks span)

-- what sets a slot of this kind: a value is copied, a reference is moved
abbrev pub set_slot : Kind → ℕ → Operand → SilicaForm
set_slot Int k from = copy_form (Slot k) from
set_slot BoolKind k from = copy_form (Slot k) from
set_slot Text k from = copy_form (Slot k) from
set_slot (Reference contract) k from = move_form (Slot k) from (Some contract)

-- what sets a place of this kind; `this` is never set
abbrev pub set_place : Kind → Place → Operand → SilicaForm
set_place kind (Slot k) from = set_slot kind k from
set_place (Reference contract) (Field f) from = move_form (Field f) from None
set_place kind place from = copy_form place from

-- a test of the left side: the terms of the right side run after `&&` where it is true, and after `||` where it is false
abbrev pub logical_form : LogicalOperator → Operand → SilicaTerms → Span → SilicaForm
logical_form And left right sign = if_form left right no_terms sign
logical_form Or left right sign = if_form left no_terms right sign

-- a field and the operand that it is given
abbrev pub given_from : GivenField → Operand → Given
given_from g from = record { field = g.field; span = g.span; from = from }

-- Places in the text.

-- The place of the first staged statement that isn't followed by another one for the same state or by the change to
-- it, if there is one, of a row that begins with one for this state and at this place.
abbrev pub refused_at : StateId → Span → Statements → Option Span
refused_at state at no_statements = Some at
refused_at state at (and_statement (resolved_stage next given span) rest) =
    if nat_eq state.0 next.0 then refused_at next span rest else Some at
refused_at state at (and_statement (resolved_change next given span) rest) =
    if nat_eq state.0 next.0 then None else Some at
refused_at state at (and_statement s rest) = Some at

-- the closing brace of a block
abbrev pub block_end : Block → Span
block_end (resolved_block body end) = end

-- where two branches join: the closing brace of the last block
abbrev pub join_of : Block → Otherwise → Span
join_of branch no_otherwise = block_end branch
join_of branch (otherwise_block other) = block_end other

-- where the end of a body is reached, it is a `return` without a value
abbrev pub ending : Statements → Span → SilicaTerms
ending statements end = if one_ends_there statements then no_terms else one_term (return_form None) end
