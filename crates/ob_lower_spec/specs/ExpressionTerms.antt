-- To which terms an expression may be lowered (this project's own; the order is that of the Obsidian language
-- documentation, "Expressions"). Each temporary gets any slot that isn't in use, and keeps it up to the end of its
-- statement.
use Rattle.std.specs.Prelude.{◌≡◌, ℕ, Bool, true, false, List, [], ◌∷◌, ◌++◌, Option, Some, None}
use Rattle.ob_base.specs.declared.fault.Span.{Span}
use Rattle.ob_base.specs.declared.id.ContractId.{ContractId}
use Rattle.ob_base.specs.declared.id.TxId.{TxId}
use Rattle.ob_table.specs.Expressions.{Expression, resolved_number, resolved_text, resolved_bool, resolved_seen, resolved_unary, resolved_binary, resolved_logical, resolved_call, resolved_new, Arguments, no_arguments, and_argument}
use Rattle.ob_table.specs.declared.operator.LogicalOperator.{LogicalOperator}
use Rattle.ob_table.specs.declared.seen.Kind.{Kind}
use Rattle.ob_table.specs.declared.seen.SeenAt.{SeenAt}
use Rattle.ob_table_spec.specs.WellFormed.{kind_of_expression, kind_of_seen, is_reference}
use Rattle.ob_silica.specs.Terms.{SilicaForm, const_form, op_form, copy_form, new_form, call_form, call_this_form, SilicaTerms, no_terms, one_term, then_terms}
use Rattle.ob_silica.specs.declared.term.SilicaOperator.TheVariants.{Unary, Binary}
use Rattle.ob_silica.specs.declared.place.Constant.TheVariants.{Int, Bool as BoolConstant, Text}
use Rattle.ob_silica.specs.declared.place.Operand.{Operand}
use Rattle.ob_silica.specs.declared.place.Place.{Place}
use Rattle.ob_silica.specs.declared.place.Place.TheVariants.{Slot}
use Rattle.ob_lower_spec.specs.Forms.{locals_of, place_seen, AroundExpression, operand, slot_operand, logical_form}
use Rattle.ob_lower_spec.specs.Points.{IsFree, Temporary, in_use}

-- what an expression is lowered to: its terms, the operand that represents its value, the temporaries in the order made
pub record Lowered : Type 0 where
  pub terms : SilicaTerms
  pub operand : Operand
  pub made : List Temporary

-- the same of arguments in their order, or of the one argument of an operator
pub record LoweredArguments : Type 0 where
  pub terms : SilicaTerms
  pub operands : List Operand
  pub made : List Temporary

-- the kind of an expression's value, if it has one
abbrev pub kind_around : AroundExpression → Expression → Option Kind
kind_around a e = kind_of_expression a.frame (locals_of a.variables) e

-- a temporary of this slot and kind
abbrev pub temporary : ℕ → Bool → Temporary
temporary k is_ref = record { slot = k; is_reference = is_ref }

-- terms, and then a form that sets a temporary, which represents the expression at this place
abbrev pub into : AroundExpression → SilicaTerms → List Temporary → SilicaForm → ℕ → Bool → Span → Lowered
into a terms made form k is_ref span = record {
  terms = then_terms terms (one_term form a.span);
  operand = slot_operand k span;
  made = made ++ temporary k is_ref ∷ [];
}

-- the name of a reference is the place itself, which the form that uses it reads; that of a value is copied
abbrev pub LowersName : AroundExpression → List ℕ → Bool → Operand → Lowered → Type 0
LowersName a used true o l = l ≡ record { terms = no_terms; operand = o; made = [] }
LowersName a used false o l = (k : ℕ) × IsFree k used × (l ≡ into a no_terms [] (copy_form (Slot k) o) k false o.span)

-- the form of a call with this slot for its result, if it has one
pub data IsCall (a : AroundExpression) : Option ℕ → Option SeenAt → ContractId → TxId → List Operand → SilicaForm → Type 0 where
  calls_this : {k : Option ℕ} {contract : ContractId} {tx : TxId} {args : List Operand}
      → IsCall a k None contract tx args (call_this_form k tx args)
  calls_other : {k : Option ℕ} {receiver : SeenAt} {contract : ContractId} {tx : TxId} {args : List Operand}
      {place : Place} → place_seen a.variables receiver.of ≡ Some place
      → IsCall a k (Some receiver) contract tx args (call_form k (operand place receiver.span) contract tx args)

-- the terms of a right side, whose value is copied into the left side's temporary
abbrev pub copied_into : AroundExpression → Lowered → Lowered → SilicaTerms
copied_into a x y = then_terms y.terms (one_term (copy_form x.operand.place y.operand) a.span)

-- `&&` or `||`: the left side, and where it leaves the value open the right side, which is copied into the left side's
-- temporary
abbrev pub logical_into : AroundExpression → LogicalOperator → Lowered → Lowered → Span → Span → Lowered
logical_into a operator x y sign span = record {
  terms = then_terms x.terms (one_term (logical_form operator x.operand (copied_into a x y) sign) a.span);
  operand = operand x.operand.place span;
  made = x.made ++ y.made;
}

abbrev mutual
  -- an expression, with these slots in use
  pub LowersExpression : AroundExpression → List ℕ → Expression → Lowered → Type 0
  LowersExpression a used (resolved_number value span) l =
      (k : ℕ) × IsFree k used × (l ≡ into a no_terms [] (const_form k (Int value)) k false span)
  LowersExpression a used (resolved_text value span) l =
      (k : ℕ) × IsFree k used × (l ≡ into a no_terms [] (const_form k (Text value)) k false span)
  LowersExpression a used (resolved_bool value span) l =
      (k : ℕ) × IsFree k used × (l ≡ into a no_terms [] (const_form k (BoolConstant value)) k false span)
  LowersExpression a used (resolved_seen seen span) l =
      (kind : Kind) × (kind_of_seen a.frame (locals_of a.variables) seen.of ≡ Some kind)
      × (place : Place) × (place_seen a.variables seen.of ≡ Some place)
      × LowersName a used (is_reference kind) (operand place span) l
  LowersExpression a used (resolved_unary operator sign e span) l =
      (x : Lowered) × LowersExpression a used e x
      × (k : ℕ) × IsFree k (in_use x.made used)
      × (l ≡ into a x.terms x.made (op_form k (Unary operator) x.operand x.operand sign.line) k false span)
  LowersExpression a used (resolved_logical operator sign left right span) l =
      (x : Lowered) × LowersExpression a used left x
      × (y : Lowered) × LowersExpression a (in_use x.made used) right y
      × (l ≡ logical_into a operator x y sign span)
  LowersExpression a used (resolved_binary operator sign left right span) l =
      (x : Lowered) × LowersExpression a used left x
      × (y : Lowered) × LowersExpression a (in_use x.made used) right y
      × (k : ℕ) × IsFree k (in_use (x.made ++ y.made) used)
      × (l ≡ into a (then_terms x.terms y.terms) (x.made ++ y.made)
      (op_form k (Binary operator) x.operand y.operand sign.line) k false span)
  LowersExpression a used (resolved_call receiver contract tx name args span) l =
      (x : LoweredArguments) × LowersArguments a used args x
      × (kind : Kind) × (kind_around a (resolved_call receiver contract tx name args span) ≡ Some kind)
      × (k : ℕ) × IsFree k (in_use x.made used)
      × (form : SilicaForm) × IsCall a (Some k) receiver contract tx x.operands form
      × (l ≡ into a x.terms x.made form k (is_reference kind) span)
  LowersExpression a used (resolved_new contract args span) l =
      (x : LoweredArguments) × LowersArguments a used args x
      × (k : ℕ) × IsFree k (in_use x.made used)
      × (l ≡ into a x.terms x.made (new_form k contract x.operands) k true span)

  -- arguments from left to right
  pub LowersArguments : AroundExpression → List ℕ → Arguments → LoweredArguments → Type 0
  LowersArguments a used no_arguments l = l ≡ record { terms = no_terms; operands = []; made = [] }
  LowersArguments a used (and_argument e es) l =
      (x : Lowered) × LowersExpression a used e x
      × (y : LoweredArguments) × LowersArguments a (in_use x.made used) es y
      × (l ≡ record { terms = then_terms x.terms y.terms; operands = x.operand ∷ y.operands; made = x.made ++ y.made })

-- the terms of a call or a `new` whose value is let go, and the temporaries in the order made
pub record LoweredCall : Type 0 where
  pub terms : SilicaTerms
  pub made : List Temporary

-- a call of a transaction without a result has no temporary for it
abbrev pub LowersPlainCall : AroundExpression → List ℕ → Expression → LoweredCall → Type 0
LowersPlainCall a used (resolved_call receiver contract tx name args span) l =
    (x : LoweredArguments) × LowersArguments a used args x
    × (form : SilicaForm) × IsCall a None receiver contract tx x.operands form
    × (l ≡ record { terms = then_terms x.terms (one_term form a.span); made = x.made })
LowersPlainCall a used e l = ⊥

-- a call or a `new` as a statement, by the kind of its value
abbrev pub LowersDiscarded : AroundExpression → List ℕ → Option Kind → Expression → LoweredCall → Type 0
LowersDiscarded a used None e l = LowersPlainCall a used e l
LowersDiscarded a used (Some kind) e l =
    (x : Lowered) × LowersExpression a used e x × (l ≡ record { terms = x.terms; made = x.made })
