-- The expressions of a body, as plain data.
use Rattle.std.specs.Prelude.{◌≡◌, ℕ, ℤ, Bool, List, map}
use Rattle.std.proofs.Common.{ap, sym, ◌∙◌}
use Rattle.ob_base.specs.declared.fault.Span.{Span}
use Rattle.ob_base.specs.declared.id.ContractId.{ContractId}
use Rattle.ob_table.specs.declared.operator.UnaryOperator.{UnaryOperator}
use Rattle.ob_table.specs.declared.operator.BinaryOperator.{BinaryOperator}
use Rattle.ob_table.specs.declared.operator.LogicalOperator.{LogicalOperator}
use Rattle.ob_table.specs.Expressions.{Expression, resolved_number, resolved_text, resolved_bool, resolved_seen, resolved_unary, resolved_binary, resolved_logical, resolved_call, resolved_new, Arguments, arguments}
use Rattle.ob_table.specs.declared.seen.SeenAt.{SeenAt}
use Rattle.ob_table.specs.declared.expr.ResolvedCall.{ResolvedCall, ResolvedCall-F, fold-ResolvedCall, fold_out-ResolvedCall}
use Rattle.ob_table.specs.declared.expr.ResolvedExpr as made
use Rattle.ob_table.specs.declared.expr.ResolvedExpr.TheOpen as open'
use Rattle.ob_table.specs.declared.expr.ResolvedExpr.TheVariants.{rolls-Number, rolls-Text, rolls-Bool, rolls-Seen, rolls-Unary, rolls-Binary, rolls-Logical, rolls-Call, rolls-New}

-- an expression whose parts are plain data already; a call is plain data once its place is known
abbrev pub expression_step : made.ResolvedExpr-F Expression (Span → Expression) → Expression
expression_step (open'.Number value span) = resolved_number value span
expression_step (open'.Text value span) = resolved_text value span
expression_step (open'.Bool value span) = resolved_bool value span
expression_step (open'.Seen seen span) = resolved_seen seen span
expression_step (open'.Unary operator sign operand span) = resolved_unary operator sign operand span
expression_step (open'.Binary operator sign left right span) = resolved_binary operator sign left right span
expression_step (open'.Logical operator sign left right span) = resolved_logical operator sign left right span
expression_step (open'.Call call span) = call span
expression_step (open'.New contract args span) = resolved_new contract (arguments args) span

-- a call at a place, whose arguments are plain data already
abbrev pub call_step : ResolvedCall-F Expression (Span → Expression) → Span → Expression
call_step node span = resolved_call node.receiver node.contract node.tx node.name (arguments node.args) span

-- an expression
abbrev pub expression_of : made.ResolvedExpr → Expression
expression_of = made.fold-ResolvedExpr Expression (Span → Expression) expression_step call_step

-- the expression that a call at a place is
abbrev pub call_at_span : ResolvedCall → Span → Expression
call_at_span = fold-ResolvedCall Expression (Span → Expression) expression_step call_step

-- arguments in their order
abbrev pub arguments_of : List made.ResolvedExpr → Arguments
arguments_of nodes = arguments (map expression_of nodes)

pub expression_of-Number : (value : ℤ) (span : Span) → expression_of (made.Number value span) ≡ resolved_number value span
expression_of-Number value span = ap expression_of (sym (rolls-Number value span)) ∙ made.fold-roll-ResolvedExpr Expression (Span → Expression) expression_step call_step (open'.Number value span)

pub expression_of-Text : (value : List ℕ) (span : Span) → expression_of (made.Text value span) ≡ resolved_text value span
expression_of-Text value span = ap expression_of (sym (rolls-Text value span)) ∙ made.fold-roll-ResolvedExpr Expression (Span → Expression) expression_step call_step (open'.Text value span)

pub expression_of-Bool : (value : Bool) (span : Span) → expression_of (made.Bool value span) ≡ resolved_bool value span
expression_of-Bool value span = ap expression_of (sym (rolls-Bool value span)) ∙ made.fold-roll-ResolvedExpr Expression (Span → Expression) expression_step call_step (open'.Bool value span)

pub expression_of-Seen : (seen : SeenAt) (span : Span) → expression_of (made.Seen seen span) ≡ resolved_seen seen span
expression_of-Seen seen span = ap expression_of (sym (rolls-Seen seen span)) ∙ made.fold-roll-ResolvedExpr Expression (Span → Expression) expression_step call_step (open'.Seen seen span)

pub expression_of-Unary : (operator : UnaryOperator) (sign : Span) (operand : made.ResolvedExpr) (span : Span) → expression_of (made.Unary operator sign operand span) ≡ resolved_unary operator sign (expression_of operand) span
expression_of-Unary operator sign operand span = ap expression_of (sym (rolls-Unary operator sign operand span)) ∙ made.fold-roll-ResolvedExpr Expression (Span → Expression) expression_step call_step (open'.Unary operator sign operand span)

pub expression_of-Binary : (operator : BinaryOperator) (sign : Span) (left right : made.ResolvedExpr) (span : Span) → expression_of (made.Binary operator sign left right span) ≡ resolved_binary operator sign (expression_of left) (expression_of right) span
expression_of-Binary operator sign left right span = ap expression_of (sym (rolls-Binary operator sign left right span)) ∙ made.fold-roll-ResolvedExpr Expression (Span → Expression) expression_step call_step (open'.Binary operator sign left right span)

pub expression_of-Logical : (operator : LogicalOperator) (sign : Span) (left right : made.ResolvedExpr) (span : Span) → expression_of (made.Logical operator sign left right span) ≡ resolved_logical operator sign (expression_of left) (expression_of right) span
expression_of-Logical operator sign left right span = ap expression_of (sym (rolls-Logical operator sign left right span)) ∙ made.fold-roll-ResolvedExpr Expression (Span → Expression) expression_step call_step (open'.Logical operator sign left right span)

pub expression_of-Call : (call : ResolvedCall) (span : Span) → expression_of (made.Call call span) ≡ call_at_span call span
expression_of-Call call span = ap expression_of (sym (rolls-Call call span)) ∙ made.fold-roll-ResolvedExpr Expression (Span → Expression) expression_step call_step (open'.Call call span)

pub expression_of-New : (contract : ContractId) (args : List made.ResolvedExpr) (span : Span) → expression_of (made.New contract args span) ≡ resolved_new contract (arguments_of args) span
expression_of-New contract args span = ap expression_of (sym (rolls-New contract args span)) ∙ made.fold-roll-ResolvedExpr Expression (Span → Expression) expression_step call_step (open'.New contract args span)

pub called-fields : (call : ResolvedCall) (span : Span) → call_at_span call span ≡ resolved_call call.receiver call.contract call.tx call.name (arguments_of call.args) span
called-fields call span = ap (λ f. f span) (fold_out-ResolvedCall Expression (Span → Expression) expression_step call_step call)

pub ruleset expression_views = (expression_of-Number, expression_of-Text, expression_of-Bool, expression_of-Seen, expression_of-Unary, expression_of-Binary, expression_of-Logical, expression_of-Call, expression_of-New, called-fields)
