-- The expressions of a tree, as plain data.
use Rattle.std.specs.Prelude.{◌≡◌, ℕ, ℤ, Bool, List, map}
use Rattle.std.proofs.Common.{ap, sym, ◌∙◌}
use Rattle.ob_base.specs.declared.fault.Span.{Span}
use Rattle.ob_base.specs.declared.operator.Operator.{Operator}
use Rattle.ob_tree.specs.Exprs.{Expr, number_expr, text_expr, bool_expr, name_expr, this_expr, unary_expr, binary_expr, call_expr, new_expr, Call, call_with, Exprs, exprs}
use Rattle.ob_tree.specs.NamesView.{named_of}
use Rattle.ob_tree.specs.declared.name.NamedNode.{NamedNode}
use Rattle.ob_tree.specs.declared.name.NamePart.{NamePart}
use Rattle.ob_tree.specs.declared.expr.CallNode.{CallNode, CallNode-F, fold-CallNode, fold_out-CallNode}
use Rattle.ob_tree.specs.declared.expr.Expr as made
use Rattle.ob_tree.specs.declared.expr.Expr.TheOpen as open'
use Rattle.ob_tree.specs.declared.expr.Expr.TheVariants.{rolls-Number, rolls-Text, rolls-Bool, rolls-Name, rolls-This, rolls-Unary, rolls-Binary, rolls-Call, rolls-New}

-- an expression whose parts are plain data already
abbrev pub expr_step : made.Expr-F Expr Call → Expr
expr_step (open'.Number value span) = number_expr value span
expr_step (open'.Text value span) = text_expr value span
expr_step (open'.Bool value span) = bool_expr value span
expr_step (open'.Name name span) = name_expr name span
expr_step (open'.This token span) = this_expr token span
expr_step (open'.Unary operator sign operand span) = unary_expr operator sign operand span
expr_step (open'.Binary operator sign left right span) = binary_expr operator sign left right span
expr_step (open'.Call call span) = call_expr call span
expr_step (open'.New of args span) = new_expr (named_of of) (exprs args) span

-- a call whose arguments are plain data already
abbrev pub call_step : CallNode-F Expr Call → Call
call_step node = call_with node.receiver node.name (exprs node.args)

-- an expression
abbrev pub expr_of : made.Expr → Expr
expr_of = made.fold-Expr Expr Call expr_step call_step

-- a call
abbrev pub call_of : CallNode → Call
call_of = fold-CallNode Expr Call expr_step call_step

-- expressions in their order
abbrev pub exprs_of : List made.Expr → Exprs
exprs_of nodes = exprs (map expr_of nodes)

pub expr_of-Number : (value : ℤ) (span : Span) → expr_of (made.Number value span) ≡ number_expr value span
expr_of-Number value span = ap expr_of (sym (rolls-Number value span)) ∙ made.fold-roll-Expr Expr Call expr_step call_step (open'.Number value span)

pub expr_of-Text : (value : List ℕ) (span : Span) → expr_of (made.Text value span) ≡ text_expr value span
expr_of-Text value span = ap expr_of (sym (rolls-Text value span)) ∙ made.fold-roll-Expr Expr Call expr_step call_step (open'.Text value span)

pub expr_of-Bool : (value : Bool) (span : Span) → expr_of (made.Bool value span) ≡ bool_expr value span
expr_of-Bool value span = ap expr_of (sym (rolls-Bool value span)) ∙ made.fold-roll-Expr Expr Call expr_step call_step (open'.Bool value span)

pub expr_of-Name : (name : NamePart) (span : Span) → expr_of (made.Name name span) ≡ name_expr name span
expr_of-Name name span = ap expr_of (sym (rolls-Name name span)) ∙ made.fold-roll-Expr Expr Call expr_step call_step (open'.Name name span)

pub expr_of-This : (token span : Span) → expr_of (made.This token span) ≡ this_expr token span
expr_of-This token span = ap expr_of (sym (rolls-This token span)) ∙ made.fold-roll-Expr Expr Call expr_step call_step (open'.This token span)

pub expr_of-Unary : (operator : Operator) (sign : Span) (operand : made.Expr) (span : Span) → expr_of (made.Unary operator sign operand span) ≡ unary_expr operator sign (expr_of operand) span
expr_of-Unary operator sign operand span = ap expr_of (sym (rolls-Unary operator sign operand span)) ∙ made.fold-roll-Expr Expr Call expr_step call_step (open'.Unary operator sign operand span)

pub expr_of-Binary : (operator : Operator) (sign : Span) (left right : made.Expr) (span : Span) → expr_of (made.Binary operator sign left right span) ≡ binary_expr operator sign (expr_of left) (expr_of right) span
expr_of-Binary operator sign left right span = ap expr_of (sym (rolls-Binary operator sign left right span)) ∙ made.fold-roll-Expr Expr Call expr_step call_step (open'.Binary operator sign left right span)

pub expr_of-Call : (call : CallNode) (span : Span) → expr_of (made.Call call span) ≡ call_expr (call_of call) span
expr_of-Call call span = ap expr_of (sym (rolls-Call call span)) ∙ made.fold-roll-Expr Expr Call expr_step call_step (open'.Call call span)

pub expr_of-New : (of : NamedNode) (args : List made.Expr) (span : Span) → expr_of (made.New of args span) ≡ new_expr (named_of of) (exprs_of args) span
expr_of-New of args span = ap expr_of (sym (rolls-New of args span)) ∙ made.fold-roll-Expr Expr Call expr_step call_step (open'.New of args span)

pub call_of-fields : (call : CallNode) → call_of call ≡ call_with call.receiver call.name (exprs_of call.args)
call_of-fields = fold_out-CallNode Expr Call expr_step call_step

pub ruleset expr_views = (expr_of-Number, expr_of-Text, expr_of-Bool, expr_of-Name, expr_of-This, expr_of-Unary, expr_of-Binary, expr_of-Call, expr_of-New, call_of-fields)
