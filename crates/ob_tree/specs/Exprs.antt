-- Expressions as plain data, with each part and place of the tree, in its order (the Obsidian language documentation,
-- "Expressions").
use Rattle.std.specs.Prelude.{ℕ, ℤ, Bool, Option, List, [], ◌∷◌}
use Rattle.ob_base.specs.declared.fault.Span.{Span}
use Rattle.ob_base.specs.declared.operator.Operator.{Operator}
use Rattle.ob_tree.specs.Names.{Named}
use Rattle.ob_tree.specs.declared.name.NamePart.{NamePart}
use Rattle.ob_tree.specs.declared.name.Subject.{Subject}

mutual
  -- an expression; the last place is that of the whole
  pub data Expr : Type 0 where
    number_expr : ℤ → Span → Expr
    text_expr : List ℕ → Span → Expr
    bool_expr : Bool → Span → Expr
    name_expr : NamePart → Span → Expr
    this_expr : Span → Span → Expr
    unary_expr : Operator → Span → Expr → Span → Expr
    binary_expr : Operator → Span → Expr → Expr → Span → Expr
    call_expr : Call → Span → Expr
    new_expr : Named → Exprs → Span → Expr

  -- a call: its receiver, if one is written, its name and its arguments
  pub data Call : Type 0 where
    call_with : Option Subject → NamePart → Exprs → Call

  -- expressions in their order
  pub data Exprs : Type 0 where
    no_exprs : Exprs
    and_expr : Expr → Exprs → Exprs

-- the expressions of a list
abbrev pub exprs : List Expr → Exprs
exprs [] = no_exprs
exprs (e ∷ es) = and_expr e (exprs es)

-- the place of an expression
abbrev pub span_of_expr : Expr → Span
span_of_expr (number_expr value span) = span
span_of_expr (text_expr value span) = span
span_of_expr (bool_expr value span) = span
span_of_expr (name_expr part span) = span
span_of_expr (this_expr token span) = span
span_of_expr (unary_expr o sign operand span) = span
span_of_expr (binary_expr o sign left right span) = span
span_of_expr (call_expr call span) = span
span_of_expr (new_expr of args span) = span
