-- The operators of expressions: their signs, and how tight they bind (the Obsidian language documentation,
-- "Expressions"; the order of the levels is that of The Java Language Specification, 15).
use Rattle.std.specs.Prelude.{ℕ, suc, List, [], ◌∷◌}
use Rattle.ob_base.specs.declared.operator.Operator.{Operator}
use Rattle.ob_base.specs.declared.operator.Operator.TheVariants.{Add, Sub, Mul, Div, Rem, Equal, NotEqual, Less, LessEqual, Greater, GreaterEqual, And, Or, Not, Negate}
use Rattle.ob_lexer.specs.declared.token.Sign.{Sign}
use Rattle.ob_lexer.specs.declared.token.Sign.TheVariants as sign
use Rattle.ob_tree.specs.Exprs.{Expr, unary_expr, binary_expr}

-- every operator
abbrev pub operators : List Operator
operators =
    Add ∷ Sub ∷ Mul ∷ Div ∷ Rem ∷ Equal ∷ NotEqual ∷ Less ∷ LessEqual ∷ Greater ∷ GreaterEqual ∷ And ∷ Or ∷ Not ∷ Negate ∷ []

-- the sign that represents an operator
abbrev pub sign_of_operator : Operator → Sign
sign_of_operator Add = sign.Plus
sign_of_operator Sub = sign.Minus
sign_of_operator Mul = sign.Star
sign_of_operator Div = sign.Slash
sign_of_operator Rem = sign.Percent
sign_of_operator Equal = sign.DoubleEquals
sign_of_operator NotEqual = sign.NotEquals
sign_of_operator Less = sign.Less
sign_of_operator LessEqual = sign.LessEquals
sign_of_operator Greater = sign.Greater
sign_of_operator GreaterEqual = sign.GreaterEquals
sign_of_operator And = sign.DoubleAmpersand
sign_of_operator Or = sign.DoubleBar
sign_of_operator Not = sign.Not
sign_of_operator Negate = sign.Minus

-- How tight an operator binds, from the loosest: `||` 1, `&&` 2, equality 3, order 4, sums 5, products 6, operators of
-- one operand 7.
abbrev pub level_of : Operator → ℕ
level_of Or = 1
level_of And = 2
level_of Equal = 3
level_of NotEqual = 3
level_of Less = 4
level_of LessEqual = 4
level_of Greater = 4
level_of GreaterEqual = 4
level_of Add = 5
level_of Sub = 5
level_of Mul = 6
level_of Div = 6
level_of Rem = 6
level_of Not = 7
level_of Negate = 7

-- The loosest level that stands on the left of an operator without parentheses: its own, but for equality and order,
-- which don't chain.
abbrev pub left_span : Operator → ℕ
left_span Equal = 4
left_span NotEqual = 4
left_span Less = 5
left_span LessEqual = 5
left_span Greater = 5
left_span GreaterEqual = 5
left_span o = level_of o

-- the loosest level that stands on the right
abbrev pub right_span : Operator → ℕ
right_span o = suc (level_of o)

-- the loosest level of the operand of an operator that has one
abbrev pub operand_span : ℕ
operand_span = 7

-- how tight an expression binds without parentheses around it: what is no operator's binds tightest
abbrev pub level : Expr → ℕ
level (unary_expr o sign operand span) = level_of o
level (binary_expr o sign left right span) = level_of o
level e = 8
