-- The operators of the tree, and those of expressions with numbers that they are (the Obsidian language documentation,
-- "Expressions").
use Rattle.std.specs.Prelude.{Bool, true, false}
use Rattle.ob_base.specs.declared.fault.Span.{Span}
use Rattle.ob_base.specs.declared.operator.Operator.{Operator}
use Rattle.ob_base.specs.declared.operator.Operator.TheVariants.{Add, Sub, Mul, Div, Rem, Equal, NotEqual, Less, LessEqual, Greater, And, Or, Not, Negate}
use Rattle.ob_table.specs.Expressions.{Expression, resolved_binary, resolved_logical}
use Rattle.ob_table.specs.declared.operator.UnaryOperator.{UnaryOperator}
use Rattle.ob_table.specs.declared.operator.UnaryOperator.TheVariants as unary
use Rattle.ob_table.specs.declared.operator.BinaryOperator.{BinaryOperator}
use Rattle.ob_table.specs.declared.operator.BinaryOperator.TheVariants as binary
use Rattle.ob_table.specs.declared.operator.LogicalOperator.TheVariants as logical

-- whether an operator has one operand
abbrev pub has_one_operand : Operator → Bool
has_one_operand Not = true
has_one_operand Negate = true
has_one_operand operator = false

-- An operator before its operand: `!`, or else `-`. No tree of a text has a third one there.
abbrev pub unary_operator : Operator → UnaryOperator
unary_operator Not = unary.Not
unary_operator operator = unary.Negate

-- An operator between its operands that needs both values: one of ten, or else `>=`. Of a tree of a text it is asked of
-- those eleven alone.
abbrev pub binary_operator : Operator → BinaryOperator
binary_operator Add = binary.Add
binary_operator Sub = binary.Sub
binary_operator Mul = binary.Mul
binary_operator Div = binary.Div
binary_operator Rem = binary.Rem
binary_operator Equal = binary.Equal
binary_operator NotEqual = binary.NotEqual
binary_operator Less = binary.Less
binary_operator LessEqual = binary.LessEqual
binary_operator Greater = binary.Greater
binary_operator operator = binary.GreaterEqual

-- an operator between two expressions with numbers: `&&` and `||` are logical ones
abbrev pub resolved_between : Operator → Span → Expression → Expression → Span → Expression
resolved_between And sign left right span = resolved_logical logical.And sign left right span
resolved_between Or sign left right span = resolved_logical logical.Or sign left right span
resolved_between operator sign left right span = resolved_binary (binary_operator operator) sign left right span
