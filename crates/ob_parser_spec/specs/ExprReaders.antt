-- What the parser computes of expressions, a reader for each row.
use Rattle.std.specs.Prelude.{ℕ, Option, List}
use Rattle.ob_base.specs.declared.fault.Span.{Span}
use Rattle.ob_base.specs.declared.operator.Operator.{Operator}
use Rattle.ob_lexer.specs.declared.token.Token.{Token}
use Rattle.ob_tree.specs.Exprs.{unary_expr}
use Rattle.ob_tree.specs.Operators.{operand_span}
use Rattle.ob_parser_spec.specs.Readers.{Reader}
use Rattle.ob_parser_spec.specs.Operators.{operator_if, signs_of_level}
use Rattle.ob_parser_spec.specs.Chains.{Counted, read_chain, read_single}

-- the operator with one operand that a token is, and its place
abbrev pub unary_if : Token → Option (Operator × Span)
unary_if = operator_if operand_span

-- the kinds of their signs
abbrev pub unary_signs : List ℕ
unary_signs = signs_of_level operand_span

-- an operator, its operand, and the place of both
abbrev pub negated : ((Operator × Span) × Counted) × Span → Counted
negated parts = (unary_expr parts.0.0.0 parts.0.0.1 parts.0.1.0 parts.1, parts.0.1.1)

-- the rows of operators with two operands, over that of operators with one
abbrev pub read_row_6 : (ℕ → Reader Counted) → ℕ → Reader Counted
read_row_6 unary = read_chain (signs_of_level 6) (operator_if 6) unary

-- precedence level 5, sums: any number of operators, between operands of level 6
abbrev pub read_row_5 : (ℕ → Reader Counted) → ℕ → Reader Counted
read_row_5 unary = read_chain (signs_of_level 5) (operator_if 5) (read_row_6 unary)

-- precedence level 4, order: one operator at most, between operands of level 5
abbrev pub read_row_4 : (ℕ → Reader Counted) → ℕ → Reader Counted
read_row_4 unary = read_single (signs_of_level 4) (operator_if 4) (read_row_5 unary)

-- precedence level 3, equality: one operator at most, between operands of level 4
abbrev pub read_row_3 : (ℕ → Reader Counted) → ℕ → Reader Counted
read_row_3 unary = read_single (signs_of_level 3) (operator_if 3) (read_row_4 unary)

-- precedence level 2, `&&`: any number of operators, between operands of level 3
abbrev pub read_row_2 : (ℕ → Reader Counted) → ℕ → Reader Counted
read_row_2 unary = read_chain (signs_of_level 2) (operator_if 2) (read_row_3 unary)

-- precedence level 1, `||`: any number of operators, between operands of level 2
abbrev pub read_row_1 : (ℕ → Reader Counted) → ℕ → Reader Counted
read_row_1 unary = read_chain (signs_of_level 1) (operator_if 1) (read_row_2 unary)
