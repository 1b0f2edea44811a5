-- The operators, by their signs and levels.
use Rattle.std.specs.Prelude.{ℕ, nat_eq, Option, List}
use Rattle.std.specs.List.{filter}
use Rattle.ob_base.specs.declared.fault.Span.{Span}
use Rattle.ob_base.specs.declared.operator.Operator.{Operator}
use Rattle.ob_lexer.specs.declared.token.Token.{Token}
use Rattle.ob_tree.specs.Operators.{operators, sign_of_operator, level_of}
use Rattle.ob_parser_spec.specs.Symbols.{Symbol, a_sign}
use Rattle.ob_parser_spec.specs.Readers.{one_among, one_if, kinds_among}

-- those of these operators that are of a level
abbrev pub of_level : ℕ → List Operator → List Operator
of_level level among = filter (λ o. nat_eq (level_of o) level) among

-- the operators of a level
abbrev pub operators_of_level : ℕ → List Operator
operators_of_level level = of_level level operators

-- the symbol of an operator
abbrev pub symbol_of_operator : Operator → Symbol
symbol_of_operator o = a_sign (sign_of_operator o)

-- the operator of this level that a token is
abbrev pub operator_of : ℕ → Token → Option Operator
operator_of level = one_among symbol_of_operator (operators_of_level level)

-- the operator of this level that a token is, with its place
abbrev pub operator_if : ℕ → Token → Option (Operator × Span)
operator_if level = one_if symbol_of_operator (operators_of_level level)

-- the kinds of the signs of a level
abbrev pub signs_of_level : ℕ → List ℕ
signs_of_level level = kinds_among symbol_of_operator (operators_of_level level)
