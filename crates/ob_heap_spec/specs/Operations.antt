-- What operators give (the Obsidian language documentation, "Expressions"; that a result must be an `int` is this
-- project's own). `&&` and `||` aren't among them: they may stop after their left side.
use Rattle.std.specs.Prelude.{ℕ, ℤ, pos, Bool, not, List, ◌+ℤ◌, ◌-ℤ◌, ◌*ℤ◌, neg_ℤ, int_lt, int_le, int_div, int_rem, bytes_eq, if◌then◌else◌}
use Rattle.std.specs.Ordering.{int_eq}
use Rattle.ob_base.specs.Numbers.{is_int}
use Rattle.ob_table.specs.declared.operator.UnaryOperator.{UnaryOperator}
use Rattle.ob_table.specs.declared.operator.UnaryOperator.TheVariants.{Not, Negate}
use Rattle.ob_table.specs.declared.operator.BinaryOperator.{BinaryOperator}
use Rattle.ob_table.specs.declared.operator.BinaryOperator.TheVariants.{Add, Sub, Mul, Div, Rem, Equal, NotEqual, Less, LessEqual, Greater, GreaterEqual}
use Rattle.ob_heap_spec.specs.Values.{Value, int_value, bool_value, text_value}

-- what an operation comes to: a value; a result that is no `int`, or none; nothing, since the operands have other kinds
pub data Operated : Type 0 where
  operated : Value → Operated
  overflows : Operated
  other_kinds : Operated

-- a whole number as an `int`, if it is one
abbrev pub as_int : ℤ → Operated
as_int z = if is_int z then operated (int_value z) else overflows

-- a truth value as a `bool`
abbrev pub as_bool : Bool → Operated
as_bool b = operated (bool_value b)

-- a quotient or a remainder; a division by zero has none
abbrev pub divided : ℤ → ℤ → Operated
divided divisor z = if int_eq divisor (pos 0) then overflows else as_int z

-- an operator between two whole numbers: `/` rounds toward zero, and `%` has the dividend's sign
abbrev pub between_ints : BinaryOperator → ℤ → ℤ → Operated
between_ints Add x y = as_int (x +ℤ y)
between_ints Sub x y = as_int (x -ℤ y)
between_ints Mul x y = as_int (x *ℤ y)
between_ints Div x y = divided y (int_div x y)
between_ints Rem x y = divided y (int_rem x y)
between_ints Equal x y = as_bool (int_eq x y)
between_ints NotEqual x y = as_bool (not (int_eq x y))
between_ints Less x y = as_bool (int_lt x y)
between_ints LessEqual x y = as_bool (int_le x y)
between_ints Greater x y = as_bool (int_lt y x)
between_ints GreaterEqual x y = as_bool (int_le y x)

-- whether two truth values are the same
abbrev pub same_truth : Bool → Bool → Bool
same_truth x y = if x then y else not y

-- an operator between two truth values
abbrev pub between_bools : BinaryOperator → Bool → Bool → Operated
between_bools Equal x y = as_bool (same_truth x y)
between_bools NotEqual x y = as_bool (not (same_truth x y))
between_bools operator x y = other_kinds

-- an operator between two texts
abbrev pub between_texts : BinaryOperator → List ℕ → List ℕ → Operated
between_texts Equal x y = as_bool (bytes_eq x y)
between_texts NotEqual x y = as_bool (not (bytes_eq x y))
between_texts operator x y = other_kinds

-- an operator between two values
abbrev pub between : BinaryOperator → Value → Value → Operated
between operator (int_value x) (int_value y) = between_ints operator x y
between operator (bool_value x) (bool_value y) = between_bools operator x y
between operator (text_value x) (text_value y) = between_texts operator x y
between operator x y = other_kinds

-- an operator before a whole number
abbrev pub before_int : UnaryOperator → ℤ → Operated
before_int Negate x = as_int (neg_ℤ x)
before_int Not x = other_kinds

-- an operator before a truth value
abbrev pub before_bool : UnaryOperator → Bool → Operated
before_bool Not x = as_bool (not x)
before_bool Negate x = other_kinds

-- an operator before a value
abbrev pub before : UnaryOperator → Value → Operated
before operator (int_value x) = before_int operator x
before operator (bool_value x) = before_bool operator x
before operator x = other_kinds
