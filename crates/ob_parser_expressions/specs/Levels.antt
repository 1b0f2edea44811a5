-- The levels of operators with two operands, from the loosest to the tightest, and the row of each.
use Rattle.std.specs.Prelude.{ℕ, Bool, true, false, Option, Some, None}
use Rattle.ob_base.specs.declared.fault.Span.{Span}
use Rattle.ob_base.specs.declared.operator.Operator.{Operator}
use Rattle.ob_parser_spec.specs.Readers.{Reader, read_as, read_many_from}
use Rattle.ob_parser_spec.specs.Operators.{operator_if, signs_of_level}
use Rattle.ob_parser_spec.specs.Chains.{Counted, count_after, with_steps, read_step}
use Rattle.ob_parser_spec.specs.ExprReaders.{read_row_1, read_row_2, read_row_3, read_row_4, read_row_5, read_row_6}
use Rattle.ob_parser_spec.specs.AllReaders.{all_unary}
use Rattle.ob_parser_expressions.specs.declared.levels.Level.{Level}
use Rattle.ob_parser_expressions.specs.declared.levels.Level.TheVariants.{Or, And, Equality, Relation, Sum, Product}

-- the number of a level
abbrev pub number_of_level : Level → ℕ
number_of_level Or = 1
number_of_level And = 2
number_of_level Equality = 3
number_of_level Relation = 4
number_of_level Sum = 5
number_of_level Product = 6

-- how many levels there are from this one to the tightest
abbrev pub levels_from : Level → ℕ
levels_from Or = 6
levels_from And = 5
levels_from Equality = 4
levels_from Relation = 3
levels_from Sum = 2
levels_from Product = 1

-- the level of the operands, unless they have no operator with two operands
abbrev pub tighter : Level → Option Level
tighter Or = Some And
tighter And = Some Equality
tighter Equality = Some Relation
tighter Relation = Some Sum
tighter Sum = Some Product
tighter Product = None

-- whether a row of this level may have more than one operator
abbrev pub repeats : Level → Bool
repeats Equality = false
repeats Relation = false
repeats level = true

-- an operator and its place
abbrev pub operator_with_span : Operator → Span → Operator × Span
operator_with_span o span = (o, span)

-- the row of a level
abbrev pub read_row : Level → ℕ → Reader Counted
read_row Or = read_row_1 all_unary
read_row And = read_row_2 all_unary
read_row Equality = read_row_3 all_unary
read_row Relation = read_row_4 all_unary
read_row Sum = read_row_5 all_unary
read_row Product = read_row_6 all_unary

-- the row of a level, or that of operators with one operand
abbrev pub read_tighter : Option Level → ℕ → Reader Counted
read_tighter (Some level) = read_row level
read_tighter None = all_unary

-- an operand of a row
abbrev pub read_operand : Level → ℕ → Reader Counted
read_operand level = read_tighter (tighter level)

-- what a row reads after its first operand: the operators that follow, and their operands
abbrev pub read_further : Level → ℕ → Counted → Reader Counted
read_further level room c = read_as (with_steps c) (read_many_from (signs_of_level (number_of_level level)) (read_step (operator_if (number_of_level level)) (read_operand level) room) count_after c.1)
