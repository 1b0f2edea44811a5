-- What the parser computes of operands with operators of one level between them.
use Rattle.std.specs.Prelude.{ℕ, ◌+◌, Option, Some, None, List, [], ◌∷◌}
use Rattle.ob_base.specs.declared.fault.Span.{Span}
use Rattle.ob_base.specs.declared.operator.Operator.{Operator}
use Rattle.ob_lexer.specs.declared.token.Token.{Token}
use Rattle.ob_tree.specs.Exprs.{Expr, binary_expr, span_of_expr}
use Rattle.ob_parser_spec.specs.Rows.{joined}
use Rattle.ob_parser_spec.specs.Readers.{Reader, read_as, read_then, read_opened, read_maybe, read_many_from}

-- an expression, and how many binary operators are read in it
abbrev pub Counted : Type 0
Counted = Expr × ℕ

-- an operator with its place, and the operand after it
abbrev pub Step : Type 0
Step = (Operator × Span) × Counted

-- how many operators are read after a step
abbrev pub count_after : ℕ → Step → ℕ
count_after n x = n + 1 + x.1.1

-- an operand, and one more after it
abbrev pub with_step : Counted → Step → Counted
with_step c x = (binary_expr x.0.0 x.0.1 c.0 x.1.0 (joined (span_of_expr c.0) (span_of_expr x.1.0)), count_after c.1 x)

-- operands from left to right
abbrev pub with_steps : Counted → List Step → Counted
with_steps c [] = c
with_steps c (x ∷ xs) = with_steps (with_step c x) xs

-- and one more at most
abbrev pub with_maybe : Counted → Option Step → Counted
with_maybe c None = c
with_maybe c (Some x) = with_step c x

-- an operator of the row, and the operand after it
abbrev pub read_step : (Token → Option (Operator × Span)) → (ℕ → Reader Counted) → ℕ → ℕ → Reader Step
read_step operator next room n = read_opened operator (n + 1) room next

-- what is made of an operand and the steps after it
abbrev pub steps_of : Counted × List Step → Counted
steps_of parts = with_steps parts.0 parts.1

-- what is made of an operand and at most one step after it
abbrev pub maybe_of : Counted × Option Step → Counted
maybe_of parts = with_maybe parts.0 parts.1

-- operands with any number of operators between them, from left to right
abbrev pub read_chain : List ℕ → (Token → Option (Operator × Span)) → (ℕ → Reader Counted) → ℕ → Reader Counted
read_chain kinds operator next room = read_as steps_of (read_then (next room) (λ c. read_many_from kinds (read_step operator next room) count_after c.1))

-- two operands at most, and the operator between them
abbrev pub read_single : List ℕ → (Token → Option (Operator × Span)) → (ℕ → Reader Counted) → ℕ → Reader Counted
read_single kinds operator next room = read_as maybe_of (read_then (next room) (λ c. read_maybe kinds (read_step operator next room c.1)))
