-- Expressions with numbers in place of names, as plain data, with each part and place, in its order (the Obsidian language
-- documentation, "Expressions").
use Rattle.std.specs.Prelude.{ℕ, ℤ, Bool, Option, List, [], ◌∷◌}
use Rattle.ob_base.specs.declared.fault.Span.{Span}
use Rattle.ob_base.specs.declared.id.ContractId.{ContractId}
use Rattle.ob_base.specs.declared.id.TxId.{TxId}
use Rattle.ob_table.specs.declared.operator.UnaryOperator.{UnaryOperator}
use Rattle.ob_table.specs.declared.operator.BinaryOperator.{BinaryOperator}
use Rattle.ob_table.specs.declared.operator.LogicalOperator.{LogicalOperator}
use Rattle.ob_table.specs.declared.seen.SeenAt.{SeenAt}

mutual
  -- an expression; the last place is that of the whole
  pub data Expression : Type 0 where
    resolved_number : ℤ → Span → Expression
    resolved_text : List ℕ → Span → Expression
    resolved_bool : Bool → Span → Expression
    resolved_seen : SeenAt → Span → Expression
    -- the operator, its place, its operand
    resolved_unary : UnaryOperator → Span → Expression → Span → Expression
    -- the operator, its place, its operands
    resolved_binary : BinaryOperator → Span → Expression → Expression → Span → Expression
    -- `&&` or `||`: the right operand is evaluated only where the left one leaves the value open
    resolved_logical : LogicalOperator → Span → Expression → Expression → Span → Expression
    -- the receiver unless it is `this`, its contract, the transaction, the place of its name, the arguments
    resolved_call : Option SeenAt → ContractId → TxId → Span → Arguments → Span → Expression
    resolved_new : ContractId → Arguments → Span → Expression

  -- the arguments of a call or a `new`, in their order
  pub data Arguments : Type 0 where
    no_arguments : Arguments
    and_argument : Expression → Arguments → Arguments

-- the arguments of a list
abbrev pub arguments : List Expression → Arguments
arguments [] = no_arguments
arguments (e ∷ es) = and_argument e (arguments es)
