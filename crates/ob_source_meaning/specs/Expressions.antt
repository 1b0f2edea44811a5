-- What expressions give, evaluated from left to right (the Obsidian language documentation, "Expressions"; overflow is
-- this project's own).
use Rattle.std.specs.Prelude.{true, false, List, [], ◌∷◌, Option, Some, None, option_map}
use Rattle.ob_base.specs.declared.fault.Span.{Span}
use Rattle.ob_base.specs.declared.id.ContractId.{ContractId}
use Rattle.ob_base.specs.declared.id.TxId.{TxId}
use Rattle.ob_table.specs.Expressions.{Expression, resolved_number, resolved_text, resolved_bool, resolved_seen, resolved_unary, resolved_binary, resolved_logical, resolved_call, resolved_new, Arguments, no_arguments, and_argument}
use Rattle.ob_table.specs.declared.operator.LogicalOperator.{LogicalOperator}
use Rattle.ob_table.specs.declared.operator.LogicalOperator.TheVariants.{And, Or}
use Rattle.ob_table.specs.declared.seen.Seen.{Seen}
use Rattle.ob_table.specs.declared.seen.SeenAt.{SeenAt}
use Rattle.ob_heap_spec.specs.Values.{Value, int_value, bool_value, text_value}
use Rattle.ob_heap_spec.specs.Operations.{Operated, operated, overflows, other_kinds, between, before}
use Rattle.ob_heap_spec.specs.Worlds.{World, by_overflow, RunOutcome, gives, abort, wrong, ◌>>=◌, with_some}
use Rattle.ob_source_meaning.specs.Frames.{SourceFrame, SourceOperand, known, named, Locals, Callee, of_object, of_this, of_new, Calls}
use Rattle.ob_source_meaning.specs.Naming.{object_seen, read, reference_name, values_of_operands}

-- what an operation comes to in a run; where the result is no `int` it aborts with the line of the operator
abbrev pub after_operation : Span → Operated → World → RunOutcome Value
after_operation sign (operated v) w = gives v w
after_operation sign overflows w = abort (by_overflow sign.line) w
after_operation sign other_kinds w = wrong

-- what the left side of `&&` or `||` settles: the value, where it decides alone; that the value is the right side's; or
-- nothing, where it is no truth value
pub data Settled : Type 0 where
  decides : Value → Settled
  gives_right : Settled
  unfit : Settled

-- what the left side of `&&` settles
abbrev pub settled_by_and : Value → Settled
settled_by_and (bool_value true) = gives_right
settled_by_and (bool_value false) = decides (bool_value false)
settled_by_and x = unfit

-- what the left side of `||` settles
abbrev pub settled_by_or : Value → Settled
settled_by_or (bool_value true) = decides (bool_value true)
settled_by_or (bool_value false) = gives_right
settled_by_or x = unfit

-- what the left side of `&&` or `||` settles, by the operator
abbrev pub settled : LogicalOperator → Value → Settled
settled And x = settled_by_and x
settled Or x = settled_by_or x

-- the value of `&&` or `||` once the left side settled this: the right side counts only where the value is its own
abbrev pub after_left : Settled → World → RunOutcome Value → RunOutcome Value
after_left (decides v) w right = gives v w
after_left gives_right w right = right
after_left unfit w right = wrong

-- an operand: a reference's name as it is, and else the value
abbrev pub operand_or : Option Seen → World → RunOutcome Value → RunOutcome SourceOperand
operand_or (Some seen) w value = gives (named seen) w
operand_or None w value = value >>= (λ v w1. gives (known v) w1)

-- the result of a call in an expression; without one the run goes wrong
abbrev pub with_result : Option Value → World → RunOutcome Value
with_result result w = with_some result (λ v. gives v w)

-- what a receiver and a transaction's number name; the receiver is read now
abbrev pub callee_of : SourceFrame → Locals → World → Option SeenAt → ContractId → TxId → Option Callee
callee_of f ls w None contract tx = Some (of_this f tx)
callee_of f ls w (Some seen) contract tx = option_map (λ n. of_object n contract tx) (object_seen f ls w seen.of)

-- a call starts: the names among its operands are read, and then the receiver
abbrev pub started : Calls → SourceFrame → Locals → Option SeenAt → ContractId → TxId → List SourceOperand → World
    → RunOutcome (Option Value)
started calls f ls receiver contract tx operands w =
    with_some (values_of_operands f ls w operands)
    (λ args. with_some (callee_of f ls w receiver contract tx) (λ callee. calls callee args w))

-- a `new` starts: the names among its operands are read
abbrev pub constructed : Calls → SourceFrame → Locals → ContractId → List SourceOperand → World → RunOutcome (Option Value)
constructed calls f ls contract operands w =
    with_some (values_of_operands f ls w operands) (λ args. calls (of_new contract) args w)

abbrev mutual
  -- the value of an expression; its parts are evaluated from left to right
  pub value_of : Calls → SourceFrame → Expression → Locals → World → RunOutcome Value
  value_of calls f (resolved_number z span) ls w = gives (int_value z) w
  value_of calls f (resolved_text bytes span) ls w = gives (text_value bytes) w
  value_of calls f (resolved_bool b span) ls w = gives (bool_value b) w
  value_of calls f (resolved_seen seen span) ls w = read f ls seen.of w
  value_of calls f (resolved_unary operator sign e span) ls w =
      value_of calls f e ls w >>= (λ x w1. after_operation sign (before operator x) w1)
  value_of calls f (resolved_binary operator sign left right span) ls w =
      value_of calls f left ls w
      >>= (λ x w1. value_of calls f right ls w1 >>= (λ y w2. after_operation sign (between operator x y) w2))
  value_of calls f (resolved_logical operator sign left right span) ls w =
      value_of calls f left ls w >>= (λ x w1. after_left (settled operator x) w1 (value_of calls f right ls w1))
  value_of calls f (resolved_call receiver contract tx name args span) ls w =
      operands_of calls f args ls w
      >>= (λ operands w1. started calls f ls receiver contract tx operands w1 >>= with_result)
  value_of calls f (resolved_new contract args span) ls w =
      operands_of calls f args ls w >>= (λ operands w1. constructed calls f ls contract operands w1 >>= with_result)

  -- arguments as operands, from left to right
  pub operands_of : Calls → SourceFrame → Arguments → Locals → World → RunOutcome (List SourceOperand)
  operands_of calls f no_arguments ls w = gives [] w
  operands_of calls f (and_argument e es) ls w =
      operand_or (reference_name f ls e) w (value_of calls f e ls w)
      >>= (λ x w1. operands_of calls f es ls w1 >>= (λ xs w2. gives (x ∷ xs) w2))

-- an operand of a state change
abbrev pub operand_of : Calls → SourceFrame → Expression → Locals → World → RunOutcome SourceOperand
operand_of calls f e ls w = operand_or (reference_name f ls e) w (value_of calls f e ls w)

-- an operand that stands alone has no result
abbrev pub let_go : SourceOperand → World → RunOutcome (Option Value)
let_go x w = gives None w

-- a call or a `new` that stands alone; another expression is evaluated, and its value counts for nothing
abbrev pub run_alone : Calls → SourceFrame → Expression → Locals → World → RunOutcome (Option Value)
run_alone calls f (resolved_call receiver contract tx name args span) ls w =
    operands_of calls f args ls w >>= (λ operands w1. started calls f ls receiver contract tx operands w1)
run_alone calls f (resolved_new contract args span) ls w =
    operands_of calls f args ls w >>= (λ operands w1. constructed calls f ls contract operands w1)
run_alone calls f e ls w = operand_of calls f e ls w >>= let_go
