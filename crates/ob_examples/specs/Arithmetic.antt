-- Division, remainders and overflow (this project's own program).
use Rattle.std.specs.Prelude.{ℕ, ℤ, negsuc, true, false, List, [], ◌∷◌, Some, None}
use Rattle.ob_table.specs.declared.operator.BinaryOperator.{BinaryOperator}
use Rattle.ob_table.specs.declared.operator.BinaryOperator.TheVariants.{Add, Div, Rem}
use Rattle.ob_table.specs.Expressions.{Expression, resolved_binary}
use Rattle.ob_table.specs.Statements.{resolved_return}
use Rattle.ob_table.specs.Tables.{ClassTable}
use Rattle.ob_table.specs.declared.contract.ResolvedType.TheVariants.{Int}
use Rattle.ob_table.specs.declared.contract.Signature.{Signature}
use Rattle.ob_table.specs.declared.contract.Contract.{Contract}
use Rattle.ob_heap_spec.specs.Values.{int_value, nothing}
use Rattle.ob_heap_spec.specs.Objects.{Object}
use Rattle.ob_heap_spec.specs.Worlds.{object_item, by_overflow}
use Rattle.ob_examples.specs.Written.{on_line, contract_number, as_unowned, local_at, value_at, param, signature, default_constructor, body, Told, tells, tells_abort, told, spending, run_on_store}

-- a transaction of two whole numbers that gives one
abbrev pub of_two_ints : ℕ → Signature
of_two_ints letter =
    signature (letter ∷ []) as_unowned as_unowned (param Int as_unowned ∷ param Int as_unowned ∷ []) (Some Int)

-- `div`, `rem`, and `sum`, which has two quotients
abbrev pub calculator : Contract
calculator = record {
  name = 67 ∷ [];
  asset = false;
  main = true;
  interface = false;
  implements = None;
  states = [];
  fields = [];
  constructor = Some (record { 0 = 0 });
  transactions = default_constructor ∷ of_two_ints 100 ∷ of_two_ints 114 ∷ of_two_ints 115 ∷ [];
}

-- an operator on a line between the parameters of these numbers
abbrev pub between_at : BinaryOperator → ℕ → ℕ → ℕ → Expression
between_at operator n a b =
    resolved_binary operator (on_line n) (value_at (local_at a n)) (value_at (local_at b n)) (on_line n)

-- `return a / b;` on line 2, `return a % b;` on line 4, and `return a / b` on line 6 `+ b / b;` on line 7
abbrev pub arithmetic : ClassTable
arithmetic = record {
  contracts = calculator ∷ [];
  bodies =
      body 0 0 []
      ∷ body 0 1 (resolved_return (Some (between_at Div 2 1 2)) (on_line 2) ∷ [])
      ∷ body 0 2 (resolved_return (Some (between_at Rem 4 1 2)) (on_line 4) ∷ [])
      ∷ body 0 3
      (resolved_return (Some (resolved_binary Add (on_line 7) (between_at Div 6 1 2) (between_at Div 7 2 2)
      (on_line 6)))
      (on_line 6)
      ∷ [])
      ∷ [];
}

-- a store with a calculator
abbrev pub calculator_store : List Object
calculator_store =
    record { contract = contract_number 0; state = None; fields = nothing; shared = false; disowned = false } ∷ []

-- a transaction of the calculator with two numbers
abbrev pub calculated : ℕ → ℤ → ℤ → Told
calculated tx a b =
    told arithmetic (run_on_store arithmetic 5 calculator_store 0 0 tx (int_value a ∷ int_value b ∷ []))

-- it gives this number
abbrev pub gives_int : ℤ → Told
gives_int z = tells (Some (int_value z))
    (record { contract = 0; state = 32; fields = []; shared = false; disowned = false } ∷ [])
    (spending 2 (object_item 0 ∷ []))

-- it aborts by overflow, with the line of an operator
abbrev pub overflows_on : ℕ → Told
overflows_on line = tells_abort (by_overflow line) (spending 2 (object_item 0 ∷ []))

-- the least `int`
abbrev pub least_int : ℤ
least_int = negsuc 9223372036854775807
