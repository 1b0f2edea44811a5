-- A loop that adds the numbers from 1 up to a given one (this project's own program).
use Rattle.std.specs.Prelude.{ℕ, pos, false, true, List, [], ◌∷◌, Some, None}
use Rattle.ob_table.specs.declared.operator.BinaryOperator.TheVariants.{Add, Less}
use Rattle.ob_table.specs.Statements.{Statement, resolved_declare, resolved_assign, resolved_while, resolved_return, resolved_block, statements}
use Rattle.ob_table.specs.Tables.{ClassTable}
use Rattle.ob_table.specs.declared.contract.ResolvedType.TheVariants.{Int}
use Rattle.ob_table.specs.declared.contract.Contract.{Contract}
use Rattle.ob_table.specs.declared.seen.Kind.TheVariants.{Int as IntLocal}
use Rattle.ob_heap_spec.specs.Values.{int_value, nothing}
use Rattle.ob_heap_spec.specs.Objects.{Object}
use Rattle.ob_heap_spec.specs.Worlds.{object_item, by_fuel}
use Rattle.ob_examples.specs.Written.{on_line, contract_number, transaction_number, as_unowned, local_at, param, signature, default_constructor, body, Told, tells, tells_abort, told, spending, run_on_store}
use Rattle.ob_examples.specs.Lamp.{both_of, number_on, local_on}

-- `main contract Loop { transaction sum(int k) returns int { .. } }`
abbrev pub loop_contract : Contract
loop_contract = record {
  name = 76 ∷ [];
  asset = false;
  main = true;
  interface = false;
  implements = None;
  states = [];
  fields = [];
  constructor = Some (transaction_number 0);
  transactions = default_constructor ∷ signature (115 ∷ []) as_unowned as_unowned (param Int as_unowned ∷ []) (Some Int) ∷ [];
}

-- `while (i < k) { i = i + 1; s = s + i; }` on line 5
abbrev pub adding_loop : Statement
adding_loop = resolved_while (both_of Less 5 (local_on 3 5) (local_on 1 5)) (resolved_block (statements
    (resolved_assign (local_at 3 5) (both_of Add 5 (local_on 3 5) (number_on (pos 1) 5)) (on_line 5)
    ∷ resolved_assign (local_at 2 5) (both_of Add 5 (local_on 2 5) (local_on 3 5)) (on_line 5)
    ∷ [])) (on_line 5)) (on_line 5)

-- `int s = 0;` on line 3, `int i = 0;` on line 4, the loop, and `return s;` on line 6
abbrev pub summing : ClassTable
summing = record {
  contracts = loop_contract ∷ [];
  bodies =
      body 0 0 []
      ∷ body 0 1
      (resolved_declare 2 (on_line 3) IntLocal (number_on (pos 0) 3) (on_line 3)
      ∷ resolved_declare 3 (on_line 4) IntLocal (number_on (pos 0) 4) (on_line 4)
      ∷ adding_loop
      ∷ resolved_return (Some (local_on 2 6)) (on_line 6)
      ∷ [])
      ∷ [];
}

-- a store with an object of it
abbrev pub loop_store : List Object
loop_store =
    record { contract = contract_number 0; state = None; fields = nothing; shared = false; disowned = false } ∷ []

-- the sum of the numbers up to four, with so many units
abbrev pub sum_of_four : ℕ → Told
sum_of_four units = told summing (run_on_store summing units loop_store 0 0 1 (int_value (pos 4) ∷ []))

-- it gives 10 and takes 17 units: one for the call, one for each of the 5 turns, and one for each other statement
abbrev pub gives_ten : Told
gives_ten = tells (Some (int_value (pos 10)))
    (record { contract = 0; state = 32; fields = []; shared = false; disowned = false } ∷ [])
    (spending 17 (object_item 0 ∷ []))

-- it aborts where the seventeenth unit is needed
abbrev pub lacks_a_unit : Told
lacks_a_unit = tells_abort by_fuel (spending 16 (object_item 0 ∷ []))
