-- A transaction that is called through an interface, and a state that is tested through it (this project's own
-- program).
use Rattle.std.specs.Prelude.{pos, true, false, List, [], ◌∷◌, Some, None}
use Rattle.ob_table.specs.Expressions.{resolved_number, resolved_call, arguments}
use Rattle.ob_table.specs.Statements.{resolved_change, resolved_discard, resolved_test, resolved_return, resolved_block, no_otherwise, statements}
use Rattle.ob_table.specs.Tables.{ClassTable}
use Rattle.ob_table.specs.declared.contract.ResolvedType.TheVariants.{Int, Reference}
use Rattle.ob_table.specs.declared.contract.Contract.{Contract}
use Rattle.ob_heap_spec.specs.Values.{int_value, reference, nothing}
use Rattle.ob_heap_spec.specs.Objects.{Object}
use Rattle.ob_heap_spec.specs.Worlds.{object_item}
use Rattle.ob_examples.specs.Written.{on_line, contract_number, state_of_number, transaction_number, as_shared, as_unowned, local_at, param, signature, default_constructor, body, Told, tells, told, spending, run_on_store}

-- `interface Switch { state On; transaction flip(Switch@Shared this); }`
abbrev pub switch : Contract
switch = record {
  name = 83 ∷ [];
  asset = false;
  main = false;
  interface = true;
  implements = None;
  states = (79 ∷ 110 ∷ []) ∷ [];
  fields = [];
  constructor = None;
  transactions = signature (102 ∷ []) as_shared as_shared [] None ∷ [];
}

-- `state Off; state On;`, and after the constructor and `dim` the transaction `flip` of the interface
abbrev pub lamp : Contract
lamp = record {
  name = 76 ∷ [];
  asset = false;
  main = false;
  interface = false;
  implements = Some (contract_number 0);
  states = (79 ∷ 102 ∷ 102 ∷ []) ∷ (79 ∷ 110 ∷ []) ∷ [];
  fields = [];
  constructor = Some (record { 0 = 0 });
  transactions =
      signature [] as_unowned as_shared [] None
      ∷ signature (100 ∷ []) as_shared as_shared [] None
      ∷ signature (102 ∷ []) as_shared as_shared [] None
      ∷ [];
}

-- `transaction go(Switch@Shared s) returns int`
abbrev pub hall : Contract
hall = record {
  name = 72 ∷ [];
  asset = false;
  main = true;
  interface = false;
  implements = None;
  states = [];
  fields = [];
  constructor = Some (record { 0 = 0 });
  transactions =
      default_constructor
      ∷ signature (103 ∷ []) as_unowned as_unowned
      (param (Reference (contract_number 0) as_shared) as_shared ∷ [])
      (Some Int)
      ∷ [];
}

-- `->Off;` in the constructor and in `dim`, `->On;` in `flip`; `s.flip(); if (s in On) { return 1; } return 0;`
abbrev pub switches : ClassTable
switches = record {
  contracts = switch ∷ lamp ∷ hall ∷ [];
  bodies =
      body 1 0 (resolved_change (state_of_number 0) [] (on_line 3) ∷ [])
      ∷ body 1 1 (resolved_change (state_of_number 0) [] (on_line 4) ∷ [])
      ∷ body 1 2 (resolved_change (state_of_number 1) [] (on_line 5) ∷ [])
      ∷ body 2 0 []
      ∷ body 2 1
      (resolved_discard
      (resolved_call (Some (local_at 1 8)) (contract_number 0) (transaction_number 0) (on_line 8) (arguments [])
      (on_line 8)) (on_line 8)
      ∷ resolved_test (local_at 1 9) (state_of_number 0)
      (resolved_block
      (statements (resolved_return (Some (resolved_number (pos 1) (on_line 9))) (on_line 9) ∷ [])) (on_line 9))
      no_otherwise (on_line 9)
      ∷ resolved_return (Some (resolved_number (pos 0) (on_line 10))) (on_line 10)
      ∷ [])
      ∷ [];
}

-- a store with a hall and a lamp that is off and owned
abbrev pub dark_store : List Object
dark_store =
    record { contract = contract_number 2; state = None; fields = nothing; shared = false; disowned = false }
    ∷ record {
      contract = contract_number 1;
      state = Some (state_of_number 0);
      fields = nothing;
      shared = false;
      disowned = false;
    }
    ∷ []

-- `go` with the lamp
abbrev pub lamp_flipped : Told
lamp_flipped = told switches (run_on_store switches 20 dark_store 2 0 1 (reference 1 ∷ []))

-- The lamp's own `flip` ran, and its state is the interface's On. The lamp was marked as shared.
abbrev pub lamp_is_on : Told
lamp_is_on = tells (Some (int_value (pos 1)))
    (record { contract = 2; state = 32; fields = []; shared = false; disowned = false }
    ∷ record { contract = 1; state = 1; fields = []; shared = true; disowned = false }
    ∷ [])
    (spending 6 (object_item 1 ∷ object_item 1 ∷ object_item 1 ∷ object_item 0 ∷ object_item 1 ∷ []))
