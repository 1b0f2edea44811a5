-- A light that is flipped while its state is tested, and the next object after that abort (this project's own program).
use Rattle.std.specs.Prelude.{true, false, List, [], ◌∷◌, Option, Some, None}
use Rattle.ob_table.specs.Expressions.{resolved_call, resolved_new, arguments}
use Rattle.ob_table.specs.Statements.{resolved_declare, resolved_change, resolved_discard, resolved_test, resolved_return, resolved_block, no_otherwise, statements}
use Rattle.ob_table.specs.Tables.{ClassTable}
use Rattle.ob_table.specs.declared.seen.Kind.TheVariants.{Reference as ReferenceLocal}
use Rattle.ob_table.specs.declared.contract.ResolvedType.TheVariants.{Reference}
use Rattle.ob_table.specs.declared.contract.Contract.{Contract}
use Rattle.ob_heap_spec.specs.Values.{Value, reference, nothing}
use Rattle.ob_heap_spec.specs.Objects.{Object}
use Rattle.ob_heap_spec.specs.Worlds.{RunOutcome, object_item, next_item, by_state}
use Rattle.ob_source_laws.specs.Laws.{objects_after}
use Rattle.ob_examples.specs.Written.{on_line, contract_number, state_of_number, transaction_number, as_shared, as_unowned, local_at, param, signature, default_constructor, body, Told, tells, tells_abort, spending, run_on_store}

-- `state On; state Off; Light@Shared() { ->On; } transaction flip(Light@Shared this) { ->Off; }`
abbrev pub light : Contract
light = record {
  name = 76 ∷ [];
  asset = false;
  main = false;
  interface = false;
  implements = None;
  states = (79 ∷ 110 ∷ []) ∷ (79 ∷ 102 ∷ 102 ∷ []) ∷ [];
  fields = [];
  constructor = Some (record { 0 = 0 });
  transactions = signature [] as_unowned as_shared [] None ∷ signature (102 ∷ []) as_shared as_shared [] None ∷ [];
}

-- `make() returns Light@Shared` and `both(Light@Shared x, Light@Shared y)`
abbrev pub room : Contract
room = record {
  name = 82 ∷ [];
  asset = false;
  main = true;
  interface = false;
  implements = None;
  states = [];
  fields = [];
  constructor = Some (record { 0 = 0 });
  transactions =
      default_constructor
      ∷ signature (109 ∷ []) as_unowned as_unowned [] (Some (Reference (contract_number 0) as_shared))
      ∷ signature (98 ∷ []) as_unowned as_unowned
      (param (Reference (contract_number 0) as_shared) as_shared
      ∷ param (Reference (contract_number 0) as_shared) as_shared
      ∷ []) None
      ∷ [];
}

-- `return new Light();` and `Light z = new Light(); if (x in On) { y.flip(); }`
abbrev pub lights : ClassTable
lights = record {
  contracts = light ∷ room ∷ [];
  bodies =
      body 0 0 (resolved_change (state_of_number 0) [] (on_line 4) ∷ [])
      ∷ body 0 1 (resolved_change (state_of_number 1) [] (on_line 5) ∷ [])
      ∷ body 1 0 []
      ∷ body 1 1
      (resolved_return (Some (resolved_new (contract_number 0) (arguments []) (on_line 8))) (on_line 8) ∷ [])
      ∷ body 1 2
      (resolved_declare 3 (on_line 10) (ReferenceLocal (contract_number 0))
      (resolved_new (contract_number 0) (arguments []) (on_line 10)) (on_line 10)
      ∷ resolved_test (local_at 1 11) (state_of_number 0)
      (resolved_block (statements (resolved_discard
      (resolved_call (Some (local_at 2 11)) (contract_number 0) (transaction_number 1) (on_line 11) (arguments [])
      (on_line 11))
      (on_line 11) ∷ [])) (on_line 11)) no_otherwise (on_line 11)
      ∷ [])
      ∷ [];
}

-- a store with a room and a shared light that is on
abbrev pub lit_store : List Object
lit_store =
    record { contract = contract_number 1; state = None; fields = nothing; shared = false; disowned = false }
    ∷ record {
      contract = contract_number 0;
      state = Some (state_of_number 0);
      fields = nothing;
      shared = true;
      disowned = false;
    }
    ∷ []

-- `both` with the light twice: it is tested, and then flipped under its test
abbrev pub flipped_under_test : RunOutcome (Option Value)
flipped_under_test = run_on_store lights 20 lit_store 1 0 2 (reference 1 ∷ reference 1 ∷ [])

-- It aborts at the change of state of the light, whose number is 1. The new light counts for no read.
abbrev pub flip_aborted : Told
flip_aborted = tells_abort (by_state 1 None)
    (spending 8
    (object_item 1 ∷ object_item 1 ∷ object_item 1 ∷ next_item ∷ object_item 0 ∷ object_item 1 ∷ object_item 1 ∷ []))

-- `make` on the store after that abort
abbrev pub made_after_abort : RunOutcome (Option Value)
made_after_abort = run_on_store lights 20 (objects_after lit_store flipped_under_test) 1 0 1 []

-- the light that it makes has the number 2, which the aborted run's had
abbrev pub second_light : Told
second_light = tells (Some (reference 2))
    (record { contract = 1; state = 32; fields = []; shared = false; disowned = false }
    ∷ record { contract = 0; state = 0; fields = []; shared = true; disowned = false }
    ∷ record { contract = 0; state = 0; fields = []; shared = true; disowned = false }
    ∷ [])
    (spending 4 (next_item ∷ object_item 0 ∷ []))
