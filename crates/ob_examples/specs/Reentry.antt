-- A call back to an object whose transaction is in progress, and a call on `this` (this project's own program).
use Rattle.std.specs.Prelude.{pos, true, false, List, [], ◌∷◌, Some, None}
use Rattle.ob_table.specs.Expressions.{resolved_number, resolved_call, resolved_new, arguments}
use Rattle.ob_table.specs.Statements.{resolved_declare, resolved_assign, resolved_return}
use Rattle.ob_table.specs.Tables.{ClassTable}
use Rattle.ob_table.specs.declared.seen.Kind.TheVariants.{Reference as ReferenceLocal}
use Rattle.ob_table.specs.declared.contract.ResolvedType.TheVariants.{Int, Reference}
use Rattle.ob_table.specs.declared.contract.Contract.{Contract}
use Rattle.ob_heap_spec.specs.Values.{int_value, nothing, put}
use Rattle.ob_heap_spec.specs.Objects.{Object}
use Rattle.ob_heap_spec.specs.Worlds.{object_item, next_item, by_reentry}
use Rattle.ob_examples.specs.Written.{on_line, contract_number, transaction_number, as_shared, as_unowned, anywhere_bits, this_at, local_at, field_at_line, value_at, param, signature, default_constructor, body, Told, tells, tells_abort, told, spending, run_on_store}

-- `contract B { transaction back(A@Shared a) returns int { return a.get(); } }`
abbrev pub back_caller : Contract
back_caller = record {
  name = 66 ∷ [];
  asset = false;
  main = false;
  interface = false;
  implements = None;
  states = [];
  fields = [];
  constructor = Some (record { 0 = 0 });
  transactions =
      default_constructor
      ∷ signature (98 ∷ []) as_unowned as_unowned (param (Reference (contract_number 1) as_shared) as_shared ∷ [])
      (Some Int)
      ∷ [];
}

-- `int n;`, a constructor that gives Shared, and `get` with `this` Unowned, `round` and `direct` with `this` Shared
abbrev pub called_back : Contract
called_back = record {
  name = 65 ∷ [];
  asset = false;
  main = true;
  interface = false;
  implements = None;
  states = [];
  fields = record { name = 110 ∷ []; of = Int; available = anywhere_bits } ∷ [];
  constructor = Some (record { 0 = 0 });
  transactions =
      signature [] as_unowned as_shared [] None
      ∷ signature (103 ∷ []) as_unowned as_unowned [] (Some Int)
      ∷ signature (114 ∷ []) as_shared as_shared [] (Some Int)
      ∷ signature (100 ∷ []) as_shared as_shared [] (Some Int)
      ∷ [];
}

-- `return a.get();`; and `n = 7;`, `return n;`, `B b = new B(); return b.back(this);`, `return get();`
abbrev pub reentry : ClassTable
reentry = record {
  contracts = back_caller ∷ called_back ∷ [];
  bodies =
      body 0 0 []
      ∷ body 0 1
      (resolved_return (Some (resolved_call (Some (local_at 1 1)) (contract_number 1) (transaction_number 1) (on_line 1)
      (arguments []) (on_line 1))) (on_line 1)
      ∷ [])
      ∷ body 1 0 (resolved_assign (field_at_line 0 4) (resolved_number (pos 7) (on_line 4)) (on_line 4) ∷ [])
      ∷ body 1 1 (resolved_return (Some (value_at (field_at_line 0 5))) (on_line 5) ∷ [])
      ∷ body 1 2
      (resolved_declare 1 (on_line 6) (ReferenceLocal (contract_number 0))
      (resolved_new (contract_number 0) (arguments []) (on_line 6)) (on_line 6)
      ∷ resolved_return (Some (resolved_call (Some (local_at 1 6)) (contract_number 0) (transaction_number 1)
      (on_line 6)
      (arguments (value_at (this_at 6) ∷ [])) (on_line 6))) (on_line 6)
      ∷ [])
      ∷ body 1 3
      (resolved_return (Some (resolved_call None (contract_number 1) (transaction_number 1) (on_line 7) (arguments [])
      (on_line 7)))
      (on_line 7)
      ∷ [])
      ∷ [];
}

-- a store with one such object, which has 7
abbrev pub seven_store : List Object
seven_store =
    record {
      contract = contract_number 1;
      state = None;
      fields = put nothing 0 (int_value (pos 7));
      shared = true;
      disowned = false;
    }
    ∷ []

-- `round` is called back while it is in progress
abbrev pub round : Told
round = told reentry (run_on_store reentry 20 seven_store 1 0 2 [])

-- it aborts by re-entry of the object of number 0
abbrev pub round_aborted : Told
round_aborted = tells_abort (by_reentry 0)
    (spending 7 (object_item 0 ∷ object_item 0 ∷ next_item ∷ object_item 0 ∷ object_item 0 ∷ []))

-- `direct` calls `get` on `this`
abbrev pub direct : Told
direct = told reentry (run_on_store reentry 20 seven_store 1 0 3 [])

-- it gives the 7 of the object, which stays as it was
abbrev pub direct_gives_seven : Told
direct_gives_seven = tells (Some (int_value (pos 7)))
    (record { contract = 1; state = 32; fields = Some (int_value (pos 7)) ∷ []; shared = true; disowned = false } ∷ [])
    (spending 4 (object_item 0 ∷ object_item 0 ∷ []))
