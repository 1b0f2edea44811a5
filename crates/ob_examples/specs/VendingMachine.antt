-- The vending machine of the article (Coblenz et al., TOPLAS 42(3), 2020, section 2), written by hand.
use Rattle.std.specs.Prelude.{ℕ, pos, true, false, List, [], ◌∷◌, Some, None}
use Rattle.ob_table.specs.declared.operator.BinaryOperator.TheVariants.{Add}
use Rattle.ob_base.specs.declared.permission.Mode.TheVariants.{Owned}
use Rattle.ob_table.specs.Expressions.{resolved_number, resolved_binary}
use Rattle.ob_table.specs.Statements.{resolved_declare, resolved_assign, resolved_change, resolved_return, resolved_disown}
use Rattle.ob_table.specs.Tables.{ClassTable}
use Rattle.ob_table.specs.declared.seen.Kind.TheVariants.{Reference as ReferenceLocal}
use Rattle.ob_table.specs.declared.contract.ResolvedType.TheVariants.{Int, Reference}
use Rattle.ob_table.specs.declared.contract.Contract.{Contract}
use Rattle.ob_heap_spec.specs.Values.{int_value, reference, nothing, put}
use Rattle.ob_heap_spec.specs.Objects.{Object}
use Rattle.ob_heap_spec.specs.Contents.{Content}
use Rattle.ob_heap_spec.specs.Worlds.{object_item, by_fuel}
use Rattle.ob_examples.specs.Written.{on_line, contract_number, state_of_number, owner_in, as_unowned, stateless_bit, anywhere_bits, local_at, field_at_line, value_at, param, signature, default_constructor, body, Told, tells, tells_abort, told, spending, run_on_store}

-- `asset contract Coin { }`
abbrev pub coin : Contract
coin = record {
  name = 67 ∷ 111 ∷ 105 ∷ 110 ∷ [];
  asset = true;
  main = false;
  interface = false;
  implements = None;
  states = [];
  fields = [];
  constructor = Some (record { 0 = 0 });
  transactions = default_constructor ∷ [];
}

-- `asset contract Candy { }`, which the machine sells
abbrev pub candy : Contract
candy = record coin { name = 67 ∷ 97 ∷ 110 ∷ 100 ∷ 121 ∷ [] }

-- The machine has the states Full and Empty, the field `candy` in Full, and `sold` in both. Its first transaction here
-- is `buy(Machine@Full >> Empty this, Coin@Owned >> Unowned c) returns Candy@Owned`.
abbrev pub machine : Contract
machine = record {
  name = 77 ∷ [];
  asset = true;
  main = true;
  interface = false;
  implements = None;
  states = (70 ∷ []) ∷ (69 ∷ []) ∷ [];
  fields =
      record { name = 99 ∷ []; of = Reference (contract_number 1) (owner_in stateless_bit); available = 1 }
      ∷ record { name = 115 ∷ []; of = Int; available = anywhere_bits }
      ∷ [];
  constructor = Some (record { 0 = 0 });
  transactions =
      signature [] as_unowned (owner_in 2) [] None
      ∷ signature (98 ∷ []) (owner_in 1) (owner_in 2)
      (param (Reference (contract_number 0) (owner_in stateless_bit)) as_unowned ∷ [])
      (Some (Reference (contract_number 1) (owner_in stateless_bit)))
      ∷ [];
}

-- `sold = 0; ->Empty;` and `disown c; Candy r = candy; ->Empty; sold = sold + 1; return r;`
abbrev pub vending_machine : ClassTable
vending_machine = record {
  contracts = coin ∷ candy ∷ machine ∷ [];
  bodies =
      body 0 0 []
      ∷ body 1 0 []
      ∷ body 2 0
      (resolved_assign (field_at_line 1 7) (resolved_number (pos 0) (on_line 7)) (on_line 7)
      ∷ resolved_change (state_of_number 1) [] (on_line 7)
      ∷ [])
      ∷ body 2 1
      (resolved_disown (local_at 1 14) (on_line 14)
      ∷ resolved_declare 2 (on_line 15) (ReferenceLocal (contract_number 1)) (value_at (field_at_line 0 15))
      (on_line 15)
      ∷ resolved_change (state_of_number 1) [] (on_line 16)
      ∷ resolved_assign (field_at_line 1 17)
      (resolved_binary Add (on_line 17) (value_at (field_at_line 1 17)) (resolved_number (pos 1) (on_line 17))
      (on_line 17))
      (on_line 17)
      ∷ resolved_return (Some (value_at (local_at 2 18))) (on_line 18)
      ∷ [])
      ∷ [];
}

-- a machine that owns the candy of number 0, and has sold none
abbrev pub full_machine : Object
full_machine = record {
  contract = contract_number 2;
  state = Some (state_of_number 0);
  fields = put (put nothing 0 (reference 0)) 1 (int_value (pos 0));
  shared = false;
  disowned = false;
}

-- a store with a candy, a coin, and that machine
abbrev pub vending_store : List Object
vending_store =
    record { contract = contract_number 1; state = None; fields = nothing; shared = false; disowned = false }
    ∷ record { contract = contract_number 0; state = None; fields = nothing; shared = false; disowned = false }
    ∷ full_machine
    ∷ []

-- the same with two handles: a client owns the coin and the machine
abbrev pub vending_content : Content
vending_content = record {
  objects = vending_store;
  handles =
      (record { who = 97 ∷ []; name = 99 ∷ [] }, record { object = 1; mode = Owned })
      ∷ (record { who = 97 ∷ []; name = 109 ∷ [] }, record { object = 2; mode = Owned })
      ∷ [];
}

-- the coin is given to `buy` with so many units
abbrev pub candy_bought : ℕ → Told
candy_bought units = told vending_machine (run_on_store vending_machine units vending_store 2 2 1 (reference 1 ∷ []))

-- it gives the candy; the coin is disowned, and the machine is empty and has sold one
abbrev pub one_sold : Told
one_sold = tells (Some (reference 0))
    (record { contract = 1; state = 32; fields = []; shared = false; disowned = false }
    ∷ record { contract = 0; state = 32; fields = []; shared = false; disowned = true }
    ∷ record {
      contract = 2;
      state = 1;
      fields = None ∷ Some (int_value (pos 1))
          ∷ [];
      shared = false;
      disowned = false;
    }
    ∷ [])
    (spending 6 (object_item 1 ∷ object_item 2 ∷ []))

-- it aborts before the candy is given
abbrev pub out_of_units : Told
out_of_units = tells_abort by_fuel (spending 5 (object_item 1 ∷ object_item 2 ∷ []))
