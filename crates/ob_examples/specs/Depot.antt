-- A depot that keeps parcels and has a clock, without its transactions, of which a store at rest says nothing (this
-- project's own).
use Rattle.std.specs.Prelude.{ℕ, Bool, true, false, List, [], ◌∷◌, length, ◌==◌, fold, filter_map, Option, Some, None, option_map}
use Rattle.std.specs.List.{range_with_len}
use Rattle.ob_base.specs.declared.permission.Mode.{Mode}
use Rattle.ob_table.specs.Tables.{ClassTable}
use Rattle.ob_table.specs.declared.contract.Contract.{Contract}
use Rattle.ob_table.specs.declared.contract.Field.{Field}
use Rattle.ob_table.specs.declared.contract.ResolvedType.{ResolvedType}
use Rattle.ob_table.specs.declared.contract.ResolvedType.TheVariants.{Int, Reference}
use Rattle.ob_heap_spec.specs.Values.{Value, nothing, put}
use Rattle.ob_heap_spec.specs.Objects.{Object}
use Rattle.ob_heap_spec.specs.Contents.{HandleName, Handle, Content}
use Rattle.ob_rest_spec.specs.Failing.{FailingWay, failing_ways}
use Rattle.ob_examples.specs.Written.{contract_number, state_of_number, owner_in, as_shared, as_unowned, stateless_bit}

-- The class table.

-- a contract of this name, with states and fields
abbrev pub plain_contract : List ℕ → List (List ℕ) → List Field → Contract
plain_contract name states fields = record {
  name = name;
  asset = true;
  main = false;
  interface = false;
  implements = None;
  states = states;
  fields = fields;
  constructor = None;
  transactions = [];
}

-- a field of a type, in the states of these bits
abbrev pub depot_field : List ℕ → ResolvedType → ℕ → Field
depot_field name of available = record { name = name; of = of; available = available }

-- the bits of the depot's three states and of none
abbrev pub depot_anywhere : ℕ
depot_anywhere = 4294967303

-- `asset contract Coin { }`; `asset interface Parcel` with the states Packed and Sent; `asset contract Box implements Parcel`
-- with Sent, Lost and Packed; `contract Clock` with On and Off; and `main asset contract Depot` with the states Empty, Open
-- (`Parcel@Packed first; Coin@Owned fee`) and Kept (`Parcel@Owned kept`), and the fields `Clock@Shared clock`,
-- `Coin@Unowned sample` and `int turns` in each of them
abbrev pub depot : ClassTable
depot = record {
  contracts =
      plain_contract (67 ∷ []) [] []
      ∷ record (plain_contract (80 ∷ []) ((80 ∷ []) ∷ (83 ∷ []) ∷ []) []) { interface = true }
      ∷ record (plain_contract (66 ∷ []) ((83 ∷ []) ∷ (76 ∷ []) ∷ (80 ∷ []) ∷ []) []) { implements = Some (contract_number 1) }
      ∷ record (plain_contract (84 ∷ []) ((79 ∷ []) ∷ (70 ∷ []) ∷ []) []) { asset = false }
      ∷ record (plain_contract (68 ∷ []) ((69 ∷ []) ∷ (79 ∷ []) ∷ (75 ∷ []) ∷ [])
      (depot_field (102 ∷ []) (Reference (contract_number 1) (owner_in 1)) 2
      ∷ depot_field (101 ∷ []) (Reference (contract_number 0) (owner_in stateless_bit)) 2
      ∷ depot_field (107 ∷ []) (Reference (contract_number 1) (owner_in 8589934595)) 4
      ∷ depot_field (99 ∷ []) (Reference (contract_number 3) as_shared) depot_anywhere
      ∷ depot_field (115 ∷ []) (Reference (contract_number 0) as_unowned) depot_anywhere
      ∷ depot_field (116 ∷ []) Int depot_anywhere
      ∷ [])) { main = true }
      ∷ [];
  bodies = [];
}

-- Objects and handles.

-- an object of the contract of a number, in a state, with these values of its fields, and without marks
abbrev pub object_in : ℕ → Option ℕ → List (ℕ × Value) → Object
object_in contract state values = record {
  contract = contract_number contract;
  state = option_map state_of_number state;
  fields = fold (λ fields v. put fields v.0 v.1) nothing values;
  shared = false;
  disowned = false;
}

-- a coin
abbrev pub coin_in : Option ℕ → List (ℕ × Value) → Object
coin_in state values = object_in 0 state values

-- a box
abbrev pub box_in : Option ℕ → List (ℕ × Value) → Object
box_in state values = object_in 2 state values

-- a clock
abbrev pub clock_in : Option ℕ → List (ℕ × Value) → Object
clock_in state values = object_in 3 state values

-- a depot
abbrev pub depot_in : Option ℕ → List (ℕ × Value) → Object
depot_in state values = object_in 4 state values

-- an object with these marks: as shared, and as disowned
abbrev pub marked : Bool → Bool → Object → Object
marked shared disowned o = record o { shared = shared; disowned = disowned }

-- a client
abbrev pub ann : List ℕ
ann = 97 ∷ []

-- and another one
abbrev pub bob : List ℕ
bob = 98 ∷ []

-- a client's handle of a number on the object of a number, in a mode
abbrev pub held_by : List ℕ → ℕ → ℕ → Mode → HandleName × Handle
held_by who name object mode = (record { who = who; name = name ∷ [] }, record { object = object; mode = mode })

-- a store with these objects and handles
abbrev pub store : List Object → List (HandleName × Handle) → Content
store objects handles = record { objects = objects; handles = handles }

-- Failures.

-- a number with the ways, if there are any
abbrev pub with_ways : ℕ → List FailingWay → Option (ℕ × List FailingWay)
with_ways n [] = None
with_ways n (way ∷ ways) = Some (n, way ∷ ways)

-- the objects of a store that fail, each with the ways
abbrev pub failures : Content → List (ℕ × List FailingWay)
failures content = filter_map (λ n. with_ways n (failing_ways depot content n)) (range_with_len 0 (length content.objects))

-- whether no object of a store fails
abbrev pub has_no_failure : Content → Bool
has_no_failure content = length (failures content) == 0
