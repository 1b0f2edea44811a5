-- Objects, and in which states they are (Coblenz et al., TOPLAS 42(3), 2020, "Contracts" and "Interfaces"; that states
-- go by name between a contract and its interface is this project's own).
use Rattle.std.specs.Prelude.{ℕ, Bool, false, not, ◌==◌, ◌||◌, length, Option, Some, is_some, slice_get, if◌then◌else◌, None}
use Rattle.std.specs.Option.{option_map_or}
use Rattle.ob_base.specs.declared.id.ContractId.{ContractId}
use Rattle.ob_base.specs.declared.id.StateId.{StateId}
use Rattle.ob_base.specs.declared.permission.Perm.{Perm}
use Rattle.ob_perm.specs.States.{stateless, unnamed, all_below}
use Rattle.ob_perm.specs.Masks.{states_of}
use Rattle.ob_perm.specs.Naming.{seen}
use Rattle.ob_table.specs.Tables.{ClassTable, contract_at}
use Rattle.ob_table.specs.declared.contract.Contract.{Contract}
use Rattle.ob_table.specs.declared.contract.Field.{Field}
use Rattle.ob_table_spec.specs.Conditions.{naming}
use Rattle.ob_heap_spec.specs.Values.{Value, Numbered, put, nothing}

-- An object: its contract, its state if it is in one, the values of its fields by their numbers, whether it is marked
-- as shared, and whether as disowned.
pub record Object : Type 0 where
  pub contract : ContractId
  pub state : Option StateId
  pub fields : Numbered Value
  pub shared : Bool
  pub disowned : Bool

-- the number of a state, or that of no state
abbrev pub state_number : Option StateId → ℕ
state_number state = option_map_or (λ (s : StateId). s.0) state stateless

-- whether a field is available in a state
abbrev pub is_available : Option StateId → Field → Bool
is_available state field = states_of field.available (state_number state)

-- whether a contract has a field of this number that is available in a state
abbrev pub has_field : Contract → Option StateId → ℕ → Bool
has_field c state k = option_map_or (is_available state) (slice_get c.fields k) false

-- as which state a contract or interface sees a state of another contract: by its name
abbrev pub seen_between : Option Contract → Option Contract → ℕ → ℕ
seen_between (Some declared) (Some own) s = seen (naming declared own) s
seen_between declared own s = unnamed

-- as which state the contract or interface of this number sees an object's state
abbrev pub seen_state : ClassTable → ContractId → Object → ℕ
seen_state table declared o =
    if declared.0 == o.contract.0 then state_number o.state
    else seen_between (contract_at table declared) (contract_at table o.contract) (state_number o.state)

-- whether an object is in a state of a contract or interface
abbrev pub is_in_state : ClassTable → ContractId → StateId → Object → Bool
is_in_state table declared s o = seen_state table declared o == s.0

-- whether an object is in one of the states of a permission on a contract or interface
abbrev pub is_in_states : ClassTable → ContractId → Perm → Object → Bool
is_in_states table declared p o = states_of p.states (seen_state table declared o)

-- whether an object has a value in each field that is available in its state
abbrev pub has_all_values : Contract → Object → Bool
has_all_values c o = all_below (length c.fields) (λ k. not (has_field c o.state k) || is_some (o.fields k))

-- an object whose field has another value
abbrev pub with_field : ℕ → Value → Object → Object
with_field k v o = record o { fields = put o.fields k v }

-- an object before its constructor has run
abbrev pub unfinished : ContractId → Object
unfinished contract = record { contract = contract; state = None; fields = nothing; shared = false; disowned = false }
