-- How objects, states and places are shown to clients, by their names (this project's own).
use Rattle.std.specs.Prelude.{ℕ, List, slice_get, filter_map, Option, Some, None, option_map}
use Rattle.std.specs.List.{enumerate_from}
use Rattle.ob_base.specs.Optional.{◌>>=◌}
use Rattle.ob_base.specs.declared.id.StateId.{StateId}
use Rattle.ob_table.specs.Tables.{ClassTable, contract_at}
use Rattle.ob_table.specs.declared.contract.Contract.{Contract}
use Rattle.ob_heap_spec.specs.Values.{Value, reference}
use Rattle.ob_heap_spec.specs.Objects.{Object}
use Rattle.ob_heap_spec.specs.Contents.{object_at}
use Rattle.ob_heap_spec.specs.Worlds.{ReadItem, object_item, handle_item, AbortCause, by_state}
use Rattle.ob_rest_spec.specs.References.{available_value}
use Rattle.ob_rest_spec.specs.Incoming.{StorePlace, stored_field, stored_handle}
use Rattle.ob_invocation_spec.specs.Replies.{ShownObject, ShownPlace, shown_field, shown_handle, Reply, ok_nothing, ok_value, ok_object}

-- the contract of the object of a number
abbrev pub contract_of_object : ClassTable → List Object → ℕ → Option Contract
contract_of_object table objects n = object_at objects n >>= λ o. contract_at table o.contract

-- the name of a state
abbrev pub state_name : Contract → StateId → Option (List ℕ)
state_name c s = slice_get c.states s.0

-- the name of the state that a cause tells, if it tells one
abbrev pub told_state : ClassTable → List Object → AbortCause → Option (List ℕ)
told_state table objects (by_state n state) = contract_of_object table objects n >>= λ c. state >>= state_name c
told_state table objects cause = None

-- the values of an object's available fields, with their names, by the fields' numbers
abbrev pub shown_fields : Contract → Object → List (List ℕ × Value)
shown_fields c o =
    filter_map (λ f. option_map (λ value. (f.1.name, value)) (available_value c o f.0)) (enumerate_from 0 c.fields)

-- an object of a contract, by its number
abbrev pub shown_object : Contract → ℕ → Object → ShownObject
shown_object c n o = record {
  object = n;
  contract = c.name;
  state = o.state >>= state_name c;
  fields = shown_fields c o;
  shared = o.shared;
  disowned = o.disowned;
}

-- the object of a number
abbrev pub shown_at : ClassTable → List Object → ℕ → Option ShownObject
shown_at table objects n =
    object_at objects n >>= λ o. contract_at table o.contract >>= λ c. Some (shown_object c n o)

-- a place of a store
abbrev pub shown_place : ClassTable → List Object → StorePlace → Option ShownPlace
shown_place table objects (stored_field n k) =
    contract_of_object table objects n >>= λ c. slice_get c.fields k >>= λ f. Some (shown_field n f.name)
shown_place table objects (stored_handle name) = Some (shown_handle name)

-- what is read of a place
abbrev pub place_item : StorePlace → ReadItem
place_item (stored_field n k) = object_item n
place_item (stored_handle name) = handle_item name

-- the reply to a `new` or a `call` that was done, by its result
abbrev pub reply_of_result : Option Value → Reply
reply_of_result None = ok_nothing
reply_of_result (Some (reference n)) = ok_object n
reply_of_result (Some value) = ok_value value
