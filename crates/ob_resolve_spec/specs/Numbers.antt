-- The numbers of things in the class table. What denotes nothing gets some number: no such table is handed out.
use Rattle.std.specs.Prelude.{ℕ, ◌+◌, false, List, map, length, Option, unwrap_or, slice_get, if◌then◌else◌}
use Rattle.std.specs.Option.{option_map_or}
use Rattle.ob_base.specs.declared.id.ContractId.{ContractId}
use Rattle.ob_base.specs.declared.id.FieldId.{FieldId}
use Rattle.ob_base.specs.declared.id.StateId.{StateId}
use Rattle.ob_base.specs.declared.id.TxId.{TxId}
use Rattle.ob_base.specs.declared.permission.Perm.{Perm}
use Rattle.ob_tree.specs.Members.{Contract}
use Rattle.ob_tree.specs.declared.name.PermNode.{PermNode}
use Rattle.ob_perm.specs.States.{States, all_states, interface_states}
use Rattle.ob_perm.specs.Permissions.{Permission, owned, shared, unowned}
use Rattle.ob_perm.specs.Masks.{perm_of}
use Rattle.ob_table_spec.specs.Names.{Name, is_among, number_of}
use Rattle.ob_resolve_spec.specs.Declarations.{state_names, field_names, transactions_of}
use Rattle.ob_resolve_spec.specs.Permissions.{WrittenPermission, as_shared, as_unowned, as_owner, as_owner_in, written_permission}

-- the number of a contract
abbrev pub contract_id : Option ℕ → ContractId
contract_id n = record { 0 = unwrap_or n 0 }

-- the number of a contract's state
abbrev pub state_id : Option Contract → Name → StateId
state_id c name = record { 0 = option_map_or (λ c. unwrap_or (number_of name (state_names c)) 0) c 0 }

-- the number of a contract's field
abbrev pub field_id : Contract → Name → FieldId
field_id c name = record { 0 = unwrap_or (number_of name (field_names c)) 0 }

-- how many come before the transactions: a contract's constructor has the number 0
abbrev pub first_transaction : Contract → ℕ
first_transaction c = if c.interface then 0 else 1

-- the number of a contract's transaction
abbrev pub transaction_id : Option Contract → Name → TxId
transaction_id c name = record {
  0 = option_map_or
      (λ c. unwrap_or (number_of name (map (λ t. t.name.name) (transactions_of c))) 0 + first_transaction c) c 0;
}

-- Permissions over the numbers of states.

-- the numbers of the states whose names are among these
abbrev pub numbers_of_states : List Name → List Name → States
numbers_of_states states names = λ i. option_map_or (λ state. is_among state names) (slice_get states i) false

-- the states of an owner that knows no more
abbrev pub whole : Contract → States
whole c = if c.interface then interface_states (length (state_names c)) else all_states (length (state_names c))

-- what is written of a contract, over the numbers of its states
abbrev pub permission_on : Contract → WrittenPermission → Permission
permission_on c as_shared = shared
permission_on c as_unowned = unowned
permission_on c as_owner = owned (whole c)
permission_on c (as_owner_in states) = owned (numbers_of_states (state_names c) states)

-- as it stands in the table
abbrev pub perm_on : Option Contract → PermNode → Perm
perm_on c node = option_map_or (λ c. perm_of (permission_on c (written_permission node))) c (perm_of unowned)
