-- What the check of a body needs of its class table's sizes.
use Rattle.std.specs.Prelude.{◌≤◌, length, All}
use Rattle.ob_base.specs.Limits.{most_states, most_fields}
use Rattle.ob_table.specs.Tables.{ClassTable}
use Rattle.ob_table.specs.declared.contract.Contract.{Contract}

-- a contract has few states and few fields
pub record IsSmall (c : Contract) : Type 0 where
  pub states : length c.states ≤ most_states
  pub fields : length c.fields ≤ most_fields

-- so have the contract of the body and all contracts of the table
pub record AreSmall (table : ClassTable) (own : Contract) : Type 0 where
  pub here : IsSmall own
  pub all : All IsSmall table.contracts
