-- The formats of the numbers that represent things (this project's own): contracts and transactions in 32 bits,
-- states and fields in one byte.
use Rattle.ob_base.specs.declared.id.ContractId.{ContractId}
use Rattle.ob_base.specs.declared.id.StateId.{StateId}
use Rattle.ob_base.specs.declared.id.FieldId.{FieldId}
use Rattle.ob_base.specs.declared.id.TxId.{TxId}
use Rattle.ob_format_spec.specs.Formats.{Format}
use Rattle.ob_format_spec.specs.Combinators.{any_byte, number, of_parts}

-- a contract or an interface
abbrev pub contract_id : Format ContractId
contract_id = of_parts (λ n. record { 0 = n }) (λ i. i.0) number

-- a transaction
abbrev pub tx_id : Format TxId
tx_id = of_parts (λ n. record { 0 = n }) (λ i. i.0) number

-- a state
abbrev pub state_id : Format StateId
state_id = of_parts (λ n. record { 0 = n }) (λ i. i.0) any_byte

-- a field
abbrev pub field_id : Format FieldId
field_id = of_parts (λ n. record { 0 = n }) (λ i. i.0) any_byte
