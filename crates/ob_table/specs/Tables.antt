-- The class table of a program, and what stands in it at a number or has a name (Igarashi, Pierce and Wadler, TOPLAS 23(3),
-- 2001, for the name; Coblenz et al., TOPLAS 42(3), 2020, for what a contract declares).
use Rattle.std.specs.Prelude.{ℕ, Bool, ◌&&◌, nat_eq, List, Option, option_map, find, position, slice_get}
use Rattle.std.specs.Option.{option_and_then}
use Rattle.std.specs.Str.{bytes_eq}
use Rattle.ob_base.specs.declared.id.ContractId.{ContractId}
use Rattle.ob_base.specs.declared.id.FieldId.{FieldId}
use Rattle.ob_base.specs.declared.id.TxId.{TxId}
use Rattle.ob_table.specs.Statements.{ResolvedBody}
use Rattle.ob_table.specs.declared.contract.Contract.{Contract}
use Rattle.ob_table.specs.declared.contract.Field.{Field}
use Rattle.ob_table.specs.declared.contract.Signature.{Signature}

-- a class table: the contracts and interfaces in the order of their numbers, and the bodies of constructors and transactions
pub record ClassTable : Type 0 where
  pub contracts : List Contract
  pub bodies : List ResolvedBody

-- the contract or interface of a number
abbrev pub contract_at : ClassTable → ContractId → Option Contract
contract_at table id = slice_get table.contracts id.0

-- a number as that of a contract or interface
abbrev pub contract_id : ℕ → ContractId
contract_id n = record { 0 = n }

-- the number of the first contract or interface of a name
abbrev pub contract_named : List Contract → List ℕ → Option ContractId
contract_named contracts name = option_map contract_id (position (λ c. bytes_eq name c.name) contracts)

-- the field of a number
abbrev pub field_at : Contract → FieldId → Option Field
field_at c id = slice_get c.fields id.0

-- the constructor or transaction of a number, without its body
abbrev pub signature_at : Contract → TxId → Option Signature
signature_at c id = slice_get c.transactions id.0

-- the same, of the contract or interface of a number
abbrev pub signature_of : ClassTable → ContractId → TxId → Option Signature
signature_of table contract tx = option_and_then (λ c. signature_at c tx) (contract_at table contract)

-- whether a body is that of this transaction
abbrev pub is_body_of : ContractId → TxId → ResolvedBody → Bool
is_body_of contract tx body = nat_eq body.contract.0 contract.0 && nat_eq body.tx.0 tx.0

-- the body of a constructor or transaction
abbrev pub body_at : ClassTable → ContractId → TxId → Option ResolvedBody
body_at table contract tx = find (is_body_of contract tx) table.bodies
