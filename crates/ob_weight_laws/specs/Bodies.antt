-- Bodies that stand in the order of a class table.
use Rattle.std.specs.Prelude.{◌≡◌, ℕ, ◌+◌, List, [], ◌∷◌, map, length, take, drop, slice_get, if◌then◌else◌}
use Rattle.ob_base.specs.declared.id.ContractId.{ContractId}
use Rattle.ob_table.specs.Tables.{ClassTable}
use Rattle.ob_table.specs.declared.contract.Contract.{Contract}
use Rattle.ob_table.specs.declared.contract.Signature.{Signature}
use Rattle.ob_table_spec.specs.WellFormed.{places_from}
use Rattle.ob_silica.specs.Terms.{SilicaBody}
use Rattle.ob_code.specs.declared.image.BodyCode.{BodyCode}
use Rattle.ob_code.specs.declared.image.ContractCode.{ContractCode}
use Rattle.ob_emit_spec.specs.EmittedImages.{contract_marks, implements_code, field_code, tx_id, emitted_body}

-- the contract and the number of a body
abbrev pub place_of_terms : SilicaBody → ℕ × ℕ
place_of_terms body = (body.contract.0, body.tx.0)

-- there is one body for each constructor and transaction, in the order of contracts and then of numbers
abbrev pub StandInOrder : ClassTable → List SilicaBody → Type 0
StandInOrder table bodies = map place_of_terms bodies ≡ places_from 0 table.contracts

-- the constructor and the transactions of a contract from a number on, where its bodies stand at their numbers
abbrev pub bodies_in_order : ClassTable → List SilicaBody → ContractId → Contract → ℕ → List Signature → List BodyCode
bodies_in_order table bodies id own n [] = []
bodies_in_order table bodies id own n (s ∷ ss) =
    emitted_body table id own (tx_id n) s (slice_get bodies n) ∷ bodies_in_order table bodies id own (n + 1) ss

-- a contract with these bodies
abbrev pub contract_in_order : ClassTable → List SilicaBody → ContractId → Contract → ContractCode
contract_in_order table bodies id own = record {
  name = own.name;
  flags = contract_marks own;
  implements = implements_code own.implements;
  states = own.states;
  fields = map field_code own.fields;
  bodies = bodies_in_order table bodies id own 0 own.transactions;
}

-- how many bodies a contract has; an interface has none
abbrev pub count_bodies : Contract → ℕ
count_bodies own = if own.interface then 0 else length own.transactions

-- the contracts and interfaces from a number on, whose bodies stand one after another
abbrev pub contracts_in_order : ClassTable → List SilicaBody → ℕ → List Contract → List ContractCode
contracts_in_order table bodies n [] = []
contracts_in_order table bodies n (c ∷ cs) =
    contract_in_order table (take (count_bodies c) bodies) (record { 0 = n }) c
    ∷ contracts_in_order table (drop (count_bodies c) bodies) (n + 1) cs
