-- The names of an image's contracts, and of the transactions of each (this project's own).
use Rattle.std.specs.Prelude.{◌≡◌, ℕ, List, map, slice_get, Option, option_map}
use Rattle.std.specs.List.{AllZip}
use Rattle.ob_base.specs.Optional.{◌>>=◌}
use Rattle.ob_base.specs.declared.id.ContractId.{ContractId}
use Rattle.ob_base.specs.declared.id.TxId.{TxId}
use Rattle.ob_table.specs.Tables.{contract_at, contract_id, contract_named}
use Rattle.ob_table.specs.declared.contract.Contract.{Contract}
use Rattle.ob_heap_spec.specs.Dispatch.{transaction_named}
use Rattle.ob_code.specs.declared.image.BodyCode.{BodyCode}
use Rattle.ob_code.specs.declared.image.ContractCode.{ContractCode}
use Rattle.ob_code.specs.declared.image.Image.{Image}
use Rattle.ob_code_table.specs.ImageTables.{table_of_image}
use Rattle.ob_exec_entries.specs.Numbered.{number_in, IsNumbering}
use Rattle.ob_exec_entries.specs.declared.names.Names.{Names}

-- a number as that of a constructor or transaction
abbrev pub tx_id : ℕ → TxId
tx_id n = record { 0 = n }

-- the contract or interface that has a name
abbrev pub contract_in : Names → List ℕ → Option ContractId
contract_in names name = option_map contract_id (number_in name names.contracts)

-- the transaction that has a name, of the contract or interface of a number
abbrev pub transaction_in : Names → ContractId → List ℕ → Option TxId
transaction_in names id name =
    slice_get names.transactions id.0 >>= λ es. option_map tx_id (number_in name es)

-- Names are found as the class table of an image has them.
pub record IsNamesOf (names : Names) (image : Image) : Type 0 where
  pub contract : (name : List ℕ) → contract_in names name ≡ contract_named (table_of_image image).contracts name
  pub transaction : (id : ContractId) (name : List ℕ)
      → transaction_in names id name ≡ (contract_at (table_of_image image) id >>= λ (c : Contract). transaction_named c name)

-- How they are collected.

-- the names of contracts and interfaces
abbrev pub contract_names : List ContractCode → List (List ℕ)
contract_names = map (λ (c : ContractCode). c.name)

-- the names of a contract's constructor and transactions
abbrev pub body_names : ContractCode → List (List ℕ)
body_names c = map (λ (b : BodyCode). b.name) c.bodies

-- the numbers of the transactions of each of these contracts
abbrev pub AreNumbered : List ContractCode → List (List (List ℕ × ℕ)) → Type 0
AreNumbered = AllZip (λ (c : ContractCode) es. IsNumbering (body_names c) es)
