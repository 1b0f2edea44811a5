-- What the code looks up in an image (this project's own).
use Rattle.std.specs.Prelude.{◌≡◌, ℕ, List, Option, Some, slice_get}
use Rattle.ob_base.specs.Optional.{◌>>=◌}
use Rattle.ob_base.specs.declared.id.ContractId.{ContractId}
use Rattle.ob_base.specs.declared.id.TxId.{TxId}
use Rattle.ob_code.specs.declared.image.BodyCode.{BodyCode}
use Rattle.ob_code.specs.declared.image.ContractCode.{ContractCode}
use Rattle.ob_code.specs.declared.image.Image.{Image}
use Rattle.ob_code.specs.declared.instruction.Instruction.{Instruction}
use Rattle.ob_code.specs.Code.{contract_code}
use Rattle.ob_heap_spec.specs.Objects.{Object}
use Rattle.ob_code_table.specs.Images.{instruction_at, transaction_number, CalleeId, callee}

-- the transaction of a contract that answers for one of an interface: its first one of that name
abbrev pub answered_by : Image → ContractId → BodyCode → Option CalleeId
answered_by image own asked =
    contract_code image own >>= λ (c : ContractCode).
    transaction_number c asked.name >>= λ tx. Some (own, tx)

-- what a call of a transaction of a contract or interface runs on an object, if there is one
abbrev pub called_on : Image → ContractId → TxId → Option Object → Option CalleeId
called_on image contract tx found = found >>= λ o. callee image contract tx o

-- these are the instructions of the body of a number
abbrev pub AreInstructionsOf : Image → ContractId → TxId → List Instruction → Type 0
AreInstructionsOf image contract tx instructions = (place : ℕ) → instruction_at image contract tx place ≡ slice_get instructions place
