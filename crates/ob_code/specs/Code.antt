-- What an image says at a number, and what the marks of its parts say (this project's own).
use Rattle.std.specs.Prelude.{ℕ, Bool, ◌==◌, ◌&&◌, not, List, Option, bytes_eq, slice_get}
use Rattle.std.specs.Int.{bit_at}
use Rattle.ob_base.specs.Optional.{◌>>=◌}
use Rattle.ob_base.specs.declared.id.ContractId.{ContractId}
use Rattle.ob_base.specs.declared.id.TxId.{TxId}
use Rattle.ob_code.specs.declared.image.BodyCode.{BodyCode}
use Rattle.ob_code.specs.declared.image.ContractCode.{ContractCode}
use Rattle.ob_code.specs.declared.image.Image.{Image}

-- Marks.

-- whether the bit of this number is set among marks
abbrev pub is_marked : ℕ → ℕ → Bool
is_marked bit flags = bit_at flags bit == 1

-- whether it is an interface, whose transactions have no code
abbrev pub is_interface : ContractCode → Bool
is_interface c = is_marked 2 c.flags

-- whether a body is that of a private transaction, which is called on `this` alone
abbrev pub is_private : BodyCode → Bool
is_private b = is_marked 0 b.flags

-- whether a body is a constructor's
abbrev pub is_constructor : BodyCode → Bool
is_constructor b = is_marked 1 b.flags

-- whether `this` is Shared at the entry of a body
abbrev pub is_shared_at_entry : BodyCode → Bool
is_shared_at_entry b = is_marked 2 b.flags

-- whether a body is that of a transaction of this name
abbrev pub is_transaction_named : List ℕ → BodyCode → Bool
is_transaction_named name b = not (is_constructor b) && bytes_eq name b.name

-- What stands at a number.

-- the contract or interface of a number
abbrev pub contract_code : Image → ContractId → Option ContractCode
contract_code image id = slice_get image.contracts id.0

-- the constructor or transaction of a contract, by its number there
abbrev pub body_code : Image → ContractId → TxId → Option BodyCode
body_code image contract tx = contract_code image contract >>= λ (c : ContractCode). slice_get c.bodies tx.0

-- the number of a slot that represents none, where a call gives its result to no slot
abbrev pub no_result : ℕ
no_result = 255
