-- What an image says of its contracts, their bodies and their states (this project's own; Coblenz et al., TOPLAS 42(3), 2020,
-- "Interfaces", for which transaction answers a call).
use Rattle.std.specs.Prelude.{ℕ, ℤ, pos, negsuc, ◌-◌, ◌^◌, Bool, false, ◌==◌, List, map, position, Option, Some, None, option_map, slice_get, if◌then◌else◌}
use Rattle.std.specs.Option.{option_map_or}
use Rattle.ob_base.specs.Optional.{◌>>=◌}
use Rattle.ob_base.specs.declared.id.ContractId.{ContractId}
use Rattle.ob_base.specs.declared.id.StateId.{StateId}
use Rattle.ob_base.specs.declared.id.TxId.{TxId}
use Rattle.ob_perm.specs.States.{unnamed}
use Rattle.ob_perm.specs.Masks.{states_of}
use Rattle.ob_perm.specs.Naming.{Names, seen}
use Rattle.ob_table_spec.specs.Names.{number_of}
use Rattle.ob_heap_spec.specs.Objects.{Object, state_number}
use Rattle.ob_code.specs.declared.image.BodyCode.{BodyCode}
use Rattle.ob_code.specs.declared.image.ContractCode.{ContractCode}
use Rattle.ob_code.specs.declared.image.FieldCode.{FieldCode}
use Rattle.ob_code.specs.declared.image.Image.{Image}
use Rattle.ob_code.specs.declared.instruction.Instruction.{Instruction}
use Rattle.ob_code.specs.Code.{is_interface, is_constructor, contract_code, is_transaction_named}

-- What stands at a number.

-- the instruction at a place of a contract's body; an interface's bodies have none that are run
abbrev pub instruction_of : ContractCode → TxId → ℕ → Option Instruction
instruction_of c tx place = if is_interface c then None else (slice_get c.bodies tx.0 >>= λ (b : BodyCode). slice_get b.instructions place)

-- the instruction at a place of a body
abbrev pub instruction_at : Image → ContractId → TxId → ℕ → Option Instruction
instruction_at image contract tx place = contract_code image contract >>= λ (c : ContractCode). instruction_of c tx place

-- the number of a contract's constructor, if it has one
abbrev pub constructor_number : ContractCode → Option TxId
constructor_number c = option_map (λ n. record { 0 = n }) (position is_constructor c.bodies)

-- the number of the constructor of the contract of a number
abbrev pub constructor_of : Image → ContractId → Option TxId
constructor_of image contract = contract_code image contract >>= constructor_number

-- the number of a contract's first transaction of a name
abbrev pub transaction_number : ContractCode → List ℕ → Option TxId
transaction_number c name = option_map (λ n. record { 0 = n }) (position (is_transaction_named name) c.bodies)

-- Fields and states.

-- the number whose bits are those of a 64-bit whole number
abbrev pub bits_of : ℤ → ℕ
bits_of (pos n) = n
bits_of (negsuc n) = (2 ^ 64 - 1) - n

-- whether a field is available in a state
abbrev pub is_available_in : Option StateId → FieldCode → Bool
is_available_in state f = states_of (bits_of f.available) (state_number state)

-- whether a contract has a field of this number that is available in a state
abbrev pub has_field_code : ContractCode → Option StateId → ℕ → Bool
has_field_code c state k = option_map_or (is_available_in state) (slice_get c.fields k) false

-- for each state of a contract, the number of the interface's state of that name
abbrev pub naming_code : ContractCode → ContractCode → Names
naming_code interface c = map (λ name. option_map (λ n. record { 0 = n }) (number_of name interface.states)) c.states

-- as which state a contract or interface sees a state of another contract: by its name
abbrev pub named_between : Option ContractCode → Option ContractCode → ℕ → ℕ
named_between (Some declared) (Some own) s = seen (naming_code declared own) s
named_between declared own s = unnamed

-- as which state the contract or interface of this number sees an object's state
abbrev pub state_seen_by : Image → ContractId → Object → ℕ
state_seen_by image declared o =
    if declared.0 == o.contract.0 then state_number o.state
    else named_between (contract_code image declared) (contract_code image o.contract) (state_number o.state)

-- whether an object is in a state of a contract or interface
abbrev pub is_in_state_of : Image → ContractId → StateId → Object → Bool
is_in_state_of image declared s o = state_seen_by image declared o == s.0

-- Calls.

-- the constructor or transaction that a call runs, by its contract's number and its own there
abbrev pub CalleeId : Type 0
CalleeId = ContractId × TxId

-- the transaction of an object's contract that answers for one of an interface: its first one of that name
abbrev pub answer_of : Image → Object → BodyCode → Option CalleeId
answer_of image o asked =
    contract_code image o.contract >>= λ (own : ContractCode).
    transaction_number own asked.name >>= λ tx. Some (o.contract, tx)

-- what a call of a transaction of a contract or interface runs on an object: of a contract, that transaction; of an interface, the
-- one that answers for it
abbrev pub callee : Image → ContractId → TxId → Object → Option CalleeId
callee image contract tx o =
    contract_code image contract >>= λ (declared : ContractCode).
    if is_interface declared then (slice_get declared.bodies tx.0 >>= answer_of image o) else Some (contract, tx)
