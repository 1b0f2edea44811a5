-- Which transaction of an object answers a call (Coblenz et al., TOPLAS 42(3), 2020, "Interfaces").
use Rattle.std.specs.Prelude.{ℕ, Bool, false, ◌==◌, List, position, Option, Some, None, option_map, bytes_eq, if◌then◌else◌}
use Rattle.std.specs.Option.{option_map_or}
use Rattle.ob_base.specs.declared.id.ContractId.{ContractId}
use Rattle.ob_base.specs.declared.id.TxId.{TxId}
use Rattle.ob_table.specs.declared.contract.Signature.{Signature}
use Rattle.ob_table.specs.declared.contract.Contract.{Contract}

-- the first transaction of a name
abbrev pub transaction_named : Contract → List ℕ → Option TxId
transaction_named c name =
    option_map (λ n. record { 0 = n }) (position (λ s. bytes_eq name s.name) c.transactions)

-- whether a contract implements the interface of a number
abbrev pub implements_it : ContractId → Contract → Bool
implements_it declared own = option_map_or (λ (id : ContractId). declared.0 == id.0) own.implements false

-- the number that an object's contract has for a transaction of a declared contract or interface: its own, or by name
-- where it implements the interface; else there is none
abbrev pub answering : ContractId → TxId → Signature → ContractId → Contract → Option TxId
answering declared tx asked here own =
    if declared.0 == here.0 then Some tx
    else if implements_it declared own then transaction_named own asked.name
    else None
