-- What a class table of an image has.
use Rattle.std.proofs.Common.{◌≡◌, ℕ, zero, suc, ◌-◌, true, false, map, Option, Some, None, refl, ap, ◌∙◌, arith}
use Rattle.std.specs.Prelude.{◌&&◌, nat_eq, nat_lt, slice_get, option_map, if◌then◌else◌}
use Rattle.std.specs.Option.{option_map_or, option_and_then}
use Rattle.std.proofs.lemmas.Option.{slice_get-map}
use Rattle.ob_base.specs.declared.id.ContractId.{ContractId}
use Rattle.ob_base.specs.declared.id.TxId.{TxId}
use Rattle.ob_table.specs.Tables.{contract_at, signature_at, signature_of}
use Rattle.ob_table.specs.declared.contract.Contract.{Contract}
use Rattle.ob_table_spec.specs.WellFormed.{constructor_at}
use Rattle.ob_code.specs.Code.{contract_code, is_interface}
use Rattle.ob_code.specs.declared.image.BodyCode.{BodyCode}
use Rattle.ob_code.specs.declared.image.ContractCode.{ContractCode}
use Rattle.ob_code.specs.declared.image.Image.{Image}
use Rattle.ob_code_table.specs.ImageTables.{signature_of_code, contract_of_code, interface_of, table_of_image}

pub contract_same : (image : Image) (id : ContractId) → contract_at (table_of_image image) id ≡ option_map contract_of_code (contract_code image id)
contract_same image id = slice_get-map contract_of_code image.contracts id.0

-- the constructor or transaction of a number of a contract, if it is there
abbrev body_in : Option ContractCode → ℕ → Option BodyCode
body_in None n = None
body_in (Some c) n = slice_get c.bodies n

pub signature_in : (image : Image) (id : ContractId) (tx : TxId) (c : ContractCode) → contract_code image id ≡ Some c
    → signature_of (table_of_image image) id tx ≡ option_map signature_of_code (slice_get c.bodies tx.0)
signature_in image id tx c h =
    ap (option_and_then (λ (k : Contract). signature_at k tx)) (contract_same image id ∙ ap (option_map contract_of_code) h)
    ∙ slice_get-map signature_of_code c.bodies tx.0

pub signature_none : (image : Image) (id : ContractId) (tx : TxId) → contract_code image id ≡ None
    → signature_of (table_of_image image) id tx ≡ None
signature_none image id tx h =
    ap (option_and_then (λ (k : Contract). signature_at k tx)) (contract_same image id ∙ ap (option_map contract_of_code) h)

pub constructor_in : (image : Image) (id : ContractId) (c : ContractCode) → contract_code image id ≡ Some c → is_interface c ≡ false
    → constructor_at (table_of_image image) id ≡ option_map signature_of_code (slice_get c.bodies 0)
constructor_in image id c h f =
    ap (option_and_then (λ (k : Contract). if k.interface then None else slice_get k.transactions 0)) (contract_same image id ∙ ap (option_map contract_of_code) h)
    ∙ ap (λ b. if b then None else slice_get (map signature_of_code c.bodies) 0) f
    ∙ slice_get-map signature_of_code c.bodies 0

pub constructor_of_interface : (image : Image) (id : ContractId) (c : ContractCode) → contract_code image id ≡ Some c → is_interface c ≡ true
    → constructor_at (table_of_image image) id ≡ None
constructor_of_interface image id c h f =
    ap (option_and_then (λ (k : Contract). if k.interface then None else slice_get k.transactions 0)) (contract_same image id ∙ ap (option_map contract_of_code) h)
    ∙ ap (λ b. if b then None else slice_get (map signature_of_code c.bodies) 0) f

pub constructor_none : (image : Image) (id : ContractId) → contract_code image id ≡ None
    → constructor_at (table_of_image image) id ≡ None
constructor_none image id h =
    ap (option_and_then (λ (k : Contract). if k.interface then None else slice_get k.transactions 0)) (contract_same image id ∙ ap (option_map contract_of_code) h)

pub interface_at : (n d : ℕ) → option_map_or (λ (k : ContractId). nat_eq d k.0) (interface_of n) false ≡ (nat_lt 0 n && nat_eq (n - 1) d)
interface_at zero d = refl
interface_at (suc n) d = grind arith

pub ruleset signatures = (contract_same, signature_in, signature_none, constructor_in, constructor_of_interface, constructor_none, interface_at)
