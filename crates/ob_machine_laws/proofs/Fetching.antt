-- Which instruction stands at a place of a body.
use Rattle.std.proofs.Common.{◌≡◌, ℕ, Option, Some, None, Bool, true, false, slice_get, ap, ◌∙◌, refl, subst, true≢false}
use Rattle.std.specs.Prelude.{if◌then◌else◌}
use Rattle.ob_base.specs.Optional.{◌>>=◌}
use Rattle.ob_base.specs.declared.id.ContractId.{ContractId}
use Rattle.ob_base.specs.declared.id.TxId.{TxId}
use Rattle.ob_code.specs.declared.image.BodyCode.{BodyCode}
use Rattle.ob_code.specs.declared.image.ContractCode.{ContractCode}
use Rattle.ob_code.specs.declared.image.Image.{Image}
use Rattle.ob_code.specs.declared.instruction.Instruction.{Instruction}
use Rattle.ob_code.specs.Code.{is_interface, contract_code, body_code}
use Rattle.ob_code_table.specs.Images.{instruction_of, instruction_at}

abbrev IsNone : {A : Type 0} → Option A → Type 0
IsNone None = Unit {0}
IsNone (Some a) = ⊥

pub none_is_some : {A : Type 0} {a : A} → None ≡ Some a → ⊥
none_is_some e = subst IsNone e tt

no_interface : (interface : Bool) (o : Option Instruction) (i : Instruction) → (if interface then None else o) ≡ Some i → o ≡ Some i
no_interface true o i e = absurd (none_is_some e)
no_interface false o i e = e

of_contract : (c : Option ContractCode) (tx : TxId) (place : ℕ) (i : Instruction) → (c >>= λ (x : ContractCode). instruction_of x tx place) ≡ Some i
    → ((c >>= λ (x : ContractCode). slice_get x.bodies tx.0) >>= λ (b : BodyCode). slice_get b.instructions place) ≡ Some i
of_contract None tx place i e = absurd (none_is_some e)
of_contract (Some c) tx place i e = no_interface (is_interface c) (slice_get c.bodies tx.0 >>= λ (b : BodyCode). slice_get b.instructions place) i e

-- an instruction that stands at a place of a body is one of the body's
pub instruction_in_body : (image : Image) (contract : ContractId) (tx : TxId) (place : ℕ) (i : Instruction) → instruction_at image contract tx place ≡ Some i
    → (body_code image contract tx >>= λ (b : BodyCode). slice_get b.instructions place) ≡ Some i
instruction_in_body image contract tx place i e = of_contract (contract_code image contract) tx place i e

of_code : (interface : Bool) (o : Option Instruction) → interface ≡ false → (if interface then None else o) ≡ o
of_code true o e = absurd (true≢false e)
of_code false o e = refl

-- and of a contract that is no interface, each of the body's instructions stands at its place
pub body_has_instruction : (image : Image) (contract : ContractId) (own : ContractCode) (tx : TxId) (b : BodyCode) (place : ℕ) → contract_code image contract ≡ Some own
    → is_interface own ≡ false → slice_get own.bodies tx.0 ≡ Some b → instruction_at image contract tx place ≡ slice_get b.instructions place
body_has_instruction image contract own tx b place c code body =
    ap (λ (z : Option ContractCode). z >>= λ (x : ContractCode). instruction_of x tx place) c
    ∙ of_code (is_interface own) (slice_get own.bodies tx.0 >>= λ (x : BodyCode). slice_get x.instructions place) code
    ∙ ap (λ (z : Option BodyCode). z >>= λ (x : BodyCode). slice_get x.instructions place) body
