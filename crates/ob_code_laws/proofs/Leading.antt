-- The jumps of verified code lead ahead, or to a `unit`.
use Rattle.std.proofs.Common.{◌≡◌, ℕ, ◌+◌, [], ◌∷◌, Option, Some, None, Bool, true, false, slice_get, Contains, refl, ap, ◌∙◌, inl, inr}
use Rattle.std.specs.Prelude.{if◌then◌else◌}
use Rattle.std.proofs.lemmas.Bool.{true≢false}
use Rattle.ob_base.specs.Optional.{◌>>=◌}
use Rattle.ob_base.specs.declared.id.ContractId.{ContractId}
use Rattle.ob_base.specs.declared.id.TxId.{TxId}
use Rattle.ob_code.specs.declared.image.BodyCode.{BodyCode}
use Rattle.ob_code.specs.declared.image.ContractCode.{ContractCode}
use Rattle.ob_code.specs.declared.image.Image.{Image}
use Rattle.ob_code.specs.declared.instruction.Instruction.{Instruction}
use Rattle.ob_code.specs.declared.instruction.Instruction.TheVariants as is
use Rattle.ob_code.specs.Code.{is_interface, contract_code}
use Rattle.ob_code_table.specs.Images.{instruction_of, instruction_at}
use Rattle.ob_machine_steps.specs.Measures.{IsAheadOrUnit, LeadsAheadOrToUnit}
use Rattle.ob_verify_spec.specs.Verified.{IsVerified}
use Rattle.ob_verify_spec.specs.Instructions.{leads}
use Rattle.ob_verify_spec.specs.Laws.{frame_of, HasBody}
use Rattle.ob_verify_spec.proofs.Cells.{none_some}
use Rattle.ob_verify_spec.proofs.Listed.{head}
use Rattle.ob_verify_spec.proofs.Images.{has_verified_bodies}
use Rattle.ob_verify_spec.proofs.Running.{verified_keep}
use Rattle.ob_code_laws.proofs.Basics.{then_some}

in_code : (interface : Bool) (o : Option Instruction) → interface ≡ false → (if interface then None else o) ≡ o
in_code true o e = absurd (true≢false e)
in_code false o e = refl

-- the instruction at a place of a contract's body is the body's
pub next_found : (image : Image) (contract : ContractId) (own : ContractCode) (tx : TxId) (b : BodyCode) (place : ℕ) → HasBody image contract own tx b → is_interface own ≡ false
    → instruction_at image contract tx place ≡ slice_get b.instructions place
next_found image contract own tx b place h code =
    ap (λ (z : Option ContractCode). z >>= λ (c : ContractCode). instruction_of c tx place) h.contract
    ∙ in_code (is_interface own) (slice_get own.bodies tx.0 >>= λ (x : BodyCode). slice_get x.instructions place) code
    ∙ ap (λ (z : Option BodyCode). z >>= λ (x : BodyCode). slice_get x.instructions place) h.body

code_some : (interface : Bool) (o : Option Instruction) (x : Instruction) → (if interface then None else o) ≡ Some x → (interface ≡ false) × (o ≡ Some x)
code_some true o x e = absurd (none_some e)
code_some false o x e = (refl, e)

-- where an instruction stands in verified code it leads ahead, or to a `unit`
leads_on : (image : Image) → IsVerified image → (contract : ContractId) (tx : TxId) (place : ℕ) (x : Instruction) (j : ℕ) → instruction_at image contract tx place ≡ Some x
    → Contains (leads place x) j → IsAheadOrUnit image contract tx place j
leads_on image v contract tx place x j e c =
    let own = then_some (contract_code image contract) _ x e in
    let code = code_some (is_interface own.0) _ x own.2 in
    let body = then_some (slice_get own.0.bodies tx.0) _ x code.1 in
    let there : HasBody image contract own.0 tx body.0 = record { contract = own.1; body = body.1 } in
    let f = frame_of image contract own.0 body.0 in
    elim (((verified_keep f (has_verified_bodies image v contract own.0 tx body.0 there code.0)).ahead place j x body.2 c).1) [
      | inl lt ↦ inl lt
      | inr unit ↦ inr (next_found image contract own.0 tx body.0 j there code.0 ∙ unit)
    ]

-- in verified code each jump leads ahead, or to a `unit`
pub leads_ahead : (image : Image) → IsVerified image → LeadsAheadOrToUnit image
leads_ahead image v = record {
  jumps = λ contract tx place target e. leads_on image v contract tx place (is.Jump target) target e (head target []);
  branches = λ contract tx place a target e. leads_on image v contract tx place (is.Unless a target) target e (head target ((place + 1) ∷ []));
  tests = λ contract tx place a of state target e. leads_on image v contract tx place (is.Test a of state target) target e (head target ((place + 1) ∷ []));
}
