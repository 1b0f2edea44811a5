-- Calls by the fuel.
use Rattle.std.proofs.Common.{◌≡◌, ℕ, zero, suc, Some, None, subst, arith}
use Rattle.std.specs.Prelude.{slice_get, false}
use Rattle.ob_base.specs.declared.id.ContractId.{ContractId}
use Rattle.ob_base.specs.declared.id.TxId.{TxId}
use Rattle.ob_table.specs.Tables.{contract_at, signature_at}
use Rattle.ob_table.specs.declared.contract.Contract.{Contract}
use Rattle.ob_table.specs.declared.contract.Signature.{Signature}
use Rattle.ob_source_meaning.specs.Calls.{no_calls, call_at}
use Rattle.ob_silica_steps.specs.Configurations.{SilicaProgram}
use Rattle.ob_lower_correct.proofs.Calling.{CallsRun}
use Rattle.ob_lower_correct.proofs.Entering.{BodyPair}
use Rattle.ob_lower_correct.proofs.CallsThis.{same_runs}
use Rattle.ob_lower_correct.proofs.CallsObject.{Agrees, object_runs}
use Rattle.ob_lower_correct.proofs.CallsNew.{new_runs}

-- what a program and its table must have
pub record Fitting (program : SilicaProgram) : Type 0 where
  pub bodies : (contract : ContractId) (own : Contract) (tx : TxId) (g : Signature) → contract_at program.table contract ≡ Some own → signature_at own tx ≡ Some g → BodyPair program contract own tx g
  pub agrees : Agrees program.table
  pub constructors : (contract : ContractId) (own : Contract) (g : Signature) → contract_at program.table contract ≡ Some own → own.interface ≡ false → slice_get own.transactions 0 ≡ Some g → g.result ≡ None

pub less_one : {n m : ℕ} → suc n ≡ suc m → n ≡ m
less_one e = omega (arith, e)

pub no_less : {m : ℕ} → 0 ≡ suc m → ⊥
no_less e = omega (arith, e)

-- the forms of calls do what calls do
pub calls_run : (program : SilicaProgram) → Fitting program → (n : ℕ) → CallsRun program n (call_at program.table n)
calls_run program fitting zero = record {
  object = object_runs program 0 no_calls (λ m e. absurd (no_less e)) fitting.bodies fitting.agrees;
  same = same_runs program 0 no_calls (λ m e. absurd (no_less e)) fitting.bodies;
  new = new_runs program 0 no_calls (λ m e. absurd (no_less e)) fitting.bodies fitting.constructors;
}
calls_run program fitting (suc n) =
    let inner : (m : ℕ) → suc n ≡ suc m → CallsRun program m (call_at program.table n) = λ m e. subst (λ k. CallsRun program k (call_at program.table n)) (less_one e) (calls_run program fitting n) in
    record {
      object = object_runs program (suc n) (call_at program.table n) inner fitting.bodies fitting.agrees;
      same = same_runs program (suc n) (call_at program.table n) inner fitting.bodies;
      new = new_runs program (suc n) (call_at program.table n) inner fitting.bodies fitting.constructors;
    }
