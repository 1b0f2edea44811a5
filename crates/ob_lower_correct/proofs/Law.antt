-- Lowering keeps the meaning.
use Rattle.std.proofs.Common.{◌≡◌, ℕ, zero, suc, ◌≤◌, List, ◌∷◌, length, Option, Some, None, refl, sym, ap, subst}
use Rattle.std.specs.Prelude.{IfSome}
use Rattle.ob_base.specs.declared.id.ContractId.{ContractId}
use Rattle.ob_base.specs.declared.id.TxId.{TxId}
use Rattle.ob_table.specs.Tables.{contract_at, signature_of}
use Rattle.ob_table.specs.declared.contract.Contract.{Contract}
use Rattle.ob_table.specs.declared.contract.Signature.{Signature}
use Rattle.ob_table_spec.specs.WellFormed.{constructor_at}
use Rattle.ob_heap_spec.specs.Values.{Value, reference, nothing}
use Rattle.ob_heap_spec.specs.Worlds.{World, with_some, unit}
use Rattle.ob_source_meaning.specs.Frames.{of_object, of_new, Calls}
use Rattle.ob_source_meaning.specs.Bodies.{args_come, comes_in}
use Rattle.ob_source_meaning.specs.Calls.{call_after_unit, new_after_unit, call_with, no_calls, call_at}
use Rattle.ob_silica_places.specs.Parameters.{parameters, all_parameters}
use Rattle.ob_silica_steps.specs.Calling.{constructor_id}
use Rattle.ob_silica_steps.specs.Configurations.{SilicaProgram, HandleNote, stuck}
use Rattle.ob_silica_steps.specs.Entering.{calls_object, makes_object}
use Rattle.ob_silica_steps.specs.Here.{if_there, with_unit}
use Rattle.ob_silica_steps.specs.Starting.{first_notes, pass_all, alone, started_call, started_new}
use Rattle.ob_silica_steps.specs.Steps.{then_steps, steps}
use Rattle.ob_lower_correct.specs.Law.{IsLoweredProgram, CallsKeepMeaning, NewsKeepMeaning}
use Rattle.ob_lower_correct.proofs.Exact.{EndsExactly, ends_as}
use Rattle.ob_lower_correct.proofs.Calling.{CallsRun}
use Rattle.ob_lower_correct.proofs.CallsNew.{constructor_is}
use Rattle.ob_lower_correct.proofs.Answering.{agrees, constructors}
use Rattle.ob_lower_correct.proofs.Pairing.{bodies_pair}
use Rattle.ob_lower_correct.proofs.Depth.{Fitting, calls_run, no_less, less_one}
use Rattle.ob_lower_correct.proofs.Outside.{first_noted, call_over}
use Rattle.ob_lower_correct.proofs.OutsideNew.{new_over}

pub fitting : (program : SilicaProgram) → IsLoweredProgram program → Fitting program
fitting program is = record {
  bodies = bodies_pair program is.lowered is.well_formed;
  agrees = agrees program.table is.table;
  constructors = constructors program.table is.table;
}

-- the meaning of calls so deep, by that of the calls in their bodies
abbrev inner_of : (program : SilicaProgram) → ℕ → Calls
inner_of program zero = no_calls
inner_of program (suc n) = call_at program.table n

inner_runs : (program : SilicaProgram) → Fitting program → (n m : ℕ) → n ≡ suc m → CallsRun program m (inner_of program n)
inner_runs program fit zero m e = absurd (no_less e)
inner_runs program fit (suc n) m e = subst (λ k. CallsRun program k (call_at program.table n)) (less_one e) (calls_run program fit n)

depth_is : (program : SilicaProgram) (n : ℕ) → call_at program.table n ≡ call_with program.table (inner_of program n)
depth_is program zero = refl
depth_is program (suc n) = refl

calls_end : (program : SilicaProgram) (contract : ContractId) (tx : TxId) (n : ℕ) (args : List Value) (handles : List HandleNote) (w : World) (depth : ℕ)
    → IsLoweredProgram program → w.fuel ≤ depth → IfSome (signature_of program.table contract tx) (λ s. length args ≡ length s.params)
    → EndsExactly program (started_call program contract tx n args (first_notes program.table w.objects handles) w) (call_at program.table depth (of_object n contract tx) args w)
calls_end program contract tx n args handles w depth is few count =
    rw (depth_is program depth) (by_signature (signature_of program.table contract tx) refl count)
  where
    by_signature : (o : Option Signature) → signature_of program.table contract tx ≡ o → IfSome o (λ s. length args ≡ length s.params)
        → EndsExactly program (started_call program contract tx n args (first_notes program.table w.objects handles) w) (call_with program.table (inner_of program depth) (of_object n contract tx) args w)
    by_signature None e count =
        subst (λ o. EndsExactly program (started_call program contract tx n args (first_notes program.table w.objects handles) w) (with_some o (λ asked. unit (comes_in contract asked n args w) (λ w1. call_after_unit program.table (inner_of program depth) n contract tx asked args w1)))) (sym e)
        (0, ap (λ o. then_steps (if_there o (λ s. pass_all (reference n ∷ args) 0 (all_parameters contract s) nothing w (λ slots v. with_unit v (λ x. calls_object program (alone slots (first_notes program.table w.objects handles) x) contract tx s n)))) (steps program 0)) e)
    by_signature (Some s) e count =
        let fit = fitting program is in
        call_over program depth (inner_of program depth) (inner_runs program fit depth) fit.bodies fit.agrees (first_notes program.table w.objects handles) w (first_noted program.table w.objects handles) few contract tx s e args count n

pub calls_keep_meaning : CallsKeepMeaning
calls_keep_meaning program contract tx n args handles w depth is few count =
    ends_as program _ _ (calls_end program contract tx n args handles w depth is few count)

news_end : (program : SilicaProgram) (contract : ContractId) (args : List Value) (handles : List HandleNote) (w : World) (depth : ℕ)
    → IsLoweredProgram program → w.fuel ≤ depth → IfSome (constructor_at program.table contract) (λ s. length args ≡ length s.params)
    → EndsExactly program (started_new program contract args (first_notes program.table w.objects handles) w) (call_at program.table depth (of_new contract) args w)
news_end program contract args handles w depth is few count =
    rw (depth_is program depth) (by_constructor (constructor_at program.table contract) refl count)
  where
    without : constructor_at program.table contract ≡ None → then_steps (started_new program contract args (first_notes program.table w.objects handles) w) (steps program 0) ≡ stuck
    without e = ap (λ o. then_steps (if_there o (λ s. pass_all args 1 (parameters s) nothing w (λ slots v. with_unit v (λ x. makes_object program (alone slots (first_notes program.table w.objects handles) x) contract constructor_id s)))) (steps program 0)) e

    -- where there is no constructor there is no step, and the source meaning goes wrong, whether there is a contract or not
    no_step : constructor_at program.table contract ≡ None → (o : Option Contract)
        → EndsExactly program (started_new program contract args (first_notes program.table w.objects handles) w) (with_some o (λ own. with_some None (λ (s : Signature). unit (args_come s.params args w) (λ w1. new_after_unit program.table (inner_of program depth) contract own s args w1))))
    no_step e None = (0, without e)
    no_step e (Some own) = (0, without e)

    by_constructor : (o : Option Signature) → constructor_at program.table contract ≡ o → IfSome o (λ s. length args ≡ length s.params)
        → EndsExactly program (started_new program contract args (first_notes program.table w.objects handles) w) (call_with program.table (inner_of program depth) (of_new contract) args w)
    by_constructor None e count =
        subst (λ o. EndsExactly program (started_new program contract args (first_notes program.table w.objects handles) w) (with_some (contract_at program.table contract) (λ own. with_some o (λ s. unit (args_come s.params args w) (λ w1. new_after_unit program.table (inner_of program depth) contract own s args w1))))) (sym e)
        (no_step e (contract_at program.table contract))
    by_constructor (Some s) e count =
        let fit = fitting program is in
        let c = constructor_is (contract_at program.table contract) s e in
        new_over program depth (inner_of program depth) (inner_runs program fit depth) fit.bodies fit.constructors (first_notes program.table w.objects handles) w (first_noted program.table w.objects handles) few contract c.0 s c.1 c.2 c.3 args count e

pub news_keep_meaning : NewsKeepMeaning
news_keep_meaning program contract args handles w depth is few count =
    ends_as program _ _ (news_end program contract args handles w depth is few count)
