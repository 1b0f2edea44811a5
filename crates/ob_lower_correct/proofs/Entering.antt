-- How a call enters its body.
use Rattle.std.proofs.Common.{◌≡◌, ℕ, zero, suc, ◌+◌, ◌≤◌, Bool, true, false, List, [], map, length, Option, Some, None, refl, sym, ap, ◌∙◌, subst, arith, true≢false}
use Rattle.std.specs.Prelude.{IsSome}
use Rattle.ob_base.specs.declared.id.ContractId.{ContractId}
use Rattle.ob_base.specs.declared.id.TxId.{TxId}
use Rattle.ob_table.specs.Statements.{resolved_block, ResolvedBody}
use Rattle.ob_lower_spec.specs.StatementTerms.{LowersBlock}
use Rattle.ob_table.specs.Tables.{ClassTable, contract_at, body_at}
use Rattle.ob_table.specs.declared.contract.ResolvedType.{ResolvedType}
use Rattle.ob_table.specs.declared.contract.Contract.{Contract}
use Rattle.ob_table.specs.declared.contract.Signature.{Signature}
use Rattle.ob_table_spec.specs.WellFormed as made
use Rattle.ob_table_spec.specs.WellFormed.{IsBodyOf, AreStatements, one_ends_there}
use Rattle.ob_heap_spec.specs.Values.{Value}
use Rattle.ob_heap_spec.specs.Worlds.{World, RunOutcome, gives, aborts, wrong, ◌>>=◌, if_right, with_some, with_fuel, with_unit_taken}
use Rattle.ob_source_meaning.specs.Frames.{Calls, Flow, first_locals}
use Rattle.ob_source_meaning.specs.Statements.{run_all}
use Rattle.ob_heap_spec.specs.GoingWrong.{may_return}
use Rattle.ob_source_meaning.specs.Bodies.{result_of, result_goes, run_transaction}
use Rattle.ob_silica.specs.Terms.{SilicaBody}
use Rattle.ob_silica_steps.specs.Configurations.{SilicaProgram, terms_at, runs, Configuration, NextStep, goes}
use Rattle.ob_silica_steps.specs.Here.{Here, if_there, with_fuel_left}
use Rattle.ob_silica_places.specs.Parameters.{parameter_of}
use Rattle.ob_silica_steps.specs.Steps.{step}
use Rattle.ob_lower_spec.specs.BodyTerms as low
use Rattle.ob_lower_spec.specs.BodyTerms.{LowersWith}
use Rattle.ob_lower_correct.proofs.Slots.{Used}
use Rattle.ob_lower_correct.proofs.Runs.{Ends, one_step, ends_later}
use Rattle.ob_lower_correct.proofs.Standing.{Setting, frame_in, config, Stands, kept_self}
use Rattle.ob_lower_correct.proofs.Binding.{HoldsFrom}
use Rattle.ob_lower_correct.proofs.Beginning.{used_below, body_runs}
use Rattle.ob_lower_correct.proofs.Calling.{CallsRun}
use Rattle.ob_lower_correct.proofs.Flows.{Left, left_closed}
use Rattle.ob_lower_correct.proofs.Ending.{Finishes}
use Rattle.ob_lower_correct.proofs.Returning.{gives_back}

-- the body of a transaction or constructor, with what it is lowered to
pub data BodyPair (program : SilicaProgram) (contract : ContractId) (own : Contract) (tx : TxId) (s : Signature) : Type 0 where
  neither : body_at program.table contract tx ≡ None → terms_at program contract tx ≡ None → BodyPair program contract own tx s
  pair : (body : ResolvedBody) (lowered : SilicaBody) → body_at program.table contract tx ≡ Some body → terms_at program contract tx ≡ Some lowered.terms → body.contract ≡ contract
      → LowersWith program.table own s body lowered → IsBodyOf program.table body own s → BodyPair program contract own tx s

abbrev pub fixed_slots : Signature → List ℕ
fixed_slots s = low.slots_below (length s.params + 1)

pub zero_fixed : (s : Signature) → Used 0 (fixed_slots s)
zero_fixed s = used_below 0 (length s.params + 1) (omega arith)

no_result : (o : Option ResolvedType) (b : Bool) → (IsSome o → b ≡ true) → b ≡ false → o ≡ None
no_result None b f e = refl
no_result (Some k) b f e = absurd (true≢false (sym (f refl) ∙ e))

module _ (program : SilicaProgram) (most : ℕ) (calls : Calls) (called : CallsRun program most calls) (cs : Setting) (found : contract_at program.table cs.here ≡ Some cs.own)
    (finish : Option Value → World → RunOutcome (Option Value)) (args : List Value) where
  abbrev table : ClassTable
  table = program.table

  -- what a body comes to, with its return
  abbrev pub body_ends : World → RunOutcome (Option Value)
  body_ends w = with_some (body_at table cs.here cs.tx) (λ body. run_all calls (frame_in table cs) body.statements (first_locals cs.signature.params args) w >>= (λ flow w1. finish (result_of flow) w1))

  -- the terms of a body come to its return
  pub terms_run : (h0 : Here) (body : ResolvedBody) (lowered : SilicaBody) → body_at table cs.here cs.tx ≡ Some body → body.contract ≡ cs.here → LowersWith table cs.own cs.signature body lowered → IsBodyOf table body cs.own cs.signature
      → Stands table most cs h0 → HoldsFrom h0.slots 1 (map parameter_of cs.signature.params) args
      → Finishes program most calls called cs found h0.slots finish (fixed_slots cs.signature) (zero_fixed cs.signature)
      → Ends program (Left program most calls called cs found h0.slots finish (fixed_slots cs.signature) (zero_fixed cs.signature) [] h0) (config cs h0 (runs lowered.terms [])) (body_ends h0.world)
  terms_run h0 body lowered eb ec low_body is_body st held finishes =
      let statements = subst (λ i. AreStatements (made.frame_of table i cs.own cs.signature) (made.params_from 1 cs.signature.params) [] body.statements) ec is_body.statements in
      let block = subst (λ i. LowersBlock (made.frame_of table i cs.own cs.signature) (low.beginning cs.signature.params) (resolved_block body.statements body.end) low_body.block) ec low_body.statements in
      rw (eb, low_body.terms)
      (body_runs program most calls called cs found h0.slots finish (fixed_slots cs.signature) (zero_fixed cs.signature) finishes h0 args body.statements body.end low_body.block refl block statements
      (λ h. no_result cs.signature.result (one_ends_there body.statements) is_body.returns h) st (kept_self (fixed_slots cs.signature) h0.slots) held)

  pub entered_runs : (h0 : Here) (c : Configuration) → BodyPair program cs.here cs.own cs.tx cs.signature → Stands table most cs h0 → HoldsFrom h0.slots 1 (map parameter_of cs.signature.params) args
      → Finishes program most calls called cs found h0.slots finish (fixed_slots cs.signature) (zero_fixed cs.signature)
      → step program c ≡ if_there (terms_at program cs.here cs.tx) (λ terms. goes (config cs h0 (runs terms [])))
      → Ends program (Left program most calls called cs found h0.slots finish (fixed_slots cs.signature) (zero_fixed cs.signature) [] h0) c (body_ends h0.world)
  entered_runs h0 c (neither eb et) st held finishes e = rw eb (record { by = one_step program (e ∙ ap (λ o. if_there o (λ terms. goes (config cs h0 (runs terms [])))) et) })
  entered_runs h0 c (pair body lowered eb et ec low_body is_body) st held finishes e =
      ends_later program (body_ends h0.world) (left_closed program most calls called cs found h0.slots finish (fixed_slots cs.signature) (zero_fixed cs.signature))
      (one_step program (e ∙ ap (λ o. if_there o (λ terms. goes (config cs h0 (runs terms [])))) et)) (terms_run h0 body lowered eb ec low_body is_body st held finishes)

-- The source's bodies, with their returns.

pub back_test : (b : Bool) (r : Option Value) (w : World) (go : Option Value → World → RunOutcome (Option Value)) → (if_right b (gives r w) >>= go) ≡ if_right b (go r w)
back_test true r w go = refl
back_test false r w go = refl

pub transaction_is : (table : ClassTable) (calls : Calls) (cs : Setting) (args : List Value) (w : World)
    → run_transaction calls (frame_in table cs) cs.tx cs.signature args w
    ≡ with_some (body_at table cs.here cs.tx) (λ body. run_all calls (frame_in table cs) body.statements (first_locals cs.signature.params args) w >>= (λ flow w1. gives_back table cs args (result_of flow) w1))
transaction_is table calls cs args w = by_body (body_at table cs.here cs.tx)
  where
    by_outcome : (o : RunOutcome Flow) → ((o >>= (λ flow w1. if_right (may_return table w1.objects cs.here cs.signature cs.this args (result_of flow)) (gives (result_of flow) w1))) >>= (λ result w1. gives result (result_goes cs.signature.result result w1)))
        ≡ (o >>= (λ flow w1. gives_back table cs args (result_of flow) w1))
    by_outcome (gives flow w1) = back_test (may_return table w1.objects cs.here cs.signature cs.this args (result_of flow)) (result_of flow) w1 (λ result w1. gives result (result_goes cs.signature.result result w1))
    by_outcome (aborts cause s) = refl
    by_outcome wrong = refl

    by_body : (b : Option ResolvedBody) → (with_some b (λ body. run_all calls (frame_in table cs) body.statements (first_locals cs.signature.params args) w >>= (λ flow w1. if_right (may_return table w1.objects cs.here cs.signature cs.this args (result_of flow)) (gives (result_of flow) w1))) >>= (λ result w1. gives result (result_goes cs.signature.result result w1)))
        ≡ with_some b (λ body. run_all calls (frame_in table cs) body.statements (first_locals cs.signature.params args) w >>= (λ flow w1. gives_back table cs args (result_of flow) w1))
    by_body None = refl
    by_body (Some body) = by_outcome (run_all calls (frame_in table cs) body.statements (first_locals cs.signature.params args) w)

-- A unit, and then a call.

pub unit_called : (program : SilicaProgram) {A : Type 0} {R : A → World → Configuration → Type 0} (n k : ℕ) (w : World) (after : World → NextStep) (go : World → RunOutcome A) (c : Configuration)
    → w.fuel ≡ k → k ≤ n → step program c ≡ with_fuel_left k w after
    → ((m j : ℕ) → n ≡ suc m → j ≤ m → w.fuel ≡ suc j → step program c ≡ after (with_unit_taken w j) → Ends program R c (go (with_unit_taken w j)))
    → Ends program R c (with_fuel k w go)
unit_called program n zero w after go c ek le e next = record { by = one_step program e }
unit_called program zero (suc k) w after go c ek le e next = absurd (omega (arith, le))
unit_called program (suc n) (suc k) w after go c ek le e next = next n k refl (omega (arith, le)) ek e
