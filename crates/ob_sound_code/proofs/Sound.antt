-- The machine's run of what a request enters ends as the run of terms does, which comes to an end; where the terms are those of a
-- source, both end as that means.
use Rattle.std.proofs.Common.{◌≡◌, ◌≢◌, ℕ, zero, suc, Bool, true, false, List, Option, Some, None, refl, sym, ap, subst, ◌∙◌}
use Rattle.std.specs.Prelude.{option_map, slice_get, if◌then◌else◌}
use Rattle.std.specs.Option.{option_map_or, option_and_then}
use Rattle.ob_table.specs.Tables.{ClassTable, contract_at}
use Rattle.ob_table.specs.declared.contract.Contract.{Contract}
use Rattle.ob_table.specs.declared.contract.Signature.{Signature}
use Rattle.ob_table_spec.specs.WellFormed.{constructor_at}
use Rattle.ob_heap_spec.specs.Values.{Value}
use Rattle.ob_heap_spec.specs.Contents.{Content}
use Rattle.ob_heap_spec.specs.Worlds.{World, Spent, SameWorld, SameSpent, RunOutcome, gives, aborts, wrong, first_world}
use Rattle.ob_source_meaning.proofs.Same.{same_world, same_world_back, same_world_on, same_spent, same_spent_back, same_spent_on}
use Rattle.ob_silica_steps.specs.Configurations.{SilicaProgram, NextStep, goes, ended, aborted, stuck}
use Rattle.ob_silica_steps.specs.Steps.{then_steps, steps}
use Rattle.ob_silica_laws.specs.Laws.{NextTurnTakesUnit, IsOver}
use Rattle.ob_silica_laws.proofs.Lasting.{runs_end}
use Rattle.ob_lower_correct.specs.Law.{IsLoweredProgram, EndsAs}
use Rattle.ob_rest_spec.specs.AtRest.{IsStoreAtRest}
use Rattle.ob_invocation_spec.specs.Requests.{Request, HasLabels}
use Rattle.ob_invocation_spec.specs.Entries.{HandleUse, Entry, values_of}
use Rattle.ob_invocation_spec.specs.Entering.{run_entry, entry_world, is_locked_at_entry, with_entry_lock}
use Rattle.ob_invocation_spec.specs.Invocation.{invoke}
use Rattle.ob_invocation_spec.specs.SourceInvocation.{source_meaning, source_invocation}
use Rattle.ob_invocation_laws.specs.Laws.{KeepsStoreAtRest}
use Rattle.ob_coherent_spec.specs.Coherent.{StepsSo}
use Rattle.ob_coherent_spec.specs.Remaining.{IsCheckedProgram}
use Rattle.ob_soundness_laws.specs.Requests.{IsEntered, by_request_new, by_request_call, handles_in_run, entry_lock, beginning_of}
use Rattle.ob_soundness_laws.specs.Requests as run
use Rattle.ob_soundness_laws.proofs.Entries.{enters_new, enters_call}
use Rattle.ob_soundness_laws.proofs.Keeping.{steps_keep}
use Rattle.ob_soundness_laws.proofs.Many.{then_keep}
use Rattle.ob_soundness_laws.proofs.Together.{runs_begin, none_is_wrong_by}
use Rattle.ob_soundness_laws.proofs.Turns.{turns_taken}
use Rattle.ob_soundness_laws.proofs.Whole.{ends_as}
use Rattle.ob_code.specs.declared.image.Image.{Image}
use Rattle.ob_machine_steps.specs.Configurations as machine
use Rattle.ob_machine_steps.specs.Entries.{MachineEntry, Phase, starting, started, marked_world, lock_receiver}
use Rattle.ob_code_table.specs.Images.{constructor_of}
use Rattle.ob_base.specs.declared.id.TxId.{TxId}
use Rattle.ob_heap_spec.specs.Objects.{Object}
use Rattle.ob_silica_steps.specs.Starting.{first_notes}
use Rattle.ob_machine_steps.specs.Measures.{LeadsAheadOrToUnit}
use Rattle.ob_machine_meaning.specs.Meanings.{machine_meaning, entry_of_request}
use Rattle.ob_machine_meaning.specs.Laws.{HasItsBody}
use Rattle.ob_machine_meaning.proofs.Requests.{requests_run}
use Rattle.ob_machine_steps.specs.Outcomes.{outcome}
use Rattle.ob_machine_steps.specs.Runs.{over, after_steps}
use Rattle.ob_machine_laws.specs.Laws.{IsSoundRun}
use Rattle.ob_silica_steps.specs.Calling.{constructor_id}
use Rattle.ob_emit_correct.proofs.Agreeing.{constructor_found}
use Rattle.ob_emit_correct.specs.Law.{code_of, EndsAlike}
use Rattle.ob_emit_correct.proofs.Running.{calls_end, news_end}
use Rattle.ob_emit_laws.proofs.Ahead.{jumps_lead_ahead_or_to_unit}
use Rattle.ob_sound_code.specs.SoundCode.{SameInvocation}
use Rattle.ob_sound_code.proofs.Meanings.{SameOutcome, invocations_alike}
use Rattle.ob_sound_code.proofs.Running.{over_is_sound, outcome_is}

-- the machine's run has ended as the source meaning says
abbrev EndsAsSource : Image → Phase → RunOutcome (Option Value) → Type 0
EndsAsSource image p (gives result w) = (n : ℕ) × (v : World) × (after_steps image n p ≡ Some (over (machine.ended result v))) × SameWorld w v
EndsAsSource image p (aborts cause s) = (n : ℕ) × (t : Spent) × (after_steps image n p ≡ Some (over (machine.aborted cause t))) × SameSpent s t
EndsAsSource image p wrong = ⊥

-- from the end of the Silica run
source_end : (program : SilicaProgram) (p : Phase) (start : NextStep) (source : RunOutcome (Option Value))
    → EndsAs program start source → ((n : ℕ) → then_steps start (steps program n) ≢ stuck)
    → ((k : ℕ) → EndsAlike (code_of program) p (then_steps start (steps program k)))
    → EndsAsSource (code_of program) p source
source_end program p start (gives result w) (n, v, e, s) never alike =
    let a = subst (λ x. EndsAlike (code_of program) p x) e (alike n) in
    (a.0, a.1, a.2, same_world_on s a.3)
source_end program p start (aborts cause s) (n, t, e, s1) never alike =
    let a = subst (λ x. EndsAlike (code_of program) p x) e (alike n) in
    (a.0, a.1, a.2, same_spent_on s1 a.3)
source_end program p start wrong (n, e) never alike = absurd (never n e)

-- a run that ends so is sound, and comes to that
ends_sound : (image : Image) (p : Phase) (source : RunOutcome (Option Value)) → EndsAsSource image p source → IsSoundRun image p
ends_sound image p (gives result w) (n, v, e, s) = over_is_sound image n p _ e
ends_sound image p (aborts cause s) (n, t, e, s1) = over_is_sound image n p _ e
ends_sound image p wrong h = absurd h

comes_to : (image : Image) (p : Phase) (source : RunOutcome (Option Value)) → LeadsAheadOrToUnit image → EndsAsSource image p source
    → SameOutcome source (outcome image p)
comes_to image p (gives result w) ahead (n, v, e, s) =
    subst (λ o. SameOutcome (gives result w) o) (sym (outcome_is image n p _ ahead e)) (refl, s)
comes_to image p (aborts cause s) ahead (n, t, e, s1) =
    subst (λ o. SameOutcome (aborts cause s) o) (sym (outcome_is image n p _ ahead e)) (refl, s1)
comes_to image p wrong ahead h = absurd h

-- the lock of an entry stands in the world alone: no step looks at it
abbrev unlocked : MachineEntry → MachineEntry
unlocked e = record e { lock = false }

ends_unlocked : (image : Image) (e : MachineEntry) (w : World) (source : RunOutcome (Option Value))
    → EndsAsSource image (starting (unlocked e) w) source → EndsAsSource image (starting e w) source
ends_unlocked image e w (gives result v) (zero, x, is, s) = absurd cc
ends_unlocked image e w (gives result v) (suc n, x, is, s) = (suc n, x, is, s)
ends_unlocked image e w (aborts cause s) (zero, x, is, h) = absurd cc
ends_unlocked image e w (aborts cause s) (suc n, x, is, h) = (suc n, x, is, h)
ends_unlocked image e w wrong h = absurd h

-- no run from a coherent start is stuck
so_not_stuck : (table : ClassTable) (entry : Option ℕ) (beginning : _) (next : NextStep) → StepsSo table entry beginning next → next ≢ stuck
so_not_stuck table entry beginning (goes c) so e = cc
so_not_stuck table entry beginning (ended result w) so e = cc
so_not_stuck table entry beginning (aborted cause s) so e = cc
so_not_stuck table entry beginning stuck so e = absurd so

-- the object of a receiver
abbrev receiver_of : Option HandleUse → Option ℕ
receiver_of x = option_map (λ (u : HandleUse). u.handle.object) x

-- the machine's entry for one with this receiver and this body
abbrev entry_with : Content → Entry → Option HandleUse → TxId → Bool → MachineEntry
entry_with content e x tx lock =
    record { receiver = receiver_of x; contract = e.contract; tx = tx; args = values_of content e; lock = lock }

-- the lock that the machine takes is that of the entry
same_lock : (objects : List Object) (fuel : ℕ) (x : Option HandleUse)
    → lock_receiver (option_map_or is_locked_at_entry x false) (receiver_of x) (first_world objects fuel)
    ≡ with_entry_lock x (first_world objects fuel)
same_lock objects fuel None = refl
same_lock objects fuel (Some u) = refl

-- what a run of terms comes to that is over
abbrev come_to : NextStep → RunOutcome (Option Value)
come_to (goes c) = wrong
come_to (ended result w) = gives result w
come_to (aborted cause s) = aborts cause s
come_to stuck = wrong

-- it ends as that
terms_end : (program : SilicaProgram) (start : NextStep) (n : ℕ) (next : NextStep) → then_steps start (steps program n) ≡ next
    → IsOver next → next ≢ stuck → EndsAs program start (come_to next)
terms_end program start n (goes c) is done never = absurd done
terms_end program start n (ended result w) is done never = (n, w, is, same_world w)
terms_end program start n (aborted cause s) is done never = (n, s, is, same_spent s)
terms_end program start n stuck is done never = absurd (never refl)

-- and as what is the same
terms_end_so : (program : SilicaProgram) (start : NextStep) (a b : RunOutcome (Option Value)) → EndsAs program start a → SameOutcome a b
    → EndsAs program start b
terms_end_so program start (gives result w) (gives other v) (n, u, is, s) (same, t) =
    (n, u, is ∙ ap (λ r. ended r u) (sym same), same_world_on (same_world_back t) s)
terms_end_so program start (gives result w) (aborts cause s) a h = absurd h
terms_end_so program start (gives result w) wrong a h = absurd h
terms_end_so program start (aborts cause s) (gives result w) a h = absurd h
terms_end_so program start (aborts cause s) (aborts other t) (n, u, is, h) (same, k) =
    (n, u, is ∙ ap (λ r. aborted r u) (sym same), same_spent_on (same_spent_back k) h)
terms_end_so program start (aborts cause s) wrong a h = absurd h
terms_end_so program start wrong (gives result w) a h = absurd h
terms_end_so program start wrong (aborts cause s) a h = absurd h
terms_end_so program start wrong wrong a h = a

module _ (program : SilicaProgram) (checked : IsCheckedProgram program) where
  abbrev image : Image
  image = code_of program

  pub ahead : LeadsAheadOrToUnit (code_of program)
  ahead = jumps_lead_ahead_or_to_unit program.table program.bodies (λ k d lt. (checked.bodies k d lt).well_formed)

  module _ (content : Content) (fuel : ℕ) (e : Entry) (rests : IsStoreAtRest program.table content) (entered : IsEntered program.table content e) where
    -- where the machine is at the start
    abbrev phase : Phase
    phase = started image (entry_of_request content e) content.objects fuel

    -- the start of the Silica run, with a receiver or without
    abbrev start_with : Option HandleUse → NextStep
    start_with x = run.started_on program e x (values_of content e)
        (first_notes program.table (entry_world content fuel e).objects (handles_in_run content e)) (entry_world content fuel e)

    so_with : (x : Option HandleUse) → e.receiver ≡ x → (k : ℕ)
        → StepsSo program.table (entry_lock e.receiver) (beginning_of content e) (then_steps (start_with x) (steps program k))
    so_with x is k = subst (λ y. StepsSo program.table (entry_lock e.receiver) (beginning_of content e) (then_steps (start_with y) (steps program k))) is
        (then_keep steps_keep program checked (entry_lock e.receiver) (beginning_of content e) k (start_with e.receiver)
        (runs_begin program content fuel e checked rests entered))

    never : (n : ℕ) → then_steps (start_with e.receiver) (steps program n) ≢ stuck
    never n = so_not_stuck program.table (entry_lock e.receiver) (beginning_of content e) _ (so_with e.receiver refl n)

    abbrev AlikeWith : Option HandleUse → TxId → ℕ → Type 0
    AlikeWith x tx k = EndsAlike image
        (starting (entry_with content e x tx false) (marked_world image (entry_with content e x tx false) (entry_world content fuel e)))
        (then_steps (start_with x) (steps program k))

    alike : (k : ℕ) → AlikeWith e.receiver e.tx k
    alike k = by_entry entered
      where
        by_entry : IsEntered program.table content e → AlikeWith e.receiver e.tx k
        by_entry (by_request_new who r labels is passed within) =
            let n = enters_new program.table content e who r is in
            subst (λ y. AlikeWith y e.tx k) (sym n.receiver) (subst (λ tx. AlikeWith None tx k) (sym n.tx)
            (news_end program e.contract (values_of content e) (handles_in_run content e) (entry_world content fuel e)
            (entry_lock e.receiver) (beginning_of content e) checked (so_with None n.receiver) k))
        by_entry (by_request_call who r labels is passed within) =
            let n = enters_call program.table content e who r labels is in
            subst (λ y. AlikeWith y e.tx k) (sym n.receiver)
            (calls_end program e.contract e.tx n.handle.object (values_of content e) (handles_in_run content e) (entry_world content fuel e)
            (entry_lock e.receiver) (beginning_of content e) checked (so_with (Some _) n.receiver) k)

    -- the machine's run ends as the run of terms
    ends_alike : (source : RunOutcome (Option Value)) → EndsAs program (start_with e.receiver) source → EndsAsSource image phase source
    ends_alike source ends =
        subst (λ w. EndsAsSource image (starting (entry_of_request content e) (marked_world image (entry_of_request content e) w)) source)
        (sym (same_lock content.objects fuel e.receiver))
        (ends_unlocked image (entry_of_request content e) _ source (source_end program _ (start_with e.receiver) source ends never alike))

    pays : (n : ℕ) → NextTurnTakesUnit (then_steps (start_with e.receiver) (steps program n))
    pays n = turns_taken program.table (entry_lock e.receiver) (beginning_of content e) _ (so_with e.receiver refl n)

    -- where the run of terms is over, and what it has come to
    abbrev enough : ℕ
    enough = (runs_end program (start_with e.receiver) pays).0

    abbrev outcome_by_terms : RunOutcome (Option Value)
    outcome_by_terms = come_to (then_steps (start_with e.receiver) (steps program enough))

    ends_by_terms : EndsAs program (start_with e.receiver) outcome_by_terms
    ends_by_terms = terms_end program (start_with e.receiver) enough _ refl (runs_end program (start_with e.receiver) pays).1 (never enough)

    pub runs_sound : IsSoundRun image phase
    runs_sound = ends_sound image phase outcome_by_terms (ends_alike outcome_by_terms ends_by_terms)

    has_body : HasItsBody image e
    has_body = record { constructor = λ none. go none entered }
      where
        by_kind : e.tx ≡ constructor_id → (own : Contract) → contract_at program.table e.contract ≡ Some own → (b : Bool) → own.interface ≡ b
            → (if b then None else slice_get own.transactions 0) ≡ Some e.signature → constructor_of image e.contract ≡ Some e.tx
        by_kind tx own is true z s = absurd (let y : ◌≡◌ {A = Option Signature} None (Some e.signature) = s in cc)
        by_kind tx own is false z s = constructor_found program checked e.contract own is z ∙ ap Some (sym tx)

        by_contract : e.tx ≡ constructor_id → (x : Option Contract) → contract_at program.table e.contract ≡ x
            → constructor_at program.table e.contract ≡ Some e.signature → constructor_of image e.contract ≡ Some e.tx
        by_contract tx None is s =
            absurd (let y : ◌≡◌ {A = Option Signature} None (Some e.signature) = sym (ap (option_and_then (λ (c : Contract). if c.interface then None else slice_get c.transactions 0)) is) ∙ s in cc)
        by_contract tx (Some own) is s = by_kind tx own is own.interface refl
            (sym (ap (option_and_then (λ (c : Contract). if c.interface then None else slice_get c.transactions 0)) is) ∙ s)

        go : e.receiver ≡ None → IsEntered program.table content e → constructor_of image e.contract ≡ Some e.tx
        go none (by_request_new who r labels is passed within) =
            let n = enters_new program.table content e who r is in
            by_contract n.tx (contract_at program.table e.contract) refl n.constructor
        go none (by_request_call who r labels is passed within) =
            let n = enters_call program.table content e who r labels is in absurd (let z : ◌≡◌ {A = Option HandleUse} None _ = sym none ∙ n.receiver in cc)

    -- what the machine's meaning comes to is the same as what the run of terms comes to
    alike_by_machine : (source : RunOutcome (Option Value)) → EndsAs program (start_with e.receiver) source
        → SameOutcome source (run_entry (machine_meaning image) content fuel e)
    alike_by_machine source ends = subst (λ o. SameOutcome source o) (sym (requests_run image content fuel e has_body))
        (comes_to image phase source ahead (ends_alike source ends))

    pub runs_as_terms : EndsAs program (run.started program content fuel e) (run_entry (machine_meaning image) content fuel e)
    runs_as_terms = terms_end_so program (start_with e.receiver) outcome_by_terms _ ends_by_terms (alike_by_machine outcome_by_terms ends_by_terms)

    pub entry_alike : IsLoweredProgram program
        → SameOutcome (run_entry (source_meaning program.table fuel) content fuel e) (run_entry (machine_meaning image) content fuel e)
    entry_alike lowered = alike_by_machine _ (ends_as program checked lowered content fuel e entered)

  -- a request comes by both meanings to the same
  pub requests_alike : IsLoweredProgram program → (content : Content) (request : Request) (fuel : ℕ) → IsStoreAtRest program.table content
      → HasLabels request
      → SameInvocation (source_invocation program.table content request fuel) (invoke (machine_meaning (code_of program)) program.table content request fuel)
  requests_alike lowered content request fuel rests labels =
      invocations_alike (source_meaning program.table fuel) (machine_meaning (code_of program)) program.table content fuel
      (λ e entered. entry_alike content fuel e rests entered lowered) request labels

  -- and leaves a store at rest
  pub requests_rest : (content : Content) (request : Request) (fuel : ℕ) → IsStoreAtRest program.table content → HasLabels request
      → KeepsStoreAtRest program.table (invoke (machine_meaning (code_of program)) program.table content request fuel)
  requests_rest content request fuel rests labels =
      none_is_wrong_by (machine_meaning (code_of program)) program content request fuel checked
      (λ e entered. runs_as_terms content fuel e rests entered) rests labels
