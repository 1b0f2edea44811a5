-- No request goes wrong, where each step keeps to coherent configurations, and runs begin and end as they should.
use Rattle.std.proofs.Common.{◌≡◌, ◌≢◌, ℕ, ◌<◌, ◌≤◌, Bool, true, false, List, [], ◌∷◌, length, Option, Some, None, refl, sym, ap, subst, ◌∙◌, arith, true≢false, ⊎_elim}
use Rattle.std.specs.Prelude.{if◌then◌else◌, not, IfSome, IsSomeAnd, slice_get, is_none, option_map, bytes_eq, MatchBool}
use Rattle.std.specs.Option.{option_map_or, option_and_then}
use Rattle.std.specs.List.{position}
use Rattle.std.proofs.lemmas.Option.{same_Some, slice_get_cases}
use Rattle.std.proofs.lemmas.List.Quantifiers.{position-Some}
use Rattle.ob_base.specs.Optional.{◌>>=◌}
use Rattle.ob_base.specs.declared.id.ContractId.{ContractId}
use Rattle.ob_table.specs.Tables.{ClassTable, contract_id, contract_at, contract_named, signature_at}
use Rattle.ob_table.specs.declared.contract.Contract.{Contract}
use Rattle.ob_table.specs.declared.contract.Signature.{Signature}
use Rattle.ob_table_spec.specs.Conditions.{IsClassTable, IsContract, IsConstructor}
use Rattle.ob_table_spec.specs.WellFormed.{constructor_at}
use Rattle.ob_places_laws.proofs.Tables.{contract_is}
use Rattle.ob_heap_spec.specs.Values.{Value}
use Rattle.ob_heap_spec.specs.Contents.{Content}
use Rattle.ob_heap_spec.specs.Worlds.{World, ReadItem, first_world, RunOutcome, gives, aborts, wrong}
use Rattle.ob_silica_steps.specs.Configurations.{SilicaProgram, Configuration, NextStep, goes, ended, aborted, stuck}
use Rattle.ob_silica_steps.specs.Steps.{then_steps, steps}
use Rattle.ob_coherent_spec.specs.Remaining.{IsCheckedProgram}
use Rattle.ob_coherent_spec.specs.Coherent.{StepsSo}
use Rattle.ob_rest_spec.specs.AtRest.{IsStoreAtRest}
use Rattle.ob_invocation_spec.specs.Requests.{Operation, NewRequest, CallRequest, HasLabels, new_request, call_request, disown_request, give_request, see_request, owner_request}
use Rattle.ob_invocation_spec.specs.Replies.{Invocation, no_contract, not_main, no_transaction}
use Rattle.ob_invocation_laws.specs.Laws.{runs, KeepsStoreAtRest}
use Rattle.ob_invocation_spec.specs.Entries.{HandleUse, Entry, entry_of_new, entry_of_call, values_of}
use Rattle.ob_invocation_spec.specs.Checks.{check, refusal_of, reads_of, refused_or, with_found}
use Rattle.ob_invocation_spec.specs.Refusals.{is_no_contract, is_not_main, is_no_transaction, argument_checks, found_checks, new_checks, call_checks}
use Rattle.ob_invocation_spec.specs.Entering.{first_outside_use, entry_world, with_entry_lock, is_locked_at_entry, Meaning, run_entry, run_on_receiver}
use Rattle.ob_invocation_spec.specs.Invocation.{after_entry_test, enter_entry, invoke_new, invoke_call, invoke_operation}
use Rattle.ob_invocation_spec.specs.Invocation.{ended as answered}
use Rattle.ob_invocation_spec.specs.SourceInvocation.{source_meaning}
use Rattle.ob_lower_correct.specs.Law.{IsLoweredProgram, EndsAs}
use Rattle.ob_lower_correct.proofs.Law.{calls_keep_meaning, news_keep_meaning}
use Rattle.ob_soundness_laws.specs.Running.{StepsKeep, EndsFrom}
use Rattle.ob_soundness_laws.specs.Requests.{handles_in_run, entry_lock, beginning_of, started_on, started, IsEntered, by_request_new, by_request_call, BeginsSo, IsFirst, StartsSo, EndsSo, StillLeavesAtRest, RunsAsTerms, NoRequestGoesWrongBy, NoRequestGoesWrong}
use Rattle.ob_soundness_laws.proofs.Many.{never_stuck}
use Rattle.ob_soundness_laws.proofs.Ending.{stays_itself, run_ends}
use Rattle.ob_soundness_laws.proofs.Entries.{each_passes, each_after, has_passed, enters_new, enters_call, arguments_fit, fit_length}
use Rattle.ob_soundness_laws.proofs.Firsts.{runs_start}

-- a request has as many units as are given
lock_fuel : (content : Content) (fuel : ℕ) (e : Entry) → (entry_world content fuel e).fuel ≡ fuel
lock_fuel content fuel e = go e.receiver
  where
    by_lock : (u : HandleUse) (b : Bool) → (if b then (record (first_world content.objects fuel) { locked = u.handle.object ∷ [] })
        else first_world content.objects fuel).fuel ≡ fuel
    by_lock u true = refl
    by_lock u false = refl

    go : (x : Option HandleUse) → (with_entry_lock x (first_world content.objects fuel)).fuel ≡ fuel
    go None = refl
    go (Some u) = by_lock u (is_locked_at_entry u)

module _ (program : SilicaProgram) (checked : IsCheckedProgram program) (lowered : IsLoweredProgram program) (content : Content)
    (fuel : ℕ) (e : Entry) (entered : IsEntered program.table content e) where
  count : length (values_of content e) ≡ length e.signature.params
  count = fit_length program.table content e.who e.signature.params e.args (values_of content e)
      (arguments_fit program.table content e (has_passed program.table content e entered))

  enough : (entry_world content fuel e).fuel ≤ fuel
  enough = let z = lock_fuel content fuel e in omega (arith, z)

  -- the Silica run ends as the run by the source meaning
  pub ends_as : EndsAs program (started program content fuel e) (run_entry (source_meaning program.table fuel) content fuel e)
  ends_as = by_entry entered
    where
      by_entry : IsEntered program.table content e
          → EndsAs program (started program content fuel e) (run_entry (source_meaning program.table fuel) content fuel e)
      by_entry (by_request_new who r labels is passed within) =
          let n = enters_new program.table content e who r is in
          subst (λ (x : Option HandleUse). EndsAs program (started_on program e x (values_of content e)
          (Rattle.ob_silica_steps.specs.Starting.first_notes program.table (entry_world content fuel e).objects (handles_in_run content e)) (entry_world content fuel e))
          (run_on_receiver (source_meaning program.table fuel) e x (values_of content e) (entry_world content fuel e))) (sym n.receiver)
          (news_keep_meaning program e.contract (values_of content e) (handles_in_run content e) (entry_world content fuel e) fuel
          lowered enough (subst (λ (s : Option Signature). IfSome s (λ s. length (values_of content e) ≡ length s.params)) (sym n.constructor) count))
      by_entry (by_request_call who r labels is passed within) =
          let n = enters_call program.table content e who r labels is in
          subst (λ (x : Option HandleUse). EndsAs program (started_on program e x (values_of content e)
          (Rattle.ob_silica_steps.specs.Starting.first_notes program.table (entry_world content fuel e).objects (handles_in_run content e)) (entry_world content fuel e))
          (run_on_receiver (source_meaning program.table fuel) e x (values_of content e) (entry_world content fuel e))) (sym n.receiver)
          (calls_keep_meaning program e.contract e.tx n.handle.object (values_of content e) (handles_in_run content e) (entry_world content fuel e) fuel
          lowered enough (subst (λ (s : Option Signature). IfSome s (λ s. length (values_of content e) ≡ length s.params))
          (sym (ap (option_and_then (λ (d : Contract). signature_at d e.tx)) n.is_own ∙ n.signature)) count))

module _ (keep : StepsKeep) (begins : BeginsSo) (program : SilicaProgram) (checked : IsCheckedProgram program) (content : Content)
    (rests : IsStoreAtRest program.table content) (fuel : ℕ) (e : Entry) (entered : IsEntered program.table content e) where
  -- the run doesn't get stuck
  run_never_stuck : (n : ℕ) → then_steps (started program content fuel e) (steps program n) ≢ stuck
  run_never_stuck n = never_stuck keep program checked (entry_lock e.receiver) (beginning_of content e) n (started program content fuel e)
      (begins program content fuel e checked rests entered)

  -- and where it ends, it has gone on from a first configuration
  run_has_ended : (n : ℕ) (result : Option Value) (v : World)
      → then_steps (started program content fuel e) (steps program n) ≡ ended result v
      → (first : Configuration) × IsFirst content e first
      × EndsFrom program.table (entry_lock e.receiver) (beginning_of content e) first result v
  run_has_ended n result v is = go (started program content fuel e) (begins program content fuel e checked rests entered)
      (runs_start program content fuel e entered) is
    where
      go : (next : NextStep) → StepsSo program.table (entry_lock e.receiver) (beginning_of content e) next → StartsSo content e next
          → then_steps next (steps program n) ≡ ended result v
          → (first : Configuration) × IsFirst content e first
          × EndsFrom program.table (entry_lock e.receiver) (beginning_of content e) first result v
      go (goes c) so starts is = (
        c,
        starts,
        run_ends keep program checked (entry_lock e.receiver) (beginning_of content e) c result v n c so (stays_itself c) is,
      )
      go (ended r w) so starts is = absurd starts
      go (aborted cause s) so starts is = absurd cc
      go stuck so starts is = absurd so

  module _ (ends : EndsSo) (meaning : Meaning) (alike : RunsAsTerms meaning program content fuel) (reads : List ReadItem) where
    after_run : (outcome : RunOutcome (Option Value)) → EndsAs program (started program content fuel e) outcome
        → KeepsStoreAtRest program.table (answered program.table content e reads outcome)
    after_run (gives result w) (n, v, is, same) = let r = run_has_ended n result v is in
        ends program content e r.0 result w v checked rests entered r.1 r.2 same.objects
    after_run (aborts cause s) a = rests
    after_run wrong (n, is) = absurd (run_never_stuck n is)

    run_leaves : KeepsStoreAtRest program.table
        (answered program.table content e reads (run_entry meaning content fuel e))
    run_leaves = after_run (run_entry meaning content fuel e) (alike e entered)

module _ (keep : StepsKeep) (begins : BeginsSo) (ends : EndsSo) (program : SilicaProgram)
    (checked : IsCheckedProgram program) (content : Content) (rests : IsStoreAtRest program.table content) (fuel : ℕ)
    (meaning : Meaning) (alike : RunsAsTerms meaning program content fuel) where
  -- what is entered, after its entry test
  entry_leaves : (e : Entry) (reads : List ReadItem)
      → (first_outside_use program.table content e ≡ None → IsEntered program.table content e)
      → KeepsStoreAtRest program.table (enter_entry meaning program.table content fuel reads e)
  entry_leaves e reads entered = go (first_outside_use program.table content e) entered
    where
      go : (u : Option HandleUse) → (u ≡ None → IsEntered program.table content e)
          → KeepsStoreAtRest program.table (after_entry_test meaning program.table content fuel e reads u)
      go None entered = run_leaves keep begins program checked content rests fuel e (entered refl) ends meaning alike reads
      go (Some u) entered = rests

  found_leaves : (found : Option Entry) (reads : List ReadItem) → ((e : Entry) → found ≡ Some e
      → first_outside_use program.table content e ≡ None → IsEntered program.table content e) → found ≢ None
      → KeepsStoreAtRest program.table
      (with_found found (enter_entry meaning program.table content fuel reads))
  found_leaves None reads entered there = absurd (there refl)
  found_leaves (Some e) reads entered there = entry_leaves e reads (entered e refl)

  refused_leaves : (refusal : _) (reads : List ReadItem) (go : List ReadItem → Invocation)
      → (refusal ≡ None → KeepsStoreAtRest program.table (go reads)) → KeepsStoreAtRest program.table (refused_or content refusal reads go)
  refused_leaves None reads go on = on refl
  refused_leaves (Some refusal) reads go on = rests

is_some_of : {A : Type 0} (x : Option A) → is_none x ≡ false → x ≢ None
is_some_of None e z = absurd cc
is_some_of (Some a) e z = absurd cc

none_of : {A B : Type 0} (x : Option A) (f : A → Option B) (a : A) (b : B) → x ≡ Some a → f a ≡ Some b → (x >>= f) ≢ None
none_of x f a b is at none = absurd (let z : (Some a >>= f) ≡ None = ap (λ y. y >>= f) (sym is) ∙ none in
    let y : Some b ≡ None = sym at ∙ z in cc)

position_low : {A : Type 0} (p : A → Bool) (xs : List A) (n : ℕ) → position p xs ≡ Some n → n < length xs
position_low p [] n e = absurd cc
position_low p (x ∷ xs) n e = (position-Some p (x ∷ xs) n x e).0

-- what a `new` of a contract enters
abbrev new_entry : List ℕ → NewRequest → ContractId → Signature → Entry
new_entry who r contract s = record {
  who = who;
  contract = contract;
  tx = record { 0 = 0 };
  signature = s;
  receiver = None;
  given = Some s.exit.mode;
  args = r.args;
  into = r.into;
}

-- the main contract of the table has a constructor
main_enters : (table : ClassTable) → IsClassTable table → (content : Content) (who : List ℕ) (r : NewRequest)
    → is_no_contract table r.contract ≡ false → is_not_main table r.contract ≡ false → entry_of_new table who r ≢ None
main_enters table made content who r named main = go (contract_named table.contracts r.contract) refl (is_some_of _ named)
  where
    constructs : (id : ContractId) (c : Contract) → contract_at table id ≡ Some c → c.main ≡ true
        → (s : Signature) × (constructor_at table id ≡ Some s)
    constructs id c is m = by_kind c.interface refl
      where
        law : IsContract table c
        law = contract_is table made id c is

        by_kind : (b : Bool) → c.interface ≡ b → (s : Signature) × (constructor_at table id ≡ Some s)
        by_kind true e = absurd (true≢false (sym m ∙ (law.interface e).0))
        by_kind false e = by_first (slice_get c.transactions 0) refl
            (subst (λ (b : Bool). MatchBool b (c.constructor ≡ None) ((c.constructor ≡ Some (record { 0 = 0 }))
            × IsSomeAnd (slice_get c.transactions 0) (IsConstructor table c))) e law.constructor).1
          where
            by_first : (x : Option Signature) → slice_get c.transactions 0 ≡ x → IsSomeAnd x (IsConstructor table c)
                → (s : Signature) × (constructor_at table id ≡ Some s)
            by_first None at so = absurd so
            by_first (Some s) at so = (
              s,
              ap (option_and_then (λ (d : Contract). if d.interface then None else slice_get d.transactions 0)) is
                  ∙ ap (λ (b : Bool). if b then None else slice_get c.transactions 0) e ∙ at,
            )

    at_contract : (id : ContractId) → contract_named table.contracts r.contract ≡ Some id → (x : Option Contract)
        → contract_at table id ≡ x → x ≢ None → (c : Contract) × (contract_at table id ≡ Some c) × (c.main ≡ true)
    at_contract id is None e there = absurd (there refl)
    at_contract id is (Some c) e there = (c, e, go c.main refl)
      where
        told : (not c.main) ≡ false
        told = ap (λ (x : Option Contract). option_map_or (λ c. not c.main) x false) (sym e)
            ∙ ap (λ (x : Option ContractId). option_map_or (λ contract. option_map_or (λ c. not c.main) (contract_at table contract) false) x false) (sym is)
            ∙ main

        go : (b : Bool) → c.main ≡ b → c.main ≡ true
        go true m = m
        go false m = absurd (let z = rw m at told in cc)

    named_there : (x : Option ℕ) (id : ContractId) → position (λ (c : Contract). bytes_eq r.contract c.name) table.contracts ≡ x
        → option_map contract_id x ≡ Some id → contract_at table id ≢ None
    named_there None id at is none = absurd cc
    named_there (Some n) id at is none =
        let same : contract_id n ≡ id = same_Some _ id is in
        let low = position_low (λ (c : Contract). bytes_eq r.contract c.name) table.contracts n at in
        ⊎_elim (λ found. absurd (let z : ◌≡◌ {A = Option Contract} None (Some found.0) =
        sym (ap (contract_at table) same ∙ none) ∙ found.2 in cc))
        (λ past. absurd (omega (arith, low, past.0)))
        (slice_get_cases table.contracts n).1

    go : (x : Option ContractId) → contract_named table.contracts r.contract ≡ x → x ≢ None → entry_of_new table who r ≢ None
    go None is there = absurd (there refl)
    go (Some id) is there =
        let c = at_contract id is (contract_at table id) refl (named_there _ id refl is) in
        let s = constructs id c.0 c.1 c.2 in
        none_of (contract_named table.contracts r.contract)
        (λ contract. constructor_at table contract >>= λ s. Some (new_entry who r contract s)) id (new_entry who r id s.0) is
        (ap (λ (x : Option Signature). x >>= λ s. Some (new_entry who r id s)) s.1)

module _ (keep : StepsKeep) (begins : BeginsSo) (ends : EndsSo) (still : StillLeavesAtRest) where
  no_new_goes_wrong : (meaning : Meaning) (program : SilicaProgram) (content : Content) (who : List ℕ) (r : NewRequest) (fuel : ℕ)
      → IsCheckedProgram program → RunsAsTerms meaning program content fuel → IsStoreAtRest program.table content
      → HasLabels (record { who = who; operation = new_request r })
      → KeepsStoreAtRest program.table (invoke_new meaning program.table content fuel who r)
  no_new_goes_wrong meaning program content who r fuel checked alike rests labels =
      refused_leaves keep begins ends program checked content rests fuel meaning alike (refusal_of (new_checks program.table content who r))
      (reads_of (new_checks program.table content who r))
      (λ reads. with_found (entry_of_new program.table who r) (enter_entry meaning program.table content fuel reads))
      (λ passed. found_leaves keep begins ends program checked content rests fuel meaning alike (entry_of_new program.table who r)
      (reads_of (new_checks program.table content who r))
      (λ e is within. by_request_new who r labels is passed within)
      (let all = each_after _ (argument_checks content who r.args)
      (check no_contract (is_no_contract program.table r.contract) ∷ check not_main (is_not_main program.table r.contract)
      ∷ found_checks program.table content (entry_of_new program.table who r)) (each_passes (new_checks program.table content who r) passed) in
      main_enters program.table checked.table content who r all.0 all.1.0))

  no_call_goes_wrong : (meaning : Meaning) (program : SilicaProgram) (content : Content) (who : List ℕ) (r : CallRequest) (fuel : ℕ)
      → IsCheckedProgram program → RunsAsTerms meaning program content fuel → IsStoreAtRest program.table content
      → HasLabels (record { who = who; operation = call_request r })
      → KeepsStoreAtRest program.table (invoke_call meaning program.table content fuel who r)
  no_call_goes_wrong meaning program content who r fuel checked alike rests labels =
      refused_leaves keep begins ends program checked content rests fuel meaning alike (refusal_of (call_checks program.table content who r))
      (reads_of (call_checks program.table content who r))
      (λ reads. with_found (entry_of_call program.table content who r) (enter_entry meaning program.table content fuel reads))
      (λ passed. found_leaves keep begins ends program checked content rests fuel meaning alike (entry_of_call program.table content who r)
      (reads_of (call_checks program.table content who r))
      (λ e is within. by_request_call who r labels is passed within)
      (let all = each_after _ (argument_checks content who r.args)
      (check no_transaction (is_no_transaction (entry_of_call program.table content who r))
      ∷ found_checks program.table content (entry_of_call program.table content who r))
      (each_passes (call_checks program.table content who r) passed).1 in
      is_some_of (entry_of_call program.table content who r) all.0))

  -- each request, by whatever meaning
  pub none_goes_wrong_by : NoRequestGoesWrongBy
  none_goes_wrong_by meaning program content request fuel checked alike rests labels = go request.operation refl
    where
      go : (o : Operation) → request.operation ≡ o
          → KeepsStoreAtRest program.table (invoke_operation meaning program.table content fuel request.who request.operation)
      go (new_request r) is = subst (λ (o : Operation). KeepsStoreAtRest program.table
          (invoke_operation meaning program.table content fuel request.who o)) (sym is)
          (no_new_goes_wrong meaning program content request.who r fuel checked alike rests
          (subst (λ (o : Operation). HasLabels (record { who = request.who; operation = o })) is labels))
      go (call_request r) is = subst (λ (o : Operation). KeepsStoreAtRest program.table
          (invoke_operation meaning program.table content fuel request.who o)) (sym is)
          (no_call_goes_wrong meaning program content request.who r fuel checked alike rests
          (subst (λ (o : Operation). HasLabels (record { who = request.who; operation = o })) is labels))
      go (disown_request on) is = still meaning program.table content request fuel checked.table rests labels (ap runs is)
      go (give_request r) is = still meaning program.table content request fuel checked.table rests labels (ap runs is)
      go (see_request on) is = still meaning program.table content request fuel checked.table rests labels (ap runs is)
      go (owner_request on) is = still meaning program.table content request fuel checked.table rests labels (ap runs is)

  -- and by the source meaning
  pub none_goes_wrong : NoRequestGoesWrong
  none_goes_wrong program content request fuel checked lowered rests labels =
      none_goes_wrong_by (source_meaning program.table fuel) program content request fuel checked
      (λ e entered. ends_as program checked lowered content fuel e entered) rests labels
