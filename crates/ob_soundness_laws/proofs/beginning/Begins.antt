-- What a request enters that isn't refused begins coherently, or aborts.
use Rattle.std.proofs.Common.{◌≡◌, ◌≢◌, ℕ, true, List, [], ◌∷◌, ◌++◌, Option, Some, None, refl, sym, ap, subst, ◌∙◌, true≢false}
use Rattle.std.specs.Prelude.{option_to_list, if◌then◌else◌}
use Rattle.std.specs.List.{list_all}
use Rattle.std.proofs.lemmas.Bool.{and_parts}
use Rattle.ob_base.specs.Names.{is_label}
use Rattle.ob_table.specs.Tables.{ClassTable}
use Rattle.ob_heap_spec.specs.Contents.{Content}
use Rattle.ob_silica_steps.specs.Configurations.{SilicaProgram}
use Rattle.ob_silica_steps.specs.Starting.{first_notes}
use Rattle.ob_coherent_spec.specs.Remaining.{IsCheckedProgram}
use Rattle.ob_coherent_spec.specs.Coherent.{StepsSo}
use Rattle.ob_rest_spec.specs.AtRest.{IsStoreAtRest}
use Rattle.ob_invocation_spec.specs.Requests.{NewRequest, CallRequest, call_request, argument_names, HasLabels}
use Rattle.ob_invocation_spec.specs.Handles.{handle_name}
use Rattle.ob_invocation_spec.specs.Entries.{Entry, entry_of_new, entry_of_call, values_of}
use Rattle.ob_invocation_spec.specs.Replies.{no_contract, not_main, no_transaction}
use Rattle.ob_invocation_spec.specs.Checks.{Check, check, refusal_of}
use Rattle.ob_invocation_spec.specs.Refusals.{handle_check, argument_checks, is_no_contract, is_not_main, is_no_transaction, entry_checks, found_checks, new_checks, call_checks}
use Rattle.ob_invocation_spec.specs.Entering.{first_outside_use, entry_world}
use Rattle.ob_soundness_laws.specs.Requests.{handles_in_run, entry_lock, beginning_on, beginning_of, started_on}
use Rattle.ob_soundness_laws.specs.beginning.Starts.{CallStarts, NewStarts, RequestStarts}
use Rattle.ob_soundness_laws.proofs.beginning.Checked.{not_refused}
use Rattle.ob_soundness_laws.proofs.beginning.CallBegins.{world_objects, call_begins}
use Rattle.ob_soundness_laws.proofs.beginning.NewBegins.{new_begins}

-- Checks.

not_refused_both : (cs ds : List Check) → refusal_of (cs ++ ds) ≡ None → (refusal_of cs ≡ None) × (refusal_of ds ≡ None)
not_refused_both [] ds e = (refl, e)
not_refused_both (c ∷ cs) ds e =
    let one = not_refused c (cs ++ ds) e in
    let rest = not_refused_both cs ds one.1 in
    (ap (λ b. if b then Some c.refusal else refusal_of cs) one.0 ∙ rest.0, rest.1)

found_so : (table : ClassTable) (content : Content) (found : Option Entry) (e : Entry) → found ≡ Some e
    → refusal_of (found_checks table content found) ≡ None → refusal_of (entry_checks table content e) ≡ None
found_so table content found e is none =
    (not_refused_both (entry_checks table content e) []
    (ap (λ o. refusal_of (found_checks table content o)) (sym is) ∙ none)).0

pub call_entry : (table : ClassTable) (content : Content) (who : List ℕ) (r : CallRequest) (e : Entry)
    → entry_of_call table content who r ≡ Some e → refusal_of (call_checks table content who r) ≡ None
    → refusal_of (entry_checks table content e) ≡ None
call_entry table content who r e is none =
    let last = check no_transaction (is_no_transaction (entry_of_call table content who r))
    ∷ found_checks table content (entry_of_call table content who r) in
    let one = not_refused (handle_check content (handle_name who r.on)) (argument_checks content who r.args ++ last)
    none in
    let two = not_refused_both (argument_checks content who r.args) last one.1 in
    let three = not_refused (check no_transaction (is_no_transaction (entry_of_call table content who r)))
    (found_checks table content (entry_of_call table content who r)) two.1 in
    found_so table content (entry_of_call table content who r) e is three.1

pub new_entry : (table : ClassTable) (content : Content) (who : List ℕ) (r : NewRequest) (e : Entry)
    → entry_of_new table who r ≡ Some e → refusal_of (new_checks table content who r) ≡ None
    → refusal_of (entry_checks table content e) ≡ None
new_entry table content who r e is none =
    let last = found_checks table content (entry_of_new table who r) in
    let two = not_refused_both (argument_checks content who r.args)
    (check no_contract (is_no_contract table r.contract) ∷ check not_main (is_not_main table r.contract) ∷ last) none in
    let three = not_refused (check no_contract (is_no_contract table r.contract))
    (check not_main (is_not_main table r.contract) ∷ last) two.1 in
    let four = not_refused (check not_main (is_not_main table r.contract)) last three.1 in
    found_so table content (entry_of_new table who r) e is four.1

-- the name of a transaction is a label, and so not empty
named_call : (who : List ℕ) (r : CallRequest) → HasLabels (record { who = who; operation = call_request r }) → r.tx ≢ []
named_call who r labels none =
    let rest : List (List ℕ) = argument_names r.args ++ option_to_list r.into in
    let one = and_parts (is_label who) (list_all is_label (r.on ∷ r.tx ∷ rest)) labels in
    let two = and_parts (is_label r.on) (list_all is_label (r.tx ∷ rest)) one.1 in
    let three = and_parts (is_label r.tx) (list_all is_label rest) two.1 in
    let empty : is_label [] ≡ true = ap is_label (sym none) ∙ three.0 in
    true≢false (sym empty)

-- A `call` of a request with labels that isn't refused begins coherently, or aborts.
pub call_request_begins : (program : SilicaProgram) → IsCheckedProgram program → (content : Content)
    → IsStoreAtRest program.table content → (who : List ℕ) (r : CallRequest) (e : Entry)
    → HasLabels (record { who = who; operation = call_request r }) → entry_of_call program.table content who r ≡ Some e
    → refusal_of (call_checks program.table content who r) ≡ None → first_outside_use program.table content e ≡ None
    → (fuel : ℕ) → RequestStarts program content fuel e
call_request_begins program is content rest who r e labels found none inside fuel =
    let s : CallStarts program content fuel e = call_begins program is content rest who r e (named_call who r labels)
    found
    (call_entry program.table content who r e found none) inside fuel in
    subst (λ os. StepsSo program.table (entry_lock e.receiver) (beginning_of content e)
    (started_on program e e.receiver (values_of content e) (first_notes program.table os (handles_in_run content e))
    (entry_world content fuel e))) (sym (world_objects content fuel e.receiver))
    (subst (λ x. StepsSo program.table (entry_lock e.receiver) (beginning_on e x (values_of content e))
    (started_on program e x (values_of content e) (first_notes program.table content.objects (handles_in_run content e))
    (entry_world content fuel e))) (sym s.1) s.2)

-- A `new` that isn't refused begins coherently, or aborts.
pub new_request_begins : (program : SilicaProgram) → IsCheckedProgram program → (content : Content)
    → IsStoreAtRest program.table content → (who : List ℕ) (r : NewRequest) (e : Entry)
    → entry_of_new program.table who r ≡ Some e
    → refusal_of (new_checks program.table content who r) ≡ None → first_outside_use program.table content e ≡ None
    → (fuel : ℕ) → RequestStarts program content fuel e
new_request_begins program is content rest who r e found none inside fuel =
    let s : NewStarts program content fuel e = new_begins program is content rest who r e found
    (new_entry program.table content who r e found none) inside fuel in
    subst (λ os. StepsSo program.table (entry_lock e.receiver) (beginning_of content e)
    (started_on program e e.receiver (values_of content e) (first_notes program.table os (handles_in_run content e))
    (entry_world content fuel e))) (sym (world_objects content fuel e.receiver))
    (subst (λ x. StepsSo program.table (entry_lock x) (beginning_on e x (values_of content e))
    (started_on program e x (values_of content e) (first_notes program.table content.objects (handles_in_run content e))
    (entry_world content fuel e))) (sym s.0) s.1)
