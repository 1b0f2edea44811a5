-- An invocation comes to the same without the names of parameters, listed fields and bodies.
use Rattle.std.proofs.Common.{◌≡◌, ℕ, List, [], ◌∷◌, ◌++◌, Option, Some, None, refl, ap, ◌∙◌}
use Rattle.std.proofs.Math.Path.{fun_ext}
use Rattle.std.specs.Prelude.{nat_eq, not, find, filter, map, flat_map, filter_map, slice_get, option_map}
use Rattle.std.specs.List.{enumerate_from}
use Rattle.std.specs.Option.{option_map_or}
use Rattle.ob_base.specs.Optional.{◌>>=◌}
use Rattle.ob_table.specs.Tables.{ClassTable, contract_at}
use Rattle.ob_table.specs.declared.contract.Contract.{Contract}
use Rattle.ob_heap_spec.specs.Values.{Value}
use Rattle.ob_heap_spec.specs.Objects.{Object}
use Rattle.ob_heap_spec.specs.Contents.{HandleName, Handle, Content, object_at}
use Rattle.ob_heap_spec.specs.Worlds.{ReadItem, AbortCause, by_revert, by_state, by_reentry, by_overflow, by_fuel, by_full, RunOutcome, gives, aborts, wrong}
use Rattle.ob_rest_spec.specs.References.{FieldReference, reference_of, available_value, references_of}
use Rattle.ob_rest_spec.specs.Incoming.{StorePlace, stored_field, stored_handle, incoming_by_field, incoming_by_handle, handles_onto, IncomingReference, owner_of}
use Rattle.ob_rest_spec.specs.Modes.{is_owned}
use Rattle.ob_invocation_spec.specs.Requests.{Operation, new_request, call_request, disown_request, give_request, see_request, owner_request, NewRequest, CallRequest}
use Rattle.ob_invocation_spec.specs.Replies.{shown_field, aborted, ok_shown, ok_place, invoked, Invocation}
use Rattle.ob_invocation_spec.specs.Handles.{handle_name}
use Rattle.ob_invocation_spec.specs.Entries.{HandleUse, Entry, entry_of_new, entry_of_call, handle_uses}
use Rattle.ob_invocation_spec.specs.Checks.{left_as_it_was, unless_refused, with_found}
use Rattle.ob_invocation_spec.specs.Refusals.{new_checks, call_checks}
use Rattle.ob_invocation_spec.specs.Entering.{Meaning, is_outside_use, first_outside_use, outside_cause, run_entry, put_after_use, put_into}
use Rattle.ob_invocation_spec.specs.Showing.{contract_of_object, state_name, told_state, shown_object, shown_at, shown_place, place_item, reply_of_result}
use Rattle.ob_invocation_spec.specs.Invocation.{done_with, ended, after_entry_test, enter_entry, invoke_new, invoke_call, with_handle, invoke_see, show_owner, invoke_owner, invoke_operation}
use Rattle.ob_emit_laws.specs.Names.{contract_without_names, without_names}
use Rattle.ob_emit_laws.specs.Laws.{InvocationsIgnoreNames}
use Rattle.ob_emit_laws.proofs.Unnamed.{said_alike, leads_alike, contract_unnamed, held_unnamed}
use Rattle.ob_emit_laws.proofs.Entries.{entry_without_names, entry_new_unnamed, entry_call_unnamed, uses_unnamed, new_checks_unnamed, call_checks_unnamed}

-- What objects, states and places are called.

-- what follows the contract of an object asks for no names of parameters
of_contract : {A : Type 0} (table : ClassTable) (objects : List Object) (n : ℕ) (go : Contract → Option A)
    → ((c : Contract) → go (contract_without_names c) ≡ go c)
    → (contract_of_object (without_names table) objects n >>= go) ≡ (contract_of_object table objects n >>= go)
of_contract table objects n go same = by_object (object_at objects n)
  where
    by_object : (o : Option Object)
        → ((o >>= λ (o : Object). contract_at (without_names table) o.contract) >>= go)
        ≡ ((o >>= λ (o : Object). contract_at table o.contract) >>= go)
    by_object None = refl
    by_object (Some o) =
        ap (λ c. c >>= go) (contract_unnamed table o.contract)
        ∙ leads_alike contract_without_names go go same (contract_at table o.contract)

told_unnamed : (table : ClassTable) (objects : List Object) (cause : AbortCause)
    → told_state (without_names table) objects cause ≡ told_state table objects cause
told_unnamed table objects (by_state n state) = of_contract table objects n (λ c. state >>= state_name c) (λ c. refl)
told_unnamed table objects (by_revert text) = refl
told_unnamed table objects (by_reentry n) = refl
told_unnamed table objects (by_overflow line) = refl
told_unnamed table objects by_fuel = refl
told_unnamed table objects by_full = refl

shown_unnamed : (table : ClassTable) (objects : List Object) (n : ℕ)
    → shown_at (without_names table) objects n ≡ shown_at table objects n
shown_unnamed table objects n = by_object (object_at objects n)
  where
    by_object : (o : Option Object) → (o >>= λ (o : Object). contract_at (without_names table) o.contract >>= λ c. Some
        (shown_object c n o))
        ≡ (o >>= λ (o : Object). contract_at table o.contract >>= λ c. Some (shown_object c n o))
    by_object None = refl
    by_object (Some o) =
        ap (λ c. c >>= λ c. Some (shown_object c n o)) (contract_unnamed table o.contract)
        ∙ leads_alike contract_without_names (λ c. Some (shown_object c n o)) (λ c. Some (shown_object c n o)) (λ c. refl)
        (contract_at table o.contract)

place_unnamed : (table : ClassTable) (objects : List Object) (place : StorePlace)
    → shown_place (without_names table) objects place ≡ shown_place table objects place
place_unnamed table objects (stored_field n k) = of_contract table objects n
    (λ c. slice_get c.fields k >>= λ f. Some (shown_field n f.name)) (λ c. refl)
place_unnamed table objects (stored_handle name) = refl

-- Owners.

-- the references in the available fields of an object of a contract
abbrev references_in : ℕ → Object → Contract → List FieldReference
references_in n o c = filter_map (λ f. reference_of n f.0 f.1.of (available_value c o f.0)) (enumerate_from 0 c.fields)

references_unnamed : (table : ClassTable) (n : ℕ) (o : Object) → references_of (without_names table) n o ≡ references_of table n o
references_unnamed table n o =
    ap (λ c. option_map_or (references_in n o) c []) (contract_unnamed table o.contract)
    ∙ said_alike contract_without_names (references_in n o) (references_in n o) [] (λ c. refl) (contract_at table o.contract)

owner_unnamed : (table : ClassTable) (content : Content) (n : ℕ)
    → owner_of (without_names table) content n ≡ owner_of table content n
owner_unnamed table content n =
    ap (λ of. find (λ (r : IncomingReference). is_owned r.mode)
    (map incoming_by_field (filter (λ (r : FieldReference). nat_eq r.object n) (flat_map of (enumerate_from 0 content.objects)))
    ++ map incoming_by_handle (handles_onto content.handles n)))
    (fun_ext (λ (o : ℕ × Object). references_unnamed table o.0 o.1))

-- `new` and `call`.

ended_unnamed : (table : ClassTable) (content : Content) (e : Entry) (reads : List ReadItem) (run : RunOutcome (Option Value))
    → ended (without_names table) content (entry_without_names e) reads run ≡ ended table content e reads run
ended_unnamed table content e reads (gives result w) =
    ap (λ us. done_with (reply_of_result result) content (flat_map put_after_use us ++ put_into e result) w reads)
    (uses_unnamed content e)
ended_unnamed table content e reads (aborts cause s) =
    ap (λ state. invoked (record { reply = aborted cause state; content = content; taken = s.taken; reads = s.reads ++ reads }))
    (told_unnamed table content.objects cause)
ended_unnamed table content e reads wrong = refl

tested_unnamed : (meaning : Meaning) (table : ClassTable) (content : Content) (fuel : ℕ) (e : Entry) (reads : List ReadItem)
    (outside : Option HandleUse)
    → after_entry_test meaning (without_names table) content fuel (entry_without_names e) reads outside
    ≡ after_entry_test meaning table content fuel e reads outside
tested_unnamed meaning table content fuel e reads None = ended_unnamed table content e reads (run_entry meaning content fuel e)
tested_unnamed meaning table content fuel e reads (Some u) =
    ap (λ state. left_as_it_was content (aborted (outside_cause content.objects u) state) reads)
    (told_unnamed table content.objects (outside_cause content.objects u))

pub outside_unnamed : (table : ClassTable) (content : Content) (e : Entry)
    → first_outside_use (without_names table) content (entry_without_names e) ≡ first_outside_use table content e
outside_unnamed table content e =
    ap (find (is_outside_use (without_names table) content.objects)) (uses_unnamed content e)
    ∙ ap (λ test. find test (handle_uses content e))
    (fun_ext (λ (u : HandleUse). ap not (held_unnamed table content.objects u.contract u.entry (Some u.handle.object))))

entered_unnamed : (meaning : Meaning) (table : ClassTable) (content : Content) (fuel : ℕ) (reads : List ReadItem) (e : Entry)
    → enter_entry meaning (without_names table) content fuel reads (entry_without_names e)
    ≡ enter_entry meaning table content fuel reads e
entered_unnamed meaning table content fuel reads e =
    ap (after_entry_test meaning (without_names table) content fuel (entry_without_names e) reads)
    (outside_unnamed table content e)
    ∙ tested_unnamed meaning table content fuel e reads (first_outside_use table content e)

-- what follows a thing that was found is the same of what is made of it
found_alike : {A B : Type 0} (made : A → B) (g : B → Invocation) (f : A → Invocation) → ((x : A) → g (made x) ≡ f x)
    → (o : Option A)
    → with_found (option_map made o) g ≡ with_found o f
found_alike made g f same None = refl
found_alike made g f same (Some x) = same x

new_unnamed : (meaning : Meaning) (table : ClassTable) (content : Content) (fuel : ℕ) (who : List ℕ) (r : NewRequest)
    → invoke_new meaning (without_names table) content fuel who r ≡ invoke_new meaning table content fuel who r
new_unnamed meaning table content fuel who r =
    ap (λ checks. unless_refused content checks
    (λ reads. with_found (entry_of_new (without_names table) who r)
    (enter_entry meaning (without_names table) content fuel reads)))
    (new_checks_unnamed table content who r)
    ∙ ap (unless_refused content (new_checks table content who r)) (fun_ext (λ reads.
    ap (λ found. with_found found (enter_entry meaning (without_names table) content fuel reads)) (entry_new_unnamed table who r)
    ∙ found_alike entry_without_names (enter_entry meaning (without_names table) content fuel reads)
    (enter_entry meaning table content fuel reads)
    (entered_unnamed meaning table content fuel reads) (entry_of_new table who r)))

call_unnamed : (meaning : Meaning) (table : ClassTable) (content : Content) (fuel : ℕ) (who : List ℕ) (r : CallRequest)
    → invoke_call meaning (without_names table) content fuel who r ≡ invoke_call meaning table content fuel who r
call_unnamed meaning table content fuel who r =
    ap (λ checks. unless_refused content checks
    (λ reads. with_found (entry_of_call (without_names table) content who r)
    (enter_entry meaning (without_names table) content fuel reads)))
    (call_checks_unnamed table content who r)
    ∙ ap (unless_refused content (call_checks table content who r)) (fun_ext (λ reads.
    ap (λ found. with_found found (enter_entry meaning (without_names table) content fuel reads))
    (entry_call_unnamed table content who r)
    ∙ found_alike entry_without_names (enter_entry meaning (without_names table) content fuel reads)
    (enter_entry meaning table content fuel reads)
    (entered_unnamed meaning table content fuel reads) (entry_of_call table content who r)))

-- `see` and `owner`.

see_unnamed : (table : ClassTable) (content : Content) (name : HandleName)
    → invoke_see (without_names table) content name ≡ invoke_see table content name
see_unnamed table content name =
    ap (with_handle content name) (fun_ext (λ (h : Handle). fun_ext (λ (reads : List ReadItem).
    ap (λ shown. with_found shown (λ s. left_as_it_was content (ok_shown s) reads))
    (shown_unnamed table content.objects h.object))))

show_owner_unnamed : (table : ClassTable) (content : Content) (reads : List ReadItem) (owner : Option IncomingReference)
    → show_owner (without_names table) content reads owner ≡ show_owner table content reads owner
show_owner_unnamed table content reads None = refl
show_owner_unnamed table content reads (Some r) =
    ap (λ place. with_found place (λ p. left_as_it_was content (ok_place p) (place_item r.place ∷ reads)))
    (place_unnamed table content.objects r.place)

owner_shown_unnamed : (table : ClassTable) (content : Content) (name : HandleName)
    → invoke_owner (without_names table) content name ≡ invoke_owner table content name
owner_shown_unnamed table content name =
    ap (with_handle content name) (fun_ext (λ (h : Handle). fun_ext (λ (reads : List ReadItem).
    ap (show_owner (without_names table) content reads) (owner_unnamed table content h.object)
    ∙ show_owner_unnamed table content reads (owner_of table content h.object))))

-- Requests.

operation_unnamed : (meaning : Meaning) (table : ClassTable) (content : Content) (fuel : ℕ) (who : List ℕ) (operation : Operation)
    → invoke_operation meaning (without_names table) content fuel who operation
    ≡ invoke_operation meaning table content fuel who operation
operation_unnamed meaning table content fuel who (new_request r) = new_unnamed meaning table content fuel who r
operation_unnamed meaning table content fuel who (call_request r) = call_unnamed meaning table content fuel who r
operation_unnamed meaning table content fuel who (disown_request on) = refl
operation_unnamed meaning table content fuel who (give_request r) = refl
operation_unnamed meaning table content fuel who (see_request on) = see_unnamed table content (handle_name who on)
operation_unnamed meaning table content fuel who (owner_request on) = owner_shown_unnamed table content (handle_name who on)

pub invocations_ignore_names : InvocationsIgnoreNames
invocations_ignore_names meaning table content request fuel =
    operation_unnamed meaning table content fuel request.who request.operation
