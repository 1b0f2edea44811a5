-- Two meanings of a `new` and a `call` that come to the same for each entry give the same invocation.
use Rattle.std.proofs.Common.{◌≡◌, ℕ, List, ◌++◌, Option, Some, None, refl, sym, ap, subst, ⊎_elim}
use Rattle.std.specs.Prelude.{Contains, ⊤}
use Rattle.std.proofs.lemmas.List.Elements.{Contains-append_left, Contains-append_right, Contains-append_cases}
use Rattle.ob_table.specs.Tables.{ClassTable}
use Rattle.ob_heap_spec.specs.Values.{Value}
use Rattle.ob_heap_spec.specs.Contents.{Content}
use Rattle.ob_heap_spec.specs.Worlds.{World, ReadItem, ReadSame, SameWorld, SameSpent, RunOutcome, gives, aborts, wrong}
use Rattle.ob_heap_spec.specs.Handles.{put_handles}
use Rattle.ob_source_meaning.proofs.Same.{read_same}
use Rattle.ob_invocation_spec.specs.Requests.{Operation, Request, HasLabels, new_request, call_request, disown_request, give_request, see_request, owner_request}
use Rattle.ob_invocation_spec.specs.Replies.{Invocation, invoked, goes_wrong, Refusal}
use Rattle.ob_invocation_spec.specs.Entries.{HandleUse, Entry, entry_of_new, entry_of_call}
use Rattle.ob_invocation_spec.specs.Checks.{refusal_of, reads_of, refused_or, with_found}
use Rattle.ob_invocation_spec.specs.Refusals.{new_checks, call_checks}
use Rattle.ob_invocation_spec.specs.Entering.{Meaning, first_outside_use, run_entry, puts_after}
use Rattle.ob_invocation_spec.specs.Invocation.{ended, after_entry_test, enter_entry, invoke, invoke_operation}
use Rattle.ob_soundness_laws.specs.Requests.{IsEntered, by_request_new, by_request_call}
use Rattle.ob_sound_code.specs.SoundCode.{SameInvocation}
use Rattle.ob_sound_code.proofs.Marks.{puts_same}

-- two runs come to the same
abbrev pub SameOutcome : RunOutcome (Option Value) → RunOutcome (Option Value) → Type 0
SameOutcome (gives result w) (gives other v) = (other ≡ result) × SameWorld w v
SameOutcome (aborts cause s) (aborts other t) = (other ≡ cause) × SameSpent s t
SameOutcome wrong wrong = ⊤
SameOutcome a b = ⊥

same_itself : (i : Invocation) → SameInvocation i i
same_itself (invoked i) = record { reply = refl; content = refl; taken = refl; reads = read_same i.reads }
same_itself goes_wrong = tt

-- what was read before the same items
reads_before : (rs ss more : List ReadItem) → ReadSame rs ss → ReadSame (rs ++ more) (ss ++ more)
reads_before rs ss more h = (go rs ss h.0, go ss rs h.1)
  where
    go : (old new : List ReadItem) → ((x : ReadItem) → Contains old x → Contains new x) → (x : ReadItem) → Contains (old ++ more) x → Contains (new ++ more) x
    go old new f x c =
        ⊎_elim (λ a. Contains-append_left new more x (f x a)) (λ b. Contains-append_right new more x b) (Contains-append_cases old more x c)

module _ (table : ClassTable) (content : Content) (e : Entry) (reads : List ReadItem) where
  given_alike : (result : Option Value) (w v : World) → SameWorld w v
      → SameInvocation (ended table content e reads (gives result w)) (ended table content e reads (gives result v))
  given_alike result w v s =
      let m = puts_same (puts_after content e result) w v s in
      record {
        reply = refl;
        content = ap {B = Content} (λ o. record { objects = o; handles = put_handles content.handles (puts_after content e result) }) m.objects;
        taken = m.taken;
        reads = reads_before _ _ reads m.reads;
      }

  ended_alike : (a b : RunOutcome (Option Value)) → SameOutcome a b
      → SameInvocation (ended table content e reads a) (ended table content e reads b)
  ended_alike (gives result w) (gives other v) (same, s) =
      subst (λ r. SameInvocation (ended table content e reads (gives result w)) (ended table content e reads (gives r v))) (sym same)
      (given_alike result w v s)
  ended_alike (gives result w) (aborts other t) h = absurd h
  ended_alike (gives result w) wrong h = absurd h
  ended_alike (aborts cause s) (gives other v) h = absurd h
  ended_alike (aborts cause s) (aborts other t) (same, h) =
      subst (λ x. SameInvocation (ended table content e reads (aborts cause s)) (ended table content e reads (aborts x t))) (sym same)
      (record { reply = refl; content = refl; taken = h.taken; reads = reads_before s.reads t.reads reads h.reads })
  ended_alike (aborts cause s) wrong h = absurd h
  ended_alike wrong (gives other v) h = absurd h
  ended_alike wrong (aborts other t) h = absurd h
  ended_alike wrong wrong h = tt

module _ (first second : Meaning) (table : ClassTable) (content : Content) (fuel : ℕ)
    (alike : (e : Entry) → IsEntered table content e → SameOutcome (run_entry first content fuel e) (run_entry second content fuel e)) where
  entered_alike : (e : Entry) (reads : List ReadItem) (u : Option HandleUse)
      → (u ≡ None → IsEntered table content e)
      → SameInvocation (after_entry_test first table content fuel e reads u) (after_entry_test second table content fuel e reads u)
  entered_alike e reads None is = ended_alike table content e reads _ _ (alike e (is refl))
  entered_alike e reads (Some u) is = same_itself (after_entry_test first table content fuel e reads (Some u))

  found_alike : (found : Option Entry) (reads : List ReadItem)
      → ((e : Entry) → found ≡ Some e → first_outside_use table content e ≡ None → IsEntered table content e)
      → SameInvocation (with_found found (enter_entry first table content fuel reads)) (with_found found (enter_entry second table content fuel reads))
  found_alike None reads is = tt
  found_alike (Some e) reads is = entered_alike e reads (first_outside_use table content e) (is e refl)

  refused_alike : (refusal : Option Refusal) (reads : List ReadItem) (found : Option Entry)
      → (refusal ≡ None → (e : Entry) → found ≡ Some e → first_outside_use table content e ≡ None → IsEntered table content e)
      → SameInvocation (refused_or content refusal reads (λ rs. with_found found (enter_entry first table content fuel rs)))
      (refused_or content refusal reads (λ rs. with_found found (enter_entry second table content fuel rs)))
  refused_alike None reads found is = found_alike found reads (is refl)
  refused_alike (Some refusal) reads found is = same_itself (refused_or content (Some refusal) reads (λ rs. with_found found (enter_entry first table content fuel rs)))

  operation_alike : (who : List ℕ) (o : Operation) → HasLabels (record { who = who; operation = o })
      → SameInvocation (invoke_operation first table content fuel who o) (invoke_operation second table content fuel who o)
  operation_alike who (new_request r) labels =
      refused_alike (refusal_of (new_checks table content who r)) (reads_of (new_checks table content who r)) (entry_of_new table who r)
      (λ passed e is within. by_request_new who r labels is passed within)
  operation_alike who (call_request r) labels =
      refused_alike (refusal_of (call_checks table content who r)) (reads_of (call_checks table content who r)) (entry_of_call table content who r)
      (λ passed e is within. by_request_call who r labels is passed within)
  operation_alike who (disown_request on) labels = same_itself (invoke_operation first table content fuel who (disown_request on))
  operation_alike who (give_request r) labels = same_itself (invoke_operation first table content fuel who (give_request r))
  operation_alike who (see_request on) labels = same_itself (invoke_operation first table content fuel who (see_request on))
  operation_alike who (owner_request on) labels = same_itself (invoke_operation first table content fuel who (owner_request on))

  -- each request comes to the same by both
  pub invocations_alike : (request : Request) → HasLabels request
      → SameInvocation (invoke first table content request fuel) (invoke second table content request fuel)
  invocations_alike request labels = operation_alike request.who request.operation labels
