-- A request that is refused or aborted leaves what the store holds.
use Rattle.std.proofs.Common.{◌≡◌, ℕ, true, List, ◌∷◌, Option, Some, None, refl}
use Rattle.ob_table.specs.Tables.{ClassTable}
use Rattle.ob_heap_spec.specs.Values.{Value, int_value, bool_value, text_value, reference}
use Rattle.ob_heap_spec.specs.Contents.{Content}
use Rattle.ob_heap_spec.specs.Worlds.{ReadItem, RunOutcome, gives, aborts, wrong}
use Rattle.ob_rest_spec.specs.Incoming.{IncomingReference, owner_of}
use Rattle.ob_invocation_spec.specs.Requests.{Request}
use Rattle.ob_invocation_spec.specs.Replies.{ShownObject, ShownPlace, ok_shown, ok_place, is_ok}
use Rattle.ob_invocation_spec.specs.Checks.{reads_of, left_as_it_was, with_found}
use Rattle.ob_invocation_spec.specs.Entries.{HandleUse, Entry}
use Rattle.ob_invocation_spec.specs.Refusals.{new_checks, call_checks}
use Rattle.ob_invocation_spec.specs.Entering.{Meaning, first_outside_use, run_entry}
use Rattle.ob_invocation_spec.specs.Showing.{shown_at, shown_place, place_item, reply_of_result}
use Rattle.ob_invocation_spec.specs.Invocation.{ended, after_entry_test, enter_entry, show_owner, invoke}
use Rattle.ob_invocation_laws.specs.Laws.{LeavesUnlessDone}
use Rattle.ob_invocation_laws.proofs.Following.{Ways, of_found, of_operation}

-- a run that returns is answered as done
pub result_is_ok : (result : Option Value) → is_ok (reply_of_result result) ≡ true
result_is_ok None = refl
result_is_ok (Some (int_value z)) = refl
result_is_ok (Some (bool_value b)) = refl
result_is_ok (Some (text_value bytes)) = refl
result_is_ok (Some (reference n)) = refl

-- the end of a run
at_end : (table : ClassTable) (content : Content) (e : Entry) (reads : List ReadItem)
    (outcome : RunOutcome (Option Value)) → LeavesUnlessDone content (ended table content e reads outcome)
at_end table content e reads (gives result w) = λ refused. absurd (let done = result_is_ok result in cc)
at_end table content e reads (aborts cause s) = λ refused. refl
at_end table content e reads wrong = tt

-- what follows the entry test
after_test : (meaning : Meaning) (table : ClassTable) (content : Content) (fuel : ℕ) (e : Entry)
    (reads : List ReadItem) (outside : Option HandleUse)
    → LeavesUnlessDone content (after_entry_test meaning table content fuel e reads outside)
after_test meaning table content fuel e reads None = at_end table content e reads (run_entry meaning content fuel e)
after_test meaning table content fuel e reads (Some u) = λ refused. refl

-- what is entered
at_entry : (meaning : Meaning) (table : ClassTable) (content : Content) (fuel : ℕ) (e : Entry)
    (reads : List ReadItem) → LeavesUnlessDone content (enter_entry meaning table content fuel reads e)
at_entry meaning table content fuel e reads =
    after_test meaning table content fuel e reads (first_outside_use table content e)

-- an object that is shown
at_object : (content : Content) (reads : List ReadItem) (found : Option ShownObject)
    → LeavesUnlessDone content (with_found found (λ shown. left_as_it_was content (ok_shown shown) reads))
at_object content reads found =
    of_found (LeavesUnlessDone content) found (λ shown. left_as_it_was content (ok_shown shown) reads) (λ lost. tt)
    (λ shown is refused. refl)

-- a place that is shown
at_place : (content : Content) (reads : List ReadItem) (found : Option ShownPlace)
    → LeavesUnlessDone content (with_found found (λ shown. left_as_it_was content (ok_place shown) reads))
at_place content reads found =
    of_found (LeavesUnlessDone content) found (λ shown. left_as_it_was content (ok_place shown) reads) (λ lost. tt)
    (λ shown is refused. refl)

-- an owner that is shown
at_owner : (table : ClassTable) (content : Content) (reads : List ReadItem) (found : Option IncomingReference)
    → LeavesUnlessDone content (show_owner table content reads found)
at_owner table content reads None = λ refused. refl
at_owner table content reads (Some r) =
    at_place content (place_item r.place ∷ reads) (shown_place table content.objects r.place)

-- each way in which a request goes
each_way : (meaning : Meaning) (table : ClassTable) (content : Content) (fuel : ℕ) (who : List ℕ)
    → Ways (LeavesUnlessDone content) meaning table content fuel who
each_way meaning table content fuel who = record {
  still = record {
    refusals = λ refusal reads refused. refl;
    disowns = λ name h reads there refused. absurd cc;
    gives = λ r h reads passed there refused. absurd cc;
    sees = λ name h reads there. at_object content reads (shown_at table content.objects h.object);
    owners = λ name h reads there. at_owner table content reads (owner_of table content h.object);
  };
  news = λ r e passed found. at_entry meaning table content fuel e (reads_of (new_checks table content who r));
  lost_news = λ r passed lost. tt;
  calls = λ r e passed found. at_entry meaning table content fuel e (reads_of (call_checks table content who r));
  lost_calls = λ r passed lost. tt;
}

pub leaves : (meaning : Meaning) (table : ClassTable) (content : Content) (request : Request) (fuel : ℕ)
    → LeavesUnlessDone content (invoke meaning table content request fuel)
leaves meaning table content request fuel =
    of_operation (LeavesUnlessDone content) meaning table content fuel request.who
    (each_way meaning table content fuel request.who) request.operation
