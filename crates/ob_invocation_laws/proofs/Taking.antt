-- A refused request takes no unit, and neither does one that asks for no run.
use Rattle.std.proofs.Common.{◌≡◌, ◌∙◌, ℕ, Bool, true, false, List, [], ◌∷◌, Option, Some, None, refl}
use Rattle.std.specs.Prelude.{if◌then◌else◌}
use Rattle.std.specs.Option.{option_map_or}
use Rattle.ob_table.specs.Tables.{ClassTable}
use Rattle.ob_heap_spec.specs.Values.{Value, int_value, bool_value, text_value, reference}
use Rattle.ob_heap_spec.specs.Objects.{Object}
use Rattle.ob_heap_spec.specs.Contents.{Handle, Content, object_at}
use Rattle.ob_heap_spec.specs.Worlds.{World, object_item, ReadItem, RunOutcome, gives, aborts, wrong, with_read, is_made, read_object, set_object, edit_object}
use Rattle.ob_heap_spec.specs.Marks.{has_mark, mark_shared, mark_disowned}
use Rattle.ob_heap_spec.specs.Handles.{NamedHandle}
use Rattle.ob_rest_spec.specs.Modes.{is_owned, is_shared}
use Rattle.ob_rest_spec.specs.Incoming.{IncomingReference, owner_of}
use Rattle.ob_invocation_spec.specs.Requests.{Request}
use Rattle.ob_invocation_spec.specs.Replies.{ok_shown, ok_place, Invocation, invoked, goes_wrong}
use Rattle.ob_invocation_spec.specs.Handles.{mark_put, mark_puts}
use Rattle.ob_invocation_spec.specs.Checks.{reads_of, left_as_it_was}
use Rattle.ob_invocation_spec.specs.Entries.{HandleUse, Entry}
use Rattle.ob_invocation_spec.specs.Refusals.{new_checks, call_checks}
use Rattle.ob_invocation_spec.specs.Entering.{Meaning, first_outside_use, run_entry}
use Rattle.ob_invocation_spec.specs.Showing.{shown_at, shown_place, place_item, reply_of_result}
use Rattle.ob_invocation_spec.specs.Invocation.{ended, after_entry_test, enter_entry, still_world, disowned_world, puts_of_give, show_object, show_owner, show_owner_of, invoke}
use Rattle.ob_invocation_laws.specs.Laws.{is_refused, runs, TakesNothing, TakesNothingIfRefused}
use Rattle.ob_invocation_laws.proofs.Following.{StillWays, Ways, of_found, of_still, of_operation}

-- Marks.

-- one of two worlds that have taken as much
either : (b : Bool) (w v : World) (n : ℕ) → w.taken ≡ n → v.taken ≡ n → (if b then w else v).taken ≡ n
either true w v n first second = first
either false w v n first second = second

-- reading an object takes nothing
reading : (w : World) (n : ℕ) → (read_object w n).taken ≡ w.taken
reading w n = either (is_made w n) w (with_read w (object_item n)) w.taken refl refl

-- changing an object takes nothing
editing_it : (f : Object → Object) (n : ℕ) (w : World) (found : Option Object)
    → (option_map_or (λ o. set_object w n (f o)) found w).taken ≡ w.taken
editing_it f n w None = refl
editing_it f n w (Some o) = refl

editing : (f : Object → Object) (n : ℕ) (w : World) → (edit_object f n w).taken ≡ w.taken
editing f n w = editing_it f n w (object_at w.objects n)

-- marking takes nothing
marking_shared : (n : ℕ) (w : World) → (mark_shared n w).taken ≡ w.taken
marking_shared n w =
    let w1 = read_object w n in
    either (has_mark (λ o. o.shared) w1 n) w1 (edit_object (λ o. record o { shared = true }) n w1) w.taken (reading w n)
    (editing (λ o. record o { shared = true }) n w1 ∙ reading w n)

marking_disowned : (n : ℕ) (w : World) → (mark_disowned n w).taken ≡ w.taken
marking_disowned n w =
    let w1 = read_object w n in
    either (has_mark (λ o. o.disowned) w1 n) w1 (edit_object (λ o. record o { disowned = true }) n w1) w.taken
    (reading w n) (editing (λ o. record o { disowned = true }) n w1 ∙ reading w n)

-- the mark of a handle that is put
putting : (w : World) (h : NamedHandle) → (mark_put w h).taken ≡ w.taken
putting w h = either (is_shared h.1.mode) (mark_shared h.1.object w) w w.taken (marking_shared h.1.object w) refl

-- the marks of handles that are put
pub puts_take_nothing : (w : World) (puts : List NamedHandle) → (mark_puts w puts).taken ≡ w.taken
puts_take_nothing w [] = refl
puts_take_nothing w (h ∷ puts) = puts_take_nothing (mark_put w h) puts ∙ putting w h

-- Refused requests.

-- a run that returns isn't answered by a refusal
result_is_no_refusal : (result : Option Value) → is_refused (reply_of_result result) ≡ false
result_is_no_refusal None = refl
result_is_no_refusal (Some (int_value z)) = refl
result_is_no_refusal (Some (bool_value b)) = refl
result_is_no_refusal (Some (text_value bytes)) = refl
result_is_no_refusal (Some (reference n)) = refl

-- the end of a run
at_end : (table : ClassTable) (content : Content) (e : Entry) (reads : List ReadItem)
    (outcome : RunOutcome (Option Value)) → TakesNothingIfRefused (ended table content e reads outcome)
at_end table content e reads (gives result w) = λ refused. absurd (let done = result_is_no_refusal result in cc)
at_end table content e reads (aborts cause s) = λ refused. absurd cc
at_end table content e reads wrong = tt

-- what follows the entry test
after_test : (meaning : Meaning) (table : ClassTable) (content : Content) (fuel : ℕ) (e : Entry)
    (reads : List ReadItem) (outside : Option HandleUse)
    → TakesNothingIfRefused (after_entry_test meaning table content fuel e reads outside)
after_test meaning table content fuel e reads None = at_end table content e reads (run_entry meaning content fuel e)
after_test meaning table content fuel e reads (Some u) = λ refused. refl

-- what is entered
at_entry : (meaning : Meaning) (table : ClassTable) (content : Content) (fuel : ℕ) (e : Entry)
    (reads : List ReadItem) → TakesNothingIfRefused (enter_entry meaning table content fuel reads e)
at_entry meaning table content fuel e reads =
    after_test meaning table content fuel e reads (first_outside_use table content e)

-- Requests without a run.

-- an object that is shown
at_object : (table : ClassTable) (content : Content) (h : Handle) (reads : List ReadItem)
    → TakesNothing (show_object table content h reads)
at_object table content h reads =
    of_found TakesNothing (shown_at table content.objects h.object)
    (λ shown. left_as_it_was content (ok_shown shown) reads) (λ lost. tt) (λ shown is. refl)

-- an owner that is shown
at_place : (table : ClassTable) (content : Content) (reads : List ReadItem) (found : Option IncomingReference)
    → TakesNothing (show_owner table content reads found)
at_place table content reads None = refl
at_place table content reads (Some r) =
    of_found TakesNothing (shown_place table content.objects r.place)
    (λ shown. left_as_it_was content (ok_place shown) (place_item r.place ∷ reads)) (λ lost. tt) (λ shown is. refl)

at_owner : (table : ClassTable) (content : Content) (h : Handle) (reads : List ReadItem)
    → TakesNothing (show_owner_of table content h reads)
at_owner table content h reads = at_place table content reads (owner_of table content h.object)

-- the world of a `disown`
at_disown : (content : Content) (h : Handle) → (disowned_world content h).taken ≡ 0
at_disown content h =
    either (is_owned h.mode) (mark_disowned h.object (still_world content)) (still_world content) 0
    (marking_disowned h.object (still_world content)) refl

-- the world of a `give`
at_give : (content : Content) (puts : List NamedHandle) → (mark_puts (still_world content) puts).taken ≡ 0
at_give content puts = puts_take_nothing (still_world content) puts

-- each way in which a request that asks for no run goes
still_ways : (table : ClassTable) (content : Content) (who : List ℕ) → StillWays TakesNothing table content who
still_ways table content who = record {
  refusals = λ refusal reads. refl;
  disowns = λ name h reads there. at_disown content h;
  gives = λ r h reads passed there. at_give content (puts_of_give who r h);
  sees = λ name h reads there. at_object table content h reads;
  owners = λ name h reads there. at_owner table content h reads;
}

-- what takes nothing takes nothing if it is refused
if_refused : (i : Invocation) → TakesNothing i → TakesNothingIfRefused i
if_refused (invoked i) nothing = λ refused. nothing
if_refused goes_wrong nothing = tt

-- each way in which a request goes
each_way : (meaning : Meaning) (table : ClassTable) (content : Content) (fuel : ℕ) (who : List ℕ)
    → Ways TakesNothingIfRefused meaning table content fuel who
each_way meaning table content fuel who = record {
  still = record {
    refusals = λ refusal reads refused. refl;
    disowns = λ name h reads there refused. at_disown content h;
    gives = λ r h reads passed there refused. at_give content (puts_of_give who r h);
    sees = λ name h reads there. if_refused (show_object table content h reads) (at_object table content h reads);
    owners = λ name h reads there. if_refused (show_owner_of table content h reads) (at_owner table content h reads);
  };
  news = λ r e passed found. at_entry meaning table content fuel e (reads_of (new_checks table content who r));
  lost_news = λ r passed lost. tt;
  calls = λ r e passed found. at_entry meaning table content fuel e (reads_of (call_checks table content who r));
  lost_calls = λ r passed lost. tt;
}

pub refused_takes_nothing : (meaning : Meaning) (table : ClassTable) (content : Content) (request : Request) (fuel : ℕ)
    → TakesNothingIfRefused (invoke meaning table content request fuel)
refused_takes_nothing meaning table content request fuel =
    of_operation TakesNothingIfRefused meaning table content fuel request.who
    (each_way meaning table content fuel request.who) request.operation

pub still_takes_nothing : (meaning : Meaning) (table : ClassTable) (content : Content) (request : Request) (fuel : ℕ)
    → runs request.operation ≡ false → TakesNothing (invoke meaning table content request fuel)
still_takes_nothing meaning table content request fuel still =
    of_still TakesNothing meaning table content fuel request.who (still_ways table content request.who)
    request.operation still
