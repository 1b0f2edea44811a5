-- The invocation: what one request does to what a store holds (this project's own).
use Rattle.std.specs.Prelude.{ℕ, List, [], ◌∷◌, ◌++◌, Option, Some, None, if◌then◌else◌}
use Rattle.ob_base.specs.declared.permission.Mode.{Mode}
use Rattle.ob_base.specs.declared.permission.Mode.TheVariants.{Owned, Shared, Unowned}
use Rattle.ob_table.specs.Tables.{ClassTable}
use Rattle.ob_heap_spec.specs.Values.{Value}
use Rattle.ob_heap_spec.specs.Contents.{HandleName, Handle, Content}
use Rattle.ob_heap_spec.specs.Worlds.{World, first_world, ReadItem, RunOutcome, gives, aborts, wrong}
use Rattle.ob_heap_spec.specs.Marks.{mark_disowned}
use Rattle.ob_heap_spec.specs.Handles.{NamedHandle, handle_at, put_handles, without_handle}
use Rattle.ob_rest_spec.specs.Modes.{is_owned}
use Rattle.ob_rest_spec.specs.Incoming.{IncomingReference, owner_of}
use Rattle.ob_invocation_spec.specs.Requests.{Operation, new_request, call_request, disown_request, give_request, see_request, owner_request, NewRequest, CallRequest, GiveRequest, Request}
use Rattle.ob_invocation_spec.specs.Replies.{Reply, ok_nothing, ok_shown, ok_place, aborted, Invocation, invoked, goes_wrong}
use Rattle.ob_invocation_spec.specs.Handles.{handle_name, mark_puts}
use Rattle.ob_invocation_spec.specs.Entries.{HandleUse, Entry, entry_of_new, entry_of_call}
use Rattle.ob_invocation_spec.specs.Checks.{left_as_it_was, unless_refused, with_found}
use Rattle.ob_invocation_spec.specs.Refusals.{handle_check, new_checks, call_checks, give_checks}
use Rattle.ob_invocation_spec.specs.Entering.{Meaning, first_outside_use, outside_cause, run_entry, handle_in, puts_after}
use Rattle.ob_invocation_spec.specs.Showing.{told_state, shown_at, shown_place, place_item, reply_of_result}

-- a request was done: the store holds the objects of a world and these handles, and what the world has taken and read
-- comes to what was read before
abbrev pub done : Reply → List NamedHandle → World → List ReadItem → Invocation
done reply handles w reads = invoked (record {
  reply = reply;
  content = record { objects = w.objects; handles = handles };
  taken = w.taken;
  reads = w.reads ++ reads;
})

-- the same where handles are put, one after another
abbrev pub done_with : Reply → Content → List NamedHandle → World → List ReadItem → Invocation
done_with reply content puts w reads = done reply (put_handles content.handles puts) (mark_puts w puts) reads

-- the world of a request that runs nothing
abbrev pub still_world : Content → World
still_world content = first_world content.objects 0

-- `new` and `call`.

-- how a `new` or a `call` ends, by the end of its run; one that is aborted leaves what the store holds
abbrev pub ended : ClassTable → Content → Entry → List ReadItem → RunOutcome (Option Value) → Invocation
ended table content e reads (gives result w) =
    done_with (reply_of_result result) content (puts_after content e result) w reads
ended table content e reads (aborts cause s) = invoked (record {
  reply = aborted cause (told_state table content.objects cause);
  content = content;
  taken = s.taken;
  reads = s.reads ++ reads;
})
ended table content e reads wrong = goes_wrong

-- a `new` or a `call` after its entry test: it aborts where a use finds its object outside the declared states, and
-- else it runs
abbrev pub after_entry_test : Meaning → ClassTable → Content → ℕ → Entry → List ReadItem → Option HandleUse → Invocation
after_entry_test meaning table content fuel e reads None =
    ended table content e reads (run_entry meaning content fuel e)
after_entry_test meaning table content fuel e reads (Some u) =
    let cause = outside_cause content.objects u in
    left_as_it_was content (aborted cause (told_state table content.objects cause)) reads

-- a `new` or a `call` that isn't refused
abbrev pub enter_entry : Meaning → ClassTable → Content → ℕ → List ReadItem → Entry → Invocation
enter_entry meaning table content fuel reads e =
    after_entry_test meaning table content fuel e reads (first_outside_use table content e)

-- a `new`
abbrev pub invoke_new : Meaning → ClassTable → Content → ℕ → List ℕ → NewRequest → Invocation
invoke_new meaning table content fuel who r =
    unless_refused content (new_checks table content who r)
    (λ reads. with_found (entry_of_new table who r) (enter_entry meaning table content fuel reads))

-- a `call`
abbrev pub invoke_call : Meaning → ClassTable → Content → ℕ → List ℕ → CallRequest → Invocation
invoke_call meaning table content fuel who r =
    unless_refused content (call_checks table content who r)
    (λ reads. with_found (entry_of_call table content who r) (enter_entry meaning table content fuel reads))

-- The requests that run nothing.

-- what follows from the handle of a name, with what was read of it; without one the request is refused
abbrev pub with_handle : Content → HandleName → (Handle → List ReadItem → Invocation) → Invocation
with_handle content name go =
    unless_refused content (handle_check content name ∷ [])
    (λ reads. with_found (handle_at content name) (λ h. go h reads))

-- the world of a `disown` of a handle: where it was Owned its object is marked as disowned
abbrev pub disowned_world : Content → Handle → World
disowned_world content h =
    if is_owned h.mode then mark_disowned h.object (still_world content) else still_world content

-- a `disown` of a handle: the handle goes
abbrev pub disown_handle : Content → HandleName → Handle → List ReadItem → Invocation
disown_handle content name h reads =
    done ok_nothing (without_handle content.handles name) (disowned_world content h) reads

-- a `disown`
abbrev pub invoke_disown : Content → HandleName → Invocation
invoke_disown content name = with_handle content name (disown_handle content name)

-- what the giver's handle becomes: Unowned where an Owned one is given, Shared where a Shared one is; else it stays as
-- it is
abbrev pub giver_after : HandleName → ℕ → Mode → List NamedHandle
giver_after name n Owned = handle_in name n Unowned ∷ []
giver_after name n Shared = handle_in name n Shared ∷ []
giver_after name n Unowned = []

-- what handles become by a `give` from a handle
abbrev pub puts_of_give : List ℕ → GiveRequest → Handle → List NamedHandle
puts_of_give who r h =
    giver_after (handle_name who r.on) h.object r.mode ++ handle_in (handle_name r.to r.into) h.object r.mode ∷ []

-- a `give` from a handle
abbrev pub give_from : Content → List ℕ → GiveRequest → List ReadItem → Handle → Invocation
give_from content who r reads h = done_with ok_nothing content (puts_of_give who r h) (still_world content) reads

-- a `give`
abbrev pub invoke_give : Content → List ℕ → GiveRequest → Invocation
invoke_give content who r =
    unless_refused content (give_checks content who r)
    (λ reads. with_found (handle_at content (handle_name who r.on)) (give_from content who r reads))

-- the object of a handle is shown
abbrev pub show_object : ClassTable → Content → Handle → List ReadItem → Invocation
show_object table content h reads =
    with_found (shown_at table content.objects h.object) (λ shown. left_as_it_was content (ok_shown shown) reads)

-- a `see`
abbrev pub invoke_see : ClassTable → Content → HandleName → Invocation
invoke_see table content name = with_handle content name (show_object table content)

-- the owning place that was found is shown, and read
abbrev pub show_owner : ClassTable → Content → List ReadItem → Option IncomingReference → Invocation
show_owner table content reads None = left_as_it_was content ok_nothing reads
show_owner table content reads (Some r) =
    with_found (shown_place table content.objects r.place)
    (λ place. left_as_it_was content (ok_place place) (place_item r.place ∷ reads))

-- the owner of the object of a handle is shown
abbrev pub show_owner_of : ClassTable → Content → Handle → List ReadItem → Invocation
show_owner_of table content h reads = show_owner table content reads (owner_of table content h.object)

-- an `owner`
abbrev pub invoke_owner : ClassTable → Content → HandleName → Invocation
invoke_owner table content name = with_handle content name (show_owner_of table content)

-- what is asked, by its kind
abbrev pub invoke_operation : Meaning → ClassTable → Content → ℕ → List ℕ → Operation → Invocation
invoke_operation meaning table content fuel who (new_request r) = invoke_new meaning table content fuel who r
invoke_operation meaning table content fuel who (call_request r) = invoke_call meaning table content fuel who r
invoke_operation meaning table content fuel who (disown_request on) = invoke_disown content (handle_name who on)
invoke_operation meaning table content fuel who (give_request r) = invoke_give content who r
invoke_operation meaning table content fuel who (see_request on) = invoke_see table content (handle_name who on)
invoke_operation meaning table content fuel who (owner_request on) = invoke_owner table content (handle_name who on)

-- the invocation: what a request with so many units does to what a store holds
abbrev pub invoke : Meaning → ClassTable → Content → Request → ℕ → Invocation
invoke meaning table content request fuel =
    invoke_operation meaning table content fuel request.who request.operation
