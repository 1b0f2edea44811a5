-- However a request is answered, handles stay few, and in the order of their names.
use Rattle.std.proofs.Common.{◌≡◌, ℕ, ◌+◌, ◌≤◌, false, List, [], ◌∷◌, length, Option, Some, None, arith}
use Rattle.std.specs.Prelude.{nat_le, not, AllPairs}
use Rattle.std.specs.Ordering.{eq_by_cmp}
use Rattle.std.proofs.lemmas.List.Kept.{AllPairs-filter}
use Rattle.ob_base.specs.Limits.{most_handles}
use Rattle.ob_table.specs.Tables.{ClassTable}
use Rattle.ob_heap_spec.specs.Values.{Value}
use Rattle.ob_heap_spec.specs.Contents.{HandleName, Handle, Content, name_order}
use Rattle.ob_heap_spec.specs.Worlds.{ReadItem, RunOutcome, gives, aborts, wrong}
use Rattle.ob_heap_spec.specs.Handles.{NamedHandle, handle_at, put_handle, put_handles}
use Rattle.ob_rest_spec.specs.Incoming.{IncomingReference, owner_of}
use Rattle.ob_invocation_spec.specs.Requests.{Request, GiveRequest}
use Rattle.ob_invocation_spec.specs.Replies.{ok_shown, ok_place}
use Rattle.ob_invocation_spec.specs.Handles.{handle_name}
use Rattle.ob_invocation_spec.specs.Checks.{refusal_of, reads_of, left_as_it_was}
use Rattle.ob_invocation_spec.specs.Entries.{HandleUse, Entry, handle_uses}
use Rattle.ob_invocation_spec.specs.Refusals.{new_checks, call_checks, give_checks}
use Rattle.ob_invocation_spec.specs.Entering.{Meaning, first_outside_use, run_entry, handle_in, puts_after}
use Rattle.ob_invocation_spec.specs.Showing.{shown_at, shown_place, place_item}
use Rattle.ob_invocation_spec.specs.Invocation.{ended, after_entry_test, disown_handle, puts_of_give, give_from, show_object, show_owner, invoke}
use Rattle.ob_invocation_laws.specs.Laws.{AreKeptInOrder, KeepsHandles}
use Rattle.ob_invocation_laws.proofs.Following.{Ways, of_found, of_operation}
use Rattle.ob_invocation_laws.proofs.Handles.{Before, put_in_order}
use Rattle.ob_invocation_laws.proofs.Giving.{may_give}
use Rattle.ob_invocation_laws.proofs.Still.{length_left, giver_few}
use Rattle.ob_invocation_laws.proofs.Entered.{MayEnter, AreFound, new_may_enter, call_may_enter, new_found, call_found}
use Rattle.ob_invocation_laws.proofs.Ended.{few_after}

-- handles that are put keep the order
puts_in_order : (handles puts : List NamedHandle) → AllPairs Before handles
    → AllPairs Before (put_handles handles puts)
puts_in_order handles [] order = order
puts_in_order handles (h ∷ puts) order =
    puts_in_order (put_handle handles h) puts (put_in_order handles h order)

module _ (content : Content) (kept : AreKeptInOrder content.handles) where
  at_disown : (name : HandleName) (h : Handle) (reads : List ReadItem)
      → KeepsHandles (disown_handle content name h reads)
  at_disown name h reads = record {
    order = AllPairs-filter Before (λ g. not (eq_by_cmp name_order name g.0)) content.handles kept.order;
    few = (let left = length_left (λ g. not (eq_by_cmp name_order name g.0)) content.handles in
        let few = kept.few in omega (arith, left, few));
  }

  at_give : (who : List ℕ) (r : GiveRequest) (h : Handle) (reads : List ReadItem)
      → refusal_of (give_checks content who r) ≡ None → handle_at content (handle_name who r.on) ≡ Some h
      → KeepsHandles (give_from content who r reads h)
  at_give who r h reads passed there =
      let may = may_give content who r h passed there in
      let few = giver_few content.handles (handle_name who r.on) h.object r.mode
      (handle_in (handle_name r.to r.into) h.object r.mode) h kept.order there in
      let room = not_full (length content.handles) may.room in
      record {
        order = puts_in_order content.handles (puts_of_give who r h) kept.order;
        few = omega (arith, few, room);
      }
    where
      not_full : (n : ℕ) → nat_le most_handles n ≡ false → n + 1 ≤ most_handles
      not_full n room = grind arith

  at_see : (table : ClassTable) (h : Handle) (reads : List ReadItem)
      → KeepsHandles (show_object table content h reads)
  at_see table h reads =
      of_found KeepsHandles (shown_at table content.objects h.object)
      (λ shown. left_as_it_was content (ok_shown shown) reads) (λ lost. tt) (λ shown is. kept)

  at_place : (table : ClassTable) (reads : List ReadItem) (found : Option IncomingReference)
      → KeepsHandles (show_owner table content reads found)
  at_place table reads None = kept
  at_place table reads (Some r) =
      of_found KeepsHandles (shown_place table content.objects r.place)
      (λ shown. left_as_it_was content (ok_place shown) (place_item r.place ∷ reads)) (λ lost. tt) (λ shown is. kept)

  -- the end of a run
  at_end : (table : ClassTable) (e : Entry) → AreFound content (handle_uses content e) → MayEnter table content e
      → (reads : List ReadItem) (outcome : RunOutcome (Option Value))
      → KeepsHandles (ended table content e reads outcome)
  at_end table e found may reads (gives result w) = record {
    order = puts_in_order content.handles (puts_after content e result) kept.order;
    few = few_after table content e result kept.order found may kept.few;
  }
  at_end table e found may reads (aborts cause s) = kept
  at_end table e found may reads wrong = tt

  after_test : (meaning : Meaning) (table : ClassTable) (fuel : ℕ) (e : Entry)
      → AreFound content (handle_uses content e) → MayEnter table content e → (reads : List ReadItem)
      (outside : Option HandleUse) → KeepsHandles (after_entry_test meaning table content fuel e reads outside)
  after_test meaning table fuel e found may reads None =
      at_end table e found may reads (run_entry meaning content fuel e)
  after_test meaning table fuel e found may reads (Some u) = kept

  each_way : (meaning : Meaning) (table : ClassTable) (fuel : ℕ) (who : List ℕ)
      → Ways KeepsHandles meaning table content fuel who
  each_way meaning table fuel who = record {
    still = record {
      refusals = λ refusal reads. kept;
      disowns = λ name h reads there. at_disown name h reads;
      gives = λ r h reads passed there. at_give who r h reads passed there;
      sees = λ name h reads there. at_see table h reads;
      owners = λ name h reads there. at_place table reads (owner_of table content h.object);
    };
    news = λ r e passed is.
        after_test meaning table fuel e (new_found table content who r e is)
        (new_may_enter table content who r e passed is) (reads_of (new_checks table content who r))
        (first_outside_use table content e);
    lost_news = λ r passed lost. tt;
    calls = λ r e passed is.
        after_test meaning table fuel e (call_found table content who r e is)
        (call_may_enter table content who r e passed is) (reads_of (call_checks table content who r))
        (first_outside_use table content e);
    lost_calls = λ r passed lost. tt;
  }

pub handles_kept : (meaning : Meaning) (table : ClassTable) (content : Content) (request : Request) (fuel : ℕ)
    → AreKeptInOrder content.handles → KeepsHandles (invoke meaning table content request fuel)
handles_kept meaning table content request fuel kept =
    of_operation KeepsHandles meaning table content fuel request.who
    (each_way content kept meaning table fuel request.who) request.operation
