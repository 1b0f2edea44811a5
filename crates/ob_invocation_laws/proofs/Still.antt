-- A request that runs nothing doesn't go wrong, and keeps a store at rest.
use Rattle.std.proofs.Common.{◌≡◌, ℕ, ◌+◌, ◌≤◌, ◌<◌, Bool, true, false, List, [], ◌∷◌, ◌++◌, length, Option, Some, None, refl, arith}
use Rattle.std.specs.Prelude.{cond, not, ◌&&◌, nat_le, is_some, IsTrue, All, AllPairs, filter, slice_get}
use Rattle.std.specs.Ordering.{eq_by_cmp}
use Rattle.std.specs.List.{list_all}
use Rattle.std.specs.FinMap.Entries.{find as find_key}
use Rattle.std.proofs.lemmas.List.Elements.{All-cons}
use Rattle.std.proofs.lemmas.List.Filters.{length-filter_both}
use Rattle.ob_base.specs.Limits.{most_handles}
use Rattle.ob_base.specs.Names.{is_label}
use Rattle.ob_base.specs.declared.permission.Mode.{Mode}
use Rattle.ob_base.specs.declared.permission.Mode.TheVariants.{Owned, Shared, Unowned}
use Rattle.ob_table.specs.Tables.{ClassTable}
use Rattle.ob_heap_spec.specs.Objects.{Object}
use Rattle.ob_heap_spec.specs.Contents.{HandleName, Handle, Content, IsContent, IsHandle, name_order}
use Rattle.ob_heap_spec.specs.Worlds.{ReadItem}
use Rattle.ob_heap_spec.specs.Handles.{NamedHandle, handle_at, put_handle, put_handles, without_handle}
use Rattle.ob_heap_spec.proofs.Items.{item_of, all_of}
use Rattle.ob_rest_spec.specs.Modes.{is_owned}
use Rattle.ob_rest_spec.specs.Incoming.{IncomingReference, owner_of}
use Rattle.ob_rest_spec.specs.AtRest.{IsAtRest, IsStoreAtRest}
use Rattle.ob_rest_laws.specs.Laws.{AreMarkedFrom}
use Rattle.ob_invocation_spec.specs.Requests.{Request, HasLabels, Operation, new_request, call_request, disown_request, give_request, see_request, owner_request, names_in, GiveRequest}
use Rattle.ob_invocation_spec.specs.Replies.{ok_shown, ok_place}
use Rattle.ob_invocation_spec.specs.Handles.{handle_name, mark_puts}
use Rattle.ob_invocation_spec.specs.Checks.{refusal_of, left_as_it_was}
use Rattle.ob_invocation_spec.specs.Refusals.{give_checks}
use Rattle.ob_invocation_spec.specs.Entering.{Meaning, handle_in}
use Rattle.ob_invocation_spec.specs.Showing.{shown_at, shown_place, place_item}
use Rattle.ob_invocation_spec.specs.Invocation.{still_world, disowned_world, disown_handle, giver_after, puts_of_give, give_from, show_object, show_owner, show_owner_of, invoke_operation, invoke}
use Rattle.ob_invocation_laws.specs.Laws.{AreHandles, runs, KeepsStoreAtRest}
use Rattle.ob_invocation_laws.proofs.Following.{of_found, of_handle, of_giver}
use Rattle.ob_invocation_laws.proofs.Handles.{Before, puts_keep, put_in_order, without_keeps}
use Rattle.ob_invocation_laws.proofs.Disowning.{by_mode, disown_rests}
use Rattle.ob_invocation_laws.proofs.Marking.{same_length, objects_stay, puts_share}
use Rattle.ob_invocation_laws.proofs.Puts.{length_put}
use Rattle.ob_invocation_laws.proofs.Giving.{may_give, give_rests}
use Rattle.ob_invocation_laws.proofs.Shown.{found_object, object_is_shown, owner_is_shown}

-- What a store holds.

-- the handles of a content
pub handles_of : (table : ClassTable) (content : Content) → IsContent table content
    → AreHandles content.objects content.handles
handles_of table content is = record { each = is.handles; order = is.order }

-- a content of a table is one too where objects gain marks
pub content_stays : (table : ClassTable) (content : Content) (objects : List Object) (handles : List NamedHandle)
    → IsContent table content → AreMarkedFrom content.objects objects → AreHandles content.objects handles
    → IsContent table (record { objects = objects; handles = handles })
content_stays table content objects handles is marked are = record {
  objects = objects_stay table content.objects objects marked is.objects;
  handles = all_of (IsHandle objects) handles (λ k h there. let it = item_of_handles k h there in record {
    who = it.who;
    name = it.name;
    object = (let same = same_length content.objects objects marked in
        let below = it.object in omega (arith, same, below));
  });
  order = are.order;
}
  where
    item_of_handles : (k : ℕ) (h : NamedHandle) → slice_get handles k ≡ Some h → IsHandle content.objects h
    item_of_handles k h there = item_of (IsHandle content.objects) handles are.each k h there

-- a store at rest whose objects gain marks
pub store_stays : (table : ClassTable) (content : Content) (objects : List Object) (handles : List NamedHandle)
    → IsStoreAtRest table content → AreMarkedFrom content.objects objects → AreHandles content.objects handles
    → length handles ≤ most_handles → IsAtRest table (record { objects = objects; handles = handles })
    → IsStoreAtRest table (record { objects = objects; handles = handles })
store_stays table content objects handles store marked are few rest = record {
  is_content = content_stays table content objects handles store.is_content marked are;
  at_rest = rest;
  few_objects = (let same = same_length content.objects objects marked in
      let few = store.few_objects in omega (arith, same, few));
  few_handles = few;
}

-- Labels.

-- the first name is a label, and so are the others
pub first_label : (name : List ℕ) (names : List (List ℕ)) → IsTrue (list_all is_label (name ∷ names))
    → IsTrue (is_label name) × IsTrue (list_all is_label names)
first_label name names all = both (is_label name) (list_all is_label names) all
  where
    both : (a b : Bool) → (a && b) ≡ true → (a ≡ true) × (b ≡ true)
    both true b is = (refl, is)
    both false b is = absurd cc

-- `disown`.

-- fewer are left
pub length_left : (test : NamedHandle → Bool) (handles : List NamedHandle)
    → length (filter test handles) ≤ length handles
length_left test handles =
    let both = length-filter_both test (λ h. not (test h)) (λ h. refl) handles in omega (arith, both)

disown_keeps : (table : ClassTable) (content : Content) (name : HandleName) (h : Handle) (reads : List ReadItem)
    → IsStoreAtRest table content → handle_at content name ≡ Some h
    → KeepsStoreAtRest table (disown_handle content name h reads)
disown_keeps table content name h reads store there =
    let are = handles_of table content store.is_content in
    let marks = by_mode content h (is_owned h.mode) refl in
    let few = store.few_handles in
    let left = length_left (λ g. not (eq_by_cmp name_order name g.0)) content.handles in
    store_stays table content (disowned_world content h).objects (without_handle content.handles name) store
    marks.objects (without_keeps content.objects content.handles name are) (omega (arith, few, left))
    (disown_rests table content name h store.at_rest are there)

-- `give`.

only : (objects : List Object) (put : NamedHandle) → IsHandle objects put → All (IsHandle objects) (put ∷ [])
only objects put is = All-cons (IsHandle objects) put [] is (λ k d inside. absurd (omega arith))

-- one more handle at most, where one is put
pub one_at_most : (handles : List NamedHandle) (put : NamedHandle) → AllPairs Before handles
    → length (put_handle handles put) ≤ length handles + 1
one_at_most handles put order =
    either (is_some (find_key name_order put.0 handles)) (length_put handles put order)
  where
    either : (b : Bool) → length (put_handle handles put) ≡ cond b (length handles) (length handles + 1)
        → length (put_handle handles put) ≤ length handles + 1
    either true is = omega (arith, is)
    either false is = omega (arith, is)

-- none more, where its name is there
pub none_more : (handles : List NamedHandle) (put : NamedHandle) (h : Handle) → AllPairs Before handles
    → find_key name_order put.0 handles ≡ Some h → length (put_handle handles put) ≡ length handles
none_more handles put h order there = rw there at (length_put handles put order)

changed_and_one : (handles : List NamedHandle) (giver put : NamedHandle) (h : Handle) → AllPairs Before handles
    → find_key name_order giver.0 handles ≡ Some h
    → length (put_handle (put_handle handles giver) put) ≤ length handles + 1
changed_and_one handles giver put h order there =
    let same = none_more handles giver h order there in
    let more = one_at_most (put_handle handles giver) put (put_in_order handles giver order) in
    omega (arith, same, more)

-- what the giver's handle becomes is a handle
giver_is_handle : (objects : List Object) (name : HandleName) (n : ℕ) (mode : Mode) (put : NamedHandle)
    → IsTrue (is_label name.who) → IsTrue (is_label name.name) → n < length objects → IsHandle objects put
    → All (IsHandle objects) (giver_after name n mode ++ put ∷ [])
giver_is_handle objects name n Owned put who label below is =
    All-cons (IsHandle objects) (handle_in name n Unowned) (put ∷ [])
    (record { who = who; name = label; object = below }) (only objects put is)
giver_is_handle objects name n Shared put who label below is =
    All-cons (IsHandle objects) (handle_in name n Shared) (put ∷ [])
    (record { who = who; name = label; object = below }) (only objects put is)
giver_is_handle objects name n Unowned put who label below is = only objects put is

-- how many handles there are once the giver's has changed, and one was made
pub giver_few : (handles : List NamedHandle) (name : HandleName) (n : ℕ) (mode : Mode) (put : NamedHandle) (h : Handle)
    → AllPairs Before handles → find_key name_order name handles ≡ Some h
    → length (put_handles handles (giver_after name n mode ++ put ∷ [])) ≤ length handles + 1
giver_few handles name n Owned put h order there = changed_and_one handles (handle_in name n Unowned) put h order there
giver_few handles name n Shared put h order there = changed_and_one handles (handle_in name n Shared) put h order there
giver_few handles name n Unowned put h order there = one_at_most handles put order

give_keeps : (table : ClassTable) (content : Content) (who : List ℕ) (r : GiveRequest) (h : Handle)
    (reads : List ReadItem) → IsStoreAtRest table content → IsTrue (is_label who) → IsTrue (is_label r.on)
    → IsTrue (is_label r.to) → IsTrue (is_label r.into) → refusal_of (give_checks content who r) ≡ None
    → handle_at content (handle_name who r.on) ≡ Some h
    → KeepsStoreAtRest table (give_from content who r reads h)
give_keeps table content who r h reads store who_label on to into passed there =
    let are = handles_of table content store.is_content in
    let may = may_give content who r h passed there in
    let puts = puts_of_give who r h in
    let below = found_object content.objects (handle_name who r.on) content.handles h store.is_content.handles there in
    let all = giver_is_handle content.objects (handle_name who r.on) h.object r.mode
    (handle_in (handle_name r.to r.into) h.object r.mode) who_label on below
    (record { who = to; name = into; object = below }) in
    let few = giver_few content.handles (handle_name who r.on) h.object r.mode
    (handle_in (handle_name r.to r.into) h.object r.mode) h are.order there in
    let room = not_full (length content.handles) may.room in
    let marks = puts_share (still_world content) puts in
    store_stays table content (mark_puts (still_world content) puts).objects (put_handles content.handles puts) store
    marks.marked (puts_keep content.objects content.handles puts are all) (omega (arith, few, room))
    (give_rests table content who r h store.at_rest are there may)
  where
    not_full : (n : ℕ) → nat_le most_handles n ≡ false → n + 1 ≤ most_handles
    not_full n room = grind arith

-- `see` and `owner`.

see_keeps : (table : ClassTable) (content : Content) (name : HandleName) (h : Handle) (reads : List ReadItem)
    → IsStoreAtRest table content → handle_at content name ≡ Some h
    → KeepsStoreAtRest table (show_object table content h reads)
see_keeps table content name h reads store there =
    of_found (KeepsStoreAtRest table) (shown_at table content.objects h.object)
    (λ shown. left_as_it_was content (ok_shown shown) reads)
    (λ lost. object_is_shown table content name h store.is_content.objects store.is_content.handles there lost)
    (λ shown is. store)

place_keeps : (table : ClassTable) (content : Content) (n : ℕ) (reads : List ReadItem)
    (found : Option IncomingReference) → IsStoreAtRest table content → owner_of table content n ≡ found
    → KeepsStoreAtRest table (show_owner table content reads found)
place_keeps table content n reads None store is = store
place_keeps table content n reads (Some r) store is =
    of_found (KeepsStoreAtRest table) (shown_place table content.objects r.place)
    (λ shown. left_as_it_was content (ok_place shown) (place_item r.place ∷ reads))
    (λ lost. owner_is_shown table content n r is lost) (λ shown there. store)

-- Each request that runs nothing.

pub still_keeps : (meaning : Meaning) (table : ClassTable) (content : Content) (request : Request) (fuel : ℕ)
    → IsStoreAtRest table content → HasLabels request → runs request.operation ≡ false
    → KeepsStoreAtRest table (invoke meaning table content request fuel)
still_keeps meaning table content request fuel store labels still =
    by_operation request.operation (first_label request.who (names_in request.operation) labels).0
    (first_label request.who (names_in request.operation) labels).1 still
  where
    by_operation : (operation : Operation) → IsTrue (is_label request.who)
        → IsTrue (list_all is_label (names_in operation)) → runs operation ≡ false
        → KeepsStoreAtRest table (invoke_operation meaning table content fuel request.who operation)
    by_operation (new_request r) who names still = absurd cc
    by_operation (call_request r) who names still = absurd cc
    by_operation (disown_request on) who names still =
        of_handle (KeepsStoreAtRest table) content (λ refusal reads. store) (handle_name request.who on)
        (disown_handle content (handle_name request.who on))
        (λ h reads there. disown_keeps table content (handle_name request.who on) h reads store there)
    by_operation (give_request r) who names still =
        let on = first_label r.on (r.to ∷ r.into ∷ []) names in
        let to = first_label r.to (r.into ∷ []) on.1 in
        let into = first_label r.into [] to.1 in
        of_giver (KeepsStoreAtRest table) content (λ refusal reads. store) request.who r
        (λ h reads passed there.
        give_keeps table content request.who r h reads store who on.0 to.0 into.0 passed there)
    by_operation (see_request on) who names still =
        of_handle (KeepsStoreAtRest table) content (λ refusal reads. store) (handle_name request.who on)
        (show_object table content)
        (λ h reads there. see_keeps table content (handle_name request.who on) h reads store there)
    by_operation (owner_request on) who names still =
        of_handle (KeepsStoreAtRest table) content (λ refusal reads. store) (handle_name request.who on)
        (show_owner_of table content)
        (λ h reads there. place_keeps table content h.object reads (owner_of table content h.object) store refl)
