-- The first slice of a request, on two contents.
use Rattle.std.proofs.Common.{◌≡◌, ℕ, ◌+◌, ◌<◌, ◌≤◌, Bool, true, false, List, [], ◌∷◌, ◌++◌, length, Contains, Option, Some, None, refl, ap, ◌∙◌, subst, arith}
use Rattle.std.specs.Prelude.{map, option_map, slice_get, if◌then◌else◌}
use Rattle.std.specs.Option.{option_and_then}
use Rattle.ob_base.specs.Optional.{◌>>=◌}
use Rattle.ob_base.specs.declared.permission.Mode.{Mode}
use Rattle.ob_base.specs.declared.permission.Mode.TheVariants.{Owned, Shared, Unowned}
use Rattle.ob_base.specs.declared.id.TxId.{TxId}
use Rattle.ob_table.specs.Tables.{ClassTable, contract_at}
use Rattle.ob_table.specs.declared.contract.Contract.{Contract}
use Rattle.ob_table.specs.declared.contract.Field.{Field}
use Rattle.ob_heap_spec.specs.Objects.{Object}
use Rattle.ob_heap_spec.specs.Contents.{HandleName, Handle, Content, object_at}
use Rattle.ob_heap_spec.specs.Worlds.{ReadItem, World, AllRead, by_state, read_object}
use Rattle.ob_heap_spec.specs.Marks.{mark_disowned}
use Rattle.ob_heap_spec.specs.Handles.{NamedHandle, handle_at}
use Rattle.ob_rest_spec.specs.AtRest.{IsStoreAtRest}
use Rattle.ob_rest_spec.specs.Incoming.{StorePlace, stored_field, stored_handle, IncomingReference, owner_of}
use Rattle.ob_rest_spec.specs.Modes.{is_owned}
use Rattle.ob_invocation_spec.specs.Checks.{Check, refusal_of, reads_of, with_found}
use Rattle.ob_invocation_spec.specs.Checks as checks
use Rattle.ob_invocation_spec.specs.Entering.{first_outside_use, handle_in, run_entry}
use Rattle.ob_invocation_spec.specs.Entries.{HandleUse, Entry, entry_of_new, entry_of_call}
use Rattle.ob_invocation_spec.specs.Handles.{handle_name, mark_puts}
use Rattle.ob_invocation_spec.specs.Invocation.{still_world, disowned_world, giver_after, puts_of_give, enter_entry}
use Rattle.ob_invocation_spec.specs.Invocation as invocation
use Rattle.ob_invocation_spec.specs.Refusals.{handle_check, new_checks, call_checks}
use Rattle.ob_invocation_spec.specs.Replies.{ShownObject, ShownPlace, shown_field, Refusal, Reply, ok_nothing, ok_shown, ok_place, Invocation}
use Rattle.ob_invocation_spec.specs.Replies as reply
use Rattle.ob_invocation_spec.specs.Requests.{Operation, new_request, call_request, disown_request, give_request, see_request, owner_request, CallRequest, GiveRequest, Request}
use Rattle.ob_invocation_spec.specs.Showing.{state_name, shown_object, shown_at, shown_place, place_item, reply_of_result}
use Rattle.ob_invocation_laws.specs.Laws.{KeepsStoreAtRest}
use Rattle.ob_code.specs.declared.image.Image.{Image}
use Rattle.ob_machine_steps.specs.Configurations.{ended, aborted}
use Rattle.ob_machine_steps.specs.Entries.{MachineEntry, Phase, starting, started}
use Rattle.ob_code_table.specs.ImageTables.{table_of_image}
use Rattle.ob_machine_meaning.specs.Meanings.{machine_meaning, machine_invocation, entry_of_request}
use Rattle.ob_machine_steps.specs.Outcomes.{outcome}
use Rattle.ob_machine_steps.specs.Measures.{steps_left, LeadsAheadOrToUnit}
use Rattle.ob_machine_steps.specs.Runs.{Stop, over, run_in, after_steps}
use Rattle.ob_machine_steps.specs.Runs as steps
use Rattle.ob_request_run_laws.specs.LocalityLaws.{setting}
use Rattle.ob_request_run_laws.specs.Locality.{Setting, reads_of_stop, ComesThere}
use Rattle.ob_request_run_laws.proofs.Entries.{first_alike, first_good, entry_moves}
use Rattle.ob_request_run_laws.proofs.Lists.{none_is_some, some_is_none, some_is, all_read_self, all_read_on, all_read_more, there_is}
use Rattle.ob_request_run_laws.proofs.Moves.{Moves, moves_self, moves_from, reads_grow, disowned_moves}
use Rattle.ob_request_run_laws.specs.Runs.{Run, reads_of_run, puts_in, put_of, unchanged}
use Rattle.ob_request_run_laws.specs.Slices.{stops_so, sliced, with_thing, refused_or, unless_refused, body_number, entered, after_entry_test, enters, begins, disowns, sees, shows_owner, asks_owner, opens}
use Rattle.ob_request_run_laws.specs.Laws.{AgreeOn, OwnsAlike}
use Rattle.ob_request_run_laws.proofs.Checks.{EachSame, checks_same, read_left, read_right, new_same, call_checks_same, give_same, one_same, new_entry_found, call_entry_found, on_found, call_on_found}
use Rattle.ob_request_run_laws.proofs.Found.{IsEntryOn, IsEntryFound, values_same, outside_use_same, outside_found, call_same, new_on, call_on}
use Rattle.ob_request_run_laws.proofs.Owning.{owner_stays}
use Rattle.ob_request_run_laws.proofs.Steps.{steps_add, in_steps}
use Rattle.ob_request_run_laws.proofs.Standing.{ended_stands}
use Rattle.ob_request_run_laws.proofs.Stopping.{IsLost, PutsThere, puts_move, done_same, stop_reads, sliced_local}
use Rattle.ob_request_run_laws.proofs.There.{IsBelow, ArePutsBelow, handles_below, args_there, on_there, puts_below}
use Rattle.ob_request_run_laws.proofs.Whole.{outcome_is, runs_on}

-- What a part of a request leads to on two contents: `reads` was read before, and what the first has read in the end is among the items.

-- where the first isn't lost, it has read what was read before
abbrev pub Grows : List ReadItem → Run → Type 0
Grows reads r = ¬ (IsLost r) → AllRead reads (reads_of_run r)

-- where the first isn't lost, the second is the same
abbrev pub SameRun : List ReadItem → Run → Run → Type 0
SameRun items r t = ¬ (IsLost r) → AllRead (reads_of_run r) items → t ≡ r

pub stops_grow : (table : ClassTable) (c : Content) (q : Request) (e : Entry) (reads : List ReadItem) (o : Option Stop) → Grows reads (stops_so table c q e reads o)
stops_grow table c q e reads None right = absurd (right tt)
stops_grow table c q e reads (Some x) right = read_right (reads_of_stop x) reads (reads_of_run (stops_so table c q e reads (Some x))) (stop_reads table c q e reads x)

pub thing_grows : {A : Type 0} (reads : List ReadItem) (o : Option A) (f : A → Run) → ((a : A) → o ≡ Some a → Grows reads (f a)) → Grows reads (with_thing o f)
thing_grows reads None f h right = absurd (right tt)
thing_grows reads (Some a) f h right = h a refl right

-- Refusals.

refused_grows : (o : Option Refusal) (reads : List ReadItem) (f : List ReadItem → Run) → Grows reads (f reads) → Grows reads (refused_or o reads f)
refused_grows (Some refusal) reads f h right = all_read_self reads
refused_grows None reads f h right = h right

refused_same : (items : List ReadItem) (o : Option Refusal) (reads : List ReadItem) (f g : List ReadItem → Run) → (o ≡ None → SameRun items (f reads) (g reads)) → SameRun items (refused_or o reads f) (refused_or o reads g)
refused_same items (Some refusal) reads f g h right all = refl
refused_same items None reads f g h right all = h refl right all

unless_same : (items : List ReadItem) (cs ds : List Check) (f g : List ReadItem → Run) → EachSame items cs ds → Grows (reads_of cs) (f (reads_of cs))
    → (refusal_of cs ≡ None → AllRead (reads_of cs) items → SameRun items (f (reads_of cs)) (g (reads_of cs))) → SameRun items (unless_refused cs f) (unless_refused ds g)
unless_same items cs ds f g each grows h right all =
    let read : AllRead (reads_of cs) items = all_read_on (reads_of cs) (reads_of_run (unless_refused cs f)) items (refused_grows (refusal_of cs) (reads_of cs) f grows right) all in
    let same = checks_same items cs ds each read in
    ap (λ o. refused_or o (reads_of ds) g) same.refusal ∙ ap (λ r. refused_or (refusal_of cs) r g) same.reads
    ∙ refused_same items (refusal_of cs) (reads_of cs) f g (λ e. h e read) right all

-- The machine's entry.

comes_there : (image : Image) (c : Content) (e : Entry) (x : Option TxId) (m : MachineEntry) → IsEntryOn (IsBelow (length c.objects)) c e → option_map (λ (tx : TxId). record (entry_of_request c e) { tx = tx }) x ≡ Some m → ComesThere c.objects m
comes_there image c e None m on h = absurd (none_is_some h)
comes_there image c e (Some tx) m on h = subst (ComesThere c.objects) (some_is (record (entry_of_request c e) { tx = tx }) m h) (record { receiver = on_there c e on; args = args_there c e on })

entered_same : (image : Image) (c d : Content) (e : Entry) → IsEntryFound c d e → entered image d e ≡ entered image c e
entered_same image c d e found = ap (λ args. option_map (λ (tx : TxId). record (entry_of_request c e) { tx = tx; args = args }) (body_number image e.receiver e.contract e.tx)) (values_same c d e found)

-- what is put in the end is there, since the content is at rest then
pub ends_there : (image : Image) (fuel : ℕ) (c : Content) (e : Entry) (reads : List ReadItem) (m : MachineEntry) (n units : ℕ) (p : Phase) (k : ℕ) → LeadsAheadOrToUnit image
    → after_steps image k (started image m c.objects fuel) ≡ Some (steps.paused p) → KeepsStoreAtRest (table_of_image image) (invocation.ended (table_of_image image) c e reads (outcome image (started image m c.objects fuel)))
    → IsEntryOn (IsBelow (length c.objects)) c e → (o : Option Stop) → run_in image n units p ≡ o → PutsThere c e o
ends_there image fuel c e reads m n units p k ahead reached keeps on None h = tt
ends_there image fuel c e reads m n units p k ahead reached keeps on (Some (steps.paused x)) h = tt
ends_there image fuel c e reads m n units p k ahead reached keeps on (Some (over (aborted cause t))) h = tt
ends_there image fuel c e reads m n units p k ahead reached keeps on (Some (over (ended result w))) h =
    let j = in_steps image n units p (over (ended result w)) h in
    let over_then = steps_add image k j.0 (started image m c.objects fuel) p (over (ended result w)) reached j.1 in
    let s = ended_stands image m c.objects fuel (k + j.0) result w over_then in
    puts_below (table_of_image image) (reply_of_result result) c e result w reads
    (subst (λ x. KeepsStoreAtRest (table_of_image image) (invocation.ended (table_of_image image) c e reads x)) (outcome_is image (started image m c.objects fuel) (k + j.0) (ended result w) ahead over_then) keeps)
    (longer (length c.objects) w.made (length w.objects) s.good.objects) on
  where
    longer : (count made l : ℕ) → l ≡ count + made → count ≤ l
    longer count made l h = omega (arith, h)

-- A run begins.

entered_local : (image : Image) (fuel : ℕ) (items : List ReadItem) (c d : Content) (units : ℕ) (q : Request) (e : Entry) (reads : List ReadItem) → LeadsAheadOrToUnit image → AgreeOn items c d → IsEntryFound c d e → IsEntryOn (IsBelow (length c.objects)) c e
    → KeepsStoreAtRest (table_of_image image) (invocation.ended (table_of_image image) c e reads (run_entry (machine_meaning image) c fuel e)) → (o : Option MachineEntry) → entered image c e ≡ o
    → SameRun items (with_thing o (λ m. sliced image c units q e reads (started image m c.objects fuel))) (with_thing o (λ m. sliced image d units q e reads (started image m d.objects fuel)))
entered_local image fuel items c d units q e reads ahead a found on keeps None h right all = absurd (right tt)
entered_local image fuel items c d units q e reads ahead a found on keeps (Some m) h right all =
    let start = started image m c.objects fuel in
    let mv = entry_moves image m items c.objects d.objects fuel (comes_there image c e (body_number image e.receiver e.contract e.tx) m on h) a.objects in
    sliced_local image items c d units q e reads start (started image m d.objects fuel) mv.ys mv.good mv.alike (λ read. ap (starting m) (mv.is read)) found (run_in image (steps_left image start) units start) refl right all
    (ends_there image fuel c e reads m (steps_left image start) units start 0 ahead refl (subst (λ x. KeepsStoreAtRest (table_of_image image) (invocation.ended (table_of_image image) c e reads x)) (runs_on image c fuel e e.receiver m h) keeps) on _ refl)

-- why a use aborts the request, and in which state, by what is found at its object's number
abbrev outside_run : ClassTable → ℕ → List ReadItem → Option Object → Run
outside_run table n reads x =
    let state = option_and_then (λ (o : Object). o.state) x in
    unchanged (reply.aborted (by_state n state) ((x >>= λ (o : Object). contract_at table o.contract) >>= λ (k : Contract). state >>= state_name k)) 0 reads

tested_local : (image : Image) (fuel : ℕ) (items : List ReadItem) (c d : Content) (units : ℕ) (q : Request) (e : Entry) (reads : List ReadItem) → LeadsAheadOrToUnit image → AgreeOn items c d → IsEntryFound c d e → IsEntryOn (IsBelow (length c.objects)) c e
    → (o : Option HandleUse) → first_outside_use (table_of_image image) c e ≡ o → KeepsStoreAtRest (table_of_image image) (invocation.after_entry_test (machine_meaning image) (table_of_image image) c fuel e reads o)
    → SameRun items (after_entry_test image fuel c units q e reads o) (after_entry_test image fuel d units q e reads o)
tested_local image fuel items c d units q e reads ahead a found on (Some u) h keeps right all = ap (outside_run (table_of_image image) u.handle.object reads) (outside_found (table_of_image image) c d e u found h)
tested_local image fuel items c d units q e reads ahead a found on None h keeps right all =
    ap (λ o. with_thing o (λ m. sliced image d units q e reads (started image m d.objects fuel))) (entered_same image c d e found)
    ∙ entered_local image fuel items c d units q e reads ahead a found on keeps (entered image c e) refl right all

enters_local : (image : Image) (fuel : ℕ) (items : List ReadItem) (c d : Content) (units : ℕ) (q : Request) (e : Entry) (reads : List ReadItem) → LeadsAheadOrToUnit image → AgreeOn items c d → IsEntryFound c d e → IsEntryOn (IsBelow (length c.objects)) c e
    → KeepsStoreAtRest (table_of_image image) (enter_entry (machine_meaning image) (table_of_image image) c fuel reads e) → SameRun items (enters image fuel c units q reads e) (enters image fuel d units q reads e)
enters_local image fuel items c d units q e reads ahead a found on keeps right all =
    ap (after_entry_test image fuel d units q e reads) (outside_use_same (table_of_image image) c d e found)
    ∙ tested_local image fuel items c d units q e reads ahead a found on (first_outside_use (table_of_image image) c e) refl keeps right all

tested_grows : (image : Image) (fuel : ℕ) (c : Content) (units : ℕ) (q : Request) (e : Entry) (reads : List ReadItem) (o : Option HandleUse) → Grows reads (after_entry_test image fuel c units q e reads o)
tested_grows image fuel c units q e reads (Some u) right = all_read_self reads
tested_grows image fuel c units q e reads None right =
    thing_grows reads (entered image c e) _ (λ m h. stops_grow (table_of_image image) c q e reads (run_in image (steps_left image (started image m c.objects fuel)) units (started image m c.objects fuel))) right

-- what is found is entered on both
thing_same : {A : Type 0} (items : List ReadItem) (o : Option A) (f g : A → Run) → ((a : A) → o ≡ Some a → SameRun items (f a) (g a)) → SameRun items (with_thing o f) (with_thing o g)
thing_same items None f g h right all = refl
thing_same items (Some a) f g h right all = h a refl right all

-- what an invocation leaves at rest it does also by its parts
keeps_passed : (table : ClassTable) (c : Content) (o : Option Refusal) (reads : List ReadItem) (go : List ReadItem → Invocation) → o ≡ None → KeepsStoreAtRest table (checks.refused_or c o reads go) → KeepsStoreAtRest table (go reads)
keeps_passed table c (Some refusal) reads go e h = absurd (some_is_none e)
keeps_passed table c None reads go e h = h

keeps_found : {A : Type 0} (table : ClassTable) (o : Option A) (go : A → Invocation) (a : A) → o ≡ Some a → KeepsStoreAtRest table (with_found o go) → KeepsStoreAtRest table (go a)
keeps_found table None go a e h = absurd (none_is_some e)
keeps_found table (Some b) go a e h = subst (λ x. KeepsStoreAtRest table (go x)) (some_is b a e) h

begins_local : (image : Image) (fuel : ℕ) (items : List ReadItem) (c d : Content) (units : ℕ) (q : Request) (cs ds : List Check) (o : Option Entry) → LeadsAheadOrToUnit image → AgreeOn items c d → EachSame items cs ds
    → (refusal_of cs ≡ None → AllRead (reads_of cs) items → (e : Entry) → o ≡ Some e → IsEntryFound c d e) → ((e : Entry) → o ≡ Some e → IsEntryOn (IsBelow (length c.objects)) c e)
    → KeepsStoreAtRest (table_of_image image) (checks.unless_refused c cs (λ reads. with_found o (enter_entry (machine_meaning image) (table_of_image image) c fuel reads)))
    → SameRun items (begins image fuel c units q cs o) (begins image fuel d units q ds o)
begins_local image fuel items c d units q cs ds o ahead a each found on keeps =
    unless_same items cs ds (λ reads. with_thing o (enters image fuel c units q reads)) (λ reads. with_thing o (enters image fuel d units q reads)) each
    (thing_grows (reads_of cs) o (enters image fuel c units q (reads_of cs)) (λ e is. tested_grows image fuel c units q e (reads_of cs) (first_outside_use (table_of_image image) c e)))
    (λ passed read. thing_same items o (enters image fuel c units q (reads_of cs)) (enters image fuel d units q (reads_of cs)) (λ e is.
    enters_local image fuel items c d units q e (reads_of cs) ahead a (found passed read e is) (on e is)
    (keeps_found (table_of_image image) o (enter_entry (machine_meaning image) (table_of_image image) c fuel (reads_of cs)) e is
    (keeps_passed (table_of_image image) c (refusal_of cs) (reads_of cs) (λ reads. with_found o (enter_entry (machine_meaning image) (table_of_image image) c fuel reads)) passed keeps))))

-- The requests that run nothing.

handle_local : (items : List ReadItem) (c d : Content) (name : HandleName) (cs ds : List Check) (f g : Handle → List ReadItem → Run) → AgreeOn items c d → EachSame items (handle_check c name ∷ cs) (handle_check d name ∷ ds)
    → ((h : Handle) (r : List ReadItem) → Grows r (f h r))
    → ((h : Handle) → handle_at c name ≡ Some h → object_at d.objects h.object ≡ object_at c.objects h.object → (r : List ReadItem) → SameRun items (f h r) (g h r))
    → SameRun items (unless_refused (handle_check c name ∷ cs) (λ reads. with_thing (handle_at c name) (λ h. f h reads))) (unless_refused (handle_check d name ∷ ds) (λ reads. with_thing (handle_at d name) (λ h. g h reads)))
handle_local items c d name cs ds f g a each grows same right all =
    let r = reads_of (handle_check c name ∷ cs) in
    unless_same items (handle_check c name ∷ cs) (handle_check d name ∷ ds) (λ reads. with_thing (handle_at c name) (λ h. f h reads)) (λ reads. with_thing (handle_at d name) (λ h. g h reads)) each
    (thing_grows r (handle_at c name) (λ h. f h r) (λ h is. grows h r))
    (λ passed read right2 all2.
    let on = on_found items c d name cs a read in
    ap (λ o. with_thing o (λ h. g h r)) on.handle ∙ thing_same items (handle_at c name) (λ h. f h r) (λ h. g h r) (λ h is. same h is (on.object h is) r) right2 all2) right all

-- a world in which nothing has run
still_moves : (items : List ReadItem) (c d : Content) → AgreeOn items c d → Moves (setting items (length c.objects) d.objects) [] (still_world c) (still_world d)
still_moves items c d a = moves_self (setting items (length c.objects) d.objects) (still_world c) d.objects (first_good c.objects 0) (λ all. first_alike items c.objects d.objects a.objects)

done_grows : (reply : Reply) (w : World) (r : List ReadItem) → AllRead r (w.reads ++ r)
done_grows reply w r = read_right w.reads r (w.reads ++ r) (all_read_self (w.reads ++ r))

disown_moves : (items : List ReadItem) (c d : Content) (h : Handle) → AgreeOn items c d → h.object < length c.objects → Moves (setting items (length c.objects) d.objects) [] (disowned_world c h) (disowned_world d h)
disown_moves items c d h a below = by (is_owned h.mode)
  where
    s : Setting
    s = setting items (length c.objects) d.objects

    by : (b : Bool) → Moves s [] (if b then mark_disowned h.object (still_world c) else still_world c) (if b then mark_disowned h.object (still_world d) else still_world d)
    by true =
        let there = there_is c.objects h.object below in
        moves_from s [] (read_object (still_world c) h.object).reads (mark_disowned h.object (still_world c)) (mark_disowned h.object (still_world d)) (reads_grow (still_world c) h.object)
        (disowned_moves s (still_world c) d.objects h.object there.0 (first_good c.objects 0) (λ all. first_alike items c.objects d.objects a.objects) there.1)
    by false = still_moves items c d a

disown_same : (items : List ReadItem) (c d : Content) (name : HandleName) (h : Handle) (r : List ReadItem) → AgreeOn items c d → h.object < length c.objects → SameRun items (disowns c name h r) (disowns d name h r)
disown_same items c d name h r a below right all =
    done_same (setting items (length c.objects) d.objects) [] ok_nothing ((name, None) ∷ []) (disowned_world c h) (disowned_world d h) r (disown_moves items c d h a below) (read_left (disowned_world c h).reads r items all)

give_below : (l : ℕ) (who : List ℕ) (r : GiveRequest) (h : Handle) → h.object < l → ArePutsBelow l (puts_of_give who r h)
give_below l who r h below = by r.mode
  where
    by : (mode : Mode) → ArePutsBelow l (giver_after (handle_name who r.on) h.object mode ++ handle_in (handle_name r.to r.into) h.object r.mode ∷ [])
    by Owned = (below, (below, tt))
    by Shared = (below, (below, tt))
    by Unowned = (below, tt)

give_put_same : (items : List ReadItem) (c d : Content) (puts : List NamedHandle) (r : List ReadItem) → AgreeOn items c d → ArePutsBelow (length c.objects) puts → SameRun items (puts_in ok_nothing puts (still_world c) r) (puts_in ok_nothing puts (still_world d) r)
give_put_same items c d puts r a below right all =
    done_same (setting items (length c.objects) d.objects) [] ok_nothing (map put_of puts) (mark_puts (still_world c) puts) (mark_puts (still_world d) puts) r
    (puts_move (setting items (length c.objects) d.objects) [] (still_world c) (still_world d) puts below (still_moves items c d a)) (read_left (mark_puts (still_world c) puts).reads r items all)

-- what is shown of an object
abbrev shown_of : ClassTable → ℕ → Option Object → Option ShownObject
shown_of table n x = x >>= λ (o : Object). contract_at table o.contract >>= λ (k : Contract). Some (shown_object k n o)

sees_grow : (table : ClassTable) (c : Content) (h : Handle) (r : List ReadItem) → Grows r (sees table c h r)
sees_grow table c h r = thing_grows r (shown_at table c.objects h.object) _ (λ shown is right. all_read_self r)

sees_same : (items : List ReadItem) (table : ClassTable) (c d : Content) (h : Handle) (r : List ReadItem) → object_at d.objects h.object ≡ object_at c.objects h.object → SameRun items (sees table c h r) (sees table d h r)
sees_same items table c d h r e right all = ap (λ x. with_thing (shown_of table h.object x) (λ shown. unchanged (ok_shown shown) 0 r)) e

-- Owners.

-- what is shown of a field's holder
abbrev field_shown : ClassTable → ℕ → ℕ → Option Object → Option ShownPlace
field_shown table n k x = (x >>= λ (o : Object). contract_at table o.contract) >>= λ (own : Contract). slice_get own.fields k >>= λ (f : Field). Some (shown_field n f.name)

place_same : (items : List ReadItem) (table : ClassTable) (c d : Content) (place : StorePlace) → AgreeOn items c d → Contains items (place_item place) → shown_place table d.objects place ≡ shown_place table c.objects place
place_same items table c d (stored_field n k) a h = ap (field_shown table n k) (a.objects.objects n h)
place_same items table c d (stored_handle name) a h = refl

shows_grow : (table : ClassTable) (c : Content) (r : List ReadItem) (o : Option IncomingReference) → Grows r (shows_owner table c r o)
shows_grow table c r None right = all_read_self r
shows_grow table c r (Some p) right = thing_grows r (shown_place table c.objects p.place) _ (λ place is right. all_read_more (place_item p.place) r) right

shown_same : (items : List ReadItem) (table : ClassTable) (c d : Content) (r : List ReadItem) (p : IncomingReference) → AgreeOn items c d → (x : Option ShownPlace) → shown_place table c.objects p.place ≡ x
    → SameRun items (with_thing x (λ place. unchanged (ok_place place) 0 (place_item p.place ∷ r))) (with_thing (shown_place table d.objects p.place) (λ place. unchanged (ok_place place) 0 (place_item p.place ∷ r)))
shown_same items table c d r p a None h right all = absurd (right tt)
shown_same items table c d r p a (Some place) h right all =
    ap (λ x. with_thing x (λ place. unchanged (ok_place place) 0 (place_item p.place ∷ r))) (place_same items table c d p.place a (all (place_item p.place) (0, omega arith, refl)) ∙ h)

-- the place that was found has been read where it can be shown
place_read : (items : List ReadItem) (p : IncomingReference) (r : List ReadItem) (x : Option ShownPlace) → ¬ (IsLost (with_thing x (λ place. unchanged (ok_place place) 0 (place_item p.place ∷ r))))
    → AllRead (reads_of_run (with_thing x (λ place. unchanged (ok_place place) 0 (place_item p.place ∷ r)))) items → Contains items (place_item p.place)
place_read items p r None right all = absurd (right tt)
place_read items p r (Some place) right all = all (place_item p.place) (0, omega arith, refl)

owner_same : (items : List ReadItem) (table : ClassTable) (c d : Content) (h : Handle) (r : List ReadItem) → AgreeOn items c d → IsStoreAtRest table c → IsStoreAtRest table d → (o : Object) × (object_at d.objects h.object ≡ Some o)
    → (owner_of table c h.object ≡ None → owner_of table d h.object ≡ None) → (x : Option IncomingReference) → owner_of table c h.object ≡ x
    → SameRun items (shows_owner table c r x) (shows_owner table d r (owner_of table d h.object))
owner_same items table c d h r a before after there none None e right all = ap (shows_owner table d r) (none e)
owner_same items table c d h r a before after there none (Some p) e right all =
    ap (shows_owner table d r) (owner_stays items table c d h.object there.0 p a before after there.1 (place_read items p r (shown_place table c.objects p.place) right all) e)
    ∙ shown_same items table c d r p a (shown_place table c.objects p.place) refl right all

-- Each kind of request.

call_local : (image : Image) (fuel : ℕ) (items : List ReadItem) (c d : Content) (units : ℕ) (who : List ℕ) (r : CallRequest) → LeadsAheadOrToUnit image → IsStoreAtRest (table_of_image image) c
    → KeepsStoreAtRest (table_of_image image) (machine_invocation image c (record { who = who; operation = call_request r }) fuel) → AgreeOn items c d
    → SameRun items (opens image fuel c units (record { who = who; operation = call_request r }) (call_request r)) (opens image fuel d units (record { who = who; operation = call_request r }) (call_request r))
call_local image fuel items c d units who r ahead rest keeps a right all =
    let q : Request = record { who = who; operation = call_request r } in
    let table = table_of_image image in
    let cs = call_checks table c who r in
    let read : AllRead (reads_of cs) items = all_read_on (reads_of cs) (reads_of_run (begins image fuel c units q cs (entry_of_call table c who r))) items
    (refused_grows (refusal_of cs) (reads_of cs) _ (thing_grows (reads_of cs) (entry_of_call table c who r) _ (λ e is. tested_grows image fuel c units q e (reads_of cs) (first_outside_use table c e))) right) all in
    ap (begins image fuel d units q (call_checks table d who r)) (call_same table c d who r (call_on_found items table c d who r a read))
    ∙ begins_local image fuel items c d units q cs (call_checks table d who r) (entry_of_call table c who r) ahead a (call_checks_same items table c d who r a) (λ passed had e is. call_entry_found items table c d who r e a passed had is)
    (λ e is. call_on (IsBelow (length c.objects)) table c who r e (handles_below table c rest) is) keeps right all

pub opens_local : (image : Image) (fuel : ℕ) (items : List ReadItem) (c d : Content) (units : ℕ) (who : List ℕ) (operation : Operation) → LeadsAheadOrToUnit image → IsStoreAtRest (table_of_image image) c
    → KeepsStoreAtRest (table_of_image image) (machine_invocation image c (record { who = who; operation = operation }) fuel) → AgreeOn items c d → OwnsAlike (table_of_image image) c d who operation
    → SameRun items (opens image fuel c units (record { who = who; operation = operation }) operation) (opens image fuel d units (record { who = who; operation = operation }) operation)
opens_local image fuel items c d units who (new_request r) ahead rest keeps a owns =
    begins_local image fuel items c d units (record { who = who; operation = new_request r }) (new_checks (table_of_image image) c who r) (new_checks (table_of_image image) d who r) (entry_of_new (table_of_image image) who r) ahead a
    (new_same items (table_of_image image) c d who r a) (λ passed read e is. new_entry_found items (table_of_image image) c d who r e a passed read is)
    (λ e is. new_on (IsBelow (length c.objects)) (table_of_image image) c who r e (handles_below (table_of_image image) c rest) is) keeps
opens_local image fuel items c d units who (call_request r) ahead rest keeps a owns = call_local image fuel items c d units who r ahead rest keeps a
opens_local image fuel items c d units who (disown_request on) ahead rest keeps a owns =
    handle_local items c d (handle_name who on) [] [] (disowns c (handle_name who on)) (disowns d (handle_name who on)) a (one_same items c d (handle_name who on) a) (λ h r right. done_grows ok_nothing (disowned_world c h) r)
    (λ h is there r. disown_same items c d (handle_name who on) h r a (handles_below (table_of_image image) c rest (handle_name who on) h is))
opens_local image fuel items c d units who (give_request r) ahead rest keeps a owns =
    handle_local items c d (handle_name who r.on) _ _ (λ h reads. puts_in ok_nothing (puts_of_give who r h) (still_world c) reads) (λ h reads. puts_in ok_nothing (puts_of_give who r h) (still_world d) reads) a (give_same items c d who r a)
    (λ h reads right. done_grows ok_nothing (mark_puts (still_world c) (puts_of_give who r h)) reads)
    (λ h is there reads. give_put_same items c d (puts_of_give who r h) reads a (give_below (length c.objects) who r h (handles_below (table_of_image image) c rest (handle_name who r.on) h is)))
opens_local image fuel items c d units who (see_request on) ahead rest keeps a owns =
    handle_local items c d (handle_name who on) [] [] (sees (table_of_image image) c) (sees (table_of_image image) d) a (one_same items c d (handle_name who on) a) (sees_grow (table_of_image image) c)
    (λ h is there r. sees_same items (table_of_image image) c d h r there)
opens_local image fuel items c d units who (owner_request on) ahead rest keeps a owns =
    handle_local items c d (handle_name who on) [] [] (asks_owner (table_of_image image) c) (asks_owner (table_of_image image) d) a (one_same items c d (handle_name who on) a) (λ h r. shows_grow (table_of_image image) c r (owner_of (table_of_image image) c h.object))
    (λ h is there r.
    let first = there_is c.objects h.object (handles_below (table_of_image image) c rest (handle_name who on) h is) in
    owner_same items (table_of_image image) c d h r a rest owns.0 (first.0, there ∙ first.1) (owns.1 h is) (owner_of (table_of_image image) c h.object) refl)
