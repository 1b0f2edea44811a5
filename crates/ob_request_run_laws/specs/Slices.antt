-- One slice of the run of a request, on the content of the moment (this project's own).
use Rattle.std.specs.Prelude.{ℕ, List, [], ◌∷◌, ◌++◌, Option, Some, None, option_map}
use Rattle.ob_base.specs.declared.id.ContractId.{ContractId}
use Rattle.ob_base.specs.declared.id.TxId.{TxId}
use Rattle.ob_table.specs.Tables.{ClassTable}
use Rattle.ob_heap_spec.specs.Contents.{HandleName, Handle, Content}
use Rattle.ob_heap_spec.specs.Worlds.{ReadItem}
use Rattle.ob_heap_spec.specs.Handles.{handle_at}
use Rattle.ob_rest_spec.specs.Incoming.{IncomingReference, owner_of}
use Rattle.ob_invocation_spec.specs.Checks.{Check, refusal_of, reads_of}
use Rattle.ob_invocation_spec.specs.Entering.{first_outside_use, outside_cause, puts_after}
use Rattle.ob_invocation_spec.specs.Entries.{HandleUse, Entry, entry_of_new, entry_of_call}
use Rattle.ob_invocation_spec.specs.Handles.{handle_name}
use Rattle.ob_invocation_spec.specs.Invocation.{still_world, disowned_world, puts_of_give}
use Rattle.ob_invocation_spec.specs.Refusals.{handle_check, new_checks, call_checks, give_checks}
use Rattle.ob_invocation_spec.specs.Replies.{Refusal, ok_nothing, ok_shown, ok_place, refused}
use Rattle.ob_invocation_spec.specs.Replies as reply
use Rattle.ob_invocation_spec.specs.Requests.{Operation, new_request, call_request, disown_request, give_request, see_request, owner_request, GiveRequest, Request}
use Rattle.ob_invocation_spec.specs.Showing.{told_state, shown_at, shown_place, place_item, reply_of_result}
use Rattle.ob_code.specs.declared.image.Image.{Image}
use Rattle.ob_machine_steps.specs.Configurations.{End, ended, aborted}
use Rattle.ob_machine_steps.specs.Entries.{MachineEntry, Phase, started}
use Rattle.ob_code_table.specs.Images.{constructor_of}
use Rattle.ob_code_table.specs.ImageTables.{table_of_image}
use Rattle.ob_machine_meaning.specs.Meanings.{entry_of_request}
use Rattle.ob_machine_steps.specs.Measures.{steps_left}
use Rattle.ob_machine_steps.specs.Runs.{Stop, over, run_in, world_of}
use Rattle.ob_machine_steps.specs.Runs as machine
use Rattle.ob_request_run_laws.specs.Locality.{phase_onto}
use Rattle.ob_request_run_laws.specs.Held.{held_by, laid_over}
use Rattle.ob_request_run_laws.specs.Runs.{Run, opened, paused, answered, lost, done_in, puts_in, unchanged}

-- The end of a body.

-- how a `new` or a `call` is answered once its run is over: handles are put on the content of the moment
abbrev pub ends_so : ClassTable → Content → Entry → List ReadItem → End → Run
ends_so table c e reads (ended result w) = puts_in (reply_of_result result) (puts_after c e result) w reads
ends_so table c e reads (aborted cause s) =
    unchanged (reply.aborted cause (told_state table c.objects cause)) s.taken (s.reads ++ reads)

-- where a slice of it stops; without a next step the run is lost
abbrev pub stops_so : ClassTable → Content → Request → Entry → List ReadItem → Option Stop → Run
stops_so table c q e reads None = lost
stops_so table c q e reads (Some (machine.paused p)) = paused q reads (phase_onto [] p) (held_by (world_of p))
stops_so table c q e reads (Some (over end)) = ends_so table c e reads end

-- a slice of so many units, from where the run is
abbrev pub sliced : Image → Content → ℕ → Request → Entry → List ReadItem → Phase → Run
sliced image c units q e reads p =
    stops_so (table_of_image image) c q e reads (run_in image (steps_left image p) units p)

-- The first slice.

-- what follows from a thing that was found; without it the run is lost
abbrev pub with_thing : {A : Type 0} → Option A → (A → Run) → Run
with_thing None go = lost
with_thing (Some a) go = go a

-- the request is refused, or else this follows, with what was read
abbrev pub refused_or : Option Refusal → List ReadItem → (List ReadItem → Run) → Run
refused_or (Some refusal) reads go = unchanged (refused refusal) 0 reads
refused_or None reads go = go reads

-- the request is refused by the first check that holds; else this follows, with what the checks have read
abbrev pub unless_refused : List Check → (List ReadItem → Run) → Run
unless_refused checks go = refused_or (refusal_of checks) (reads_of checks) go

-- the number of the body that runs: on an object, that of its transaction; else that of the contract's constructor
abbrev pub body_number : Image → Option HandleUse → ContractId → TxId → Option TxId
body_number image None contract tx = constructor_of image contract
body_number image (Some u) contract tx = Some tx

-- the machine's entry of what a request enters
abbrev pub entered : Image → Content → Entry → Option MachineEntry
entered image c e = option_map (λ tx. record (entry_of_request c e) { tx = tx }) (body_number image e.receiver e.contract e.tx)

-- a `new` or a `call` after its entry test: it aborts where a use finds its object outside the declared states, and else it runs
abbrev pub after_entry_test : Image → ℕ → Content → ℕ → Request → Entry → List ReadItem → Option HandleUse → Run
after_entry_test image fuel c units q e reads None =
    with_thing (entered image c e) (λ m. sliced image c units q e reads (started image m c.objects fuel))
after_entry_test image fuel c units q e reads (Some u) =
    let cause = outside_cause c.objects u in
    unchanged (reply.aborted cause (told_state (table_of_image image) c.objects cause)) 0 reads

-- a `new` or a `call` that isn't refused
abbrev pub enters : Image → ℕ → Content → ℕ → Request → List ReadItem → Entry → Run
enters image fuel c units q reads e =
    after_entry_test image fuel c units q e reads (first_outside_use (table_of_image image) c e)

-- a `new` or a `call`, by what is asked of it and what it enters
abbrev pub begins : Image → ℕ → Content → ℕ → Request → List Check → Option Entry → Run
begins image fuel c units q checks found =
    unless_refused checks (λ reads. with_thing found (enters image fuel c units q reads))

-- The requests that run nothing end in their first slice.

-- what follows from the handle of a name, with what was read of it; without one the request is refused
abbrev pub with_handle : Content → HandleName → (Handle → List ReadItem → Run) → Run
with_handle c name go =
    unless_refused (handle_check c name ∷ []) (λ reads. with_thing (handle_at c name) (λ h. go h reads))

-- a `disown` of a handle
abbrev pub disowns : Content → HandleName → Handle → List ReadItem → Run
disowns c name h reads = done_in ok_nothing ((name, None) ∷ []) (disowned_world c h) reads

-- a `give`
abbrev pub gives : Content → List ℕ → GiveRequest → Run
gives c who r =
    unless_refused (give_checks c who r)
    (λ reads. with_thing (handle_at c (handle_name who r.on)) (λ h. puts_in ok_nothing (puts_of_give who r h) (still_world c) reads))

-- a `see` of the object of a handle
abbrev pub sees : ClassTable → Content → Handle → List ReadItem → Run
sees table c h reads = with_thing (shown_at table c.objects h.object) (λ shown. unchanged (ok_shown shown) 0 reads)

-- the owning place that was found is shown, and read
abbrev pub shows_owner : ClassTable → Content → List ReadItem → Option IncomingReference → Run
shows_owner table c reads None = unchanged ok_nothing 0 reads
shows_owner table c reads (Some r) =
    with_thing (shown_place table c.objects r.place) (λ place. unchanged (ok_place place) 0 (place_item r.place ∷ reads))

-- an `owner` of the object of a handle
abbrev pub asks_owner : ClassTable → Content → Handle → List ReadItem → Run
asks_owner table c h reads = shows_owner table c reads (owner_of table c h.object)

-- the first slice, by the kind of what is asked
abbrev pub opens : Image → ℕ → Content → ℕ → Request → Operation → Run
opens image fuel c units q (new_request r) =
    begins image fuel c units q (new_checks (table_of_image image) c q.who r) (entry_of_new (table_of_image image) q.who r)
opens image fuel c units q (call_request r) =
    begins image fuel c units q (call_checks (table_of_image image) c q.who r) (entry_of_call (table_of_image image) c q.who r)
opens image fuel c units q (disown_request on) = with_handle c (handle_name q.who on) (disowns c (handle_name q.who on))
opens image fuel c units q (give_request r) = gives c q.who r
opens image fuel c units q (see_request on) = with_handle c (handle_name q.who on) (sees (table_of_image image) c)
opens image fuel c units q (owner_request on) = with_handle c (handle_name q.who on) (asks_owner (table_of_image image) c)

-- Slices.

-- what a request enters on a content, if it enters something
abbrev pub entry_of : ClassTable → Content → List ℕ → Operation → Option Entry
entry_of table c who (new_request r) = entry_of_new table who r
entry_of table c who (call_request r) = entry_of_call table c who r
entry_of table c who operation = None

-- One slice of so many units, on the content of the moment, with what the run has read and made laid over it. `fuel` is how many units
-- the run has in all.
abbrev pub slice : Image → ℕ → Content → ℕ → Run → Run
slice image fuel c units (opened q) = opens image fuel c units q q.operation
slice image fuel c units (paused q reads p h) =
    with_thing (entry_of (table_of_image image) c q.who q.operation)
    (λ e. sliced image c units q e reads (phase_onto (laid_over c.objects h) p))
slice image fuel c units (answered a) = answered a
slice image fuel c units lost = lost

-- slices of so many units each, one after another on one content
abbrev pub slices : Image → ℕ → Content → List ℕ → Run → Run
slices image fuel c [] r = r
slices image fuel c (units ∷ more) r = slices image fuel c more (slice image fuel c units r)
