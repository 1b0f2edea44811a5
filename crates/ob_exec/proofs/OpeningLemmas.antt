-- How the code begins the run of a request.
use Rattle.std.proofs.Common.{◌≡◌, ℕ, Bool, false, List, ◌++◌, map, Option, Some, None, Result, Ok, Err, refl, sym, ap, subst, ◌∙◌, true≢false}
use Rattle.std.specs.Prelude.{option_map, find, IsSome, IfOk}
use Rattle.std.specs.Option.{is_none}
use Rattle.ob_base.specs.declared.cause.Memory.{Memory}
use Rattle.ob_base.specs.declared.id.TxId.{TxId}
use Rattle.ob_verify_spec.proofs.Cells.{none_some, some_same}
use Rattle.ob_heap_spec.specs.Contents.{Content}
use Rattle.ob_heap_spec.specs.Worlds.{ReadItem}
use Rattle.ob_heap.specs.Contents.{Stored, content_of}
use Rattle.ob_heap.specs.Overlays.{Changes, no_changes, KeepsUnread, no_object}
use Rattle.ob_heap.specs.declared.delta.Delta.{Delta}
use Rattle.ob_invocation_spec.specs.Checks.{Check, refusal_of}
use Rattle.ob_invocation_spec.specs.Checks as invocation
use Rattle.ob_invocation_spec.specs.Entries.{HandleUse, Entry, handle_uses}
use Rattle.ob_invocation_spec.specs.Entering.{is_outside_use, first_outside_use, outside_cause}
use Rattle.ob_invocation_spec.specs.Invocation.{ended, after_entry_test}
use Rattle.ob_invocation_spec.specs.Requests.{Request}
use Rattle.ob_invocation_spec.specs.Replies.{Refusal, Invocation, aborted}
use Rattle.ob_invocation_spec.specs.Showing.{told_state}
use Rattle.ob_code.specs.declared.image.Image.{Image}
use Rattle.ob_code_table.specs.ImageTables.{table_of_image}
use Rattle.ob_machine_meaning.specs.Meanings.{machine_meaning, entry_of_request}
use Rattle.ob_machine_steps.specs.Entries.{started}
use Rattle.ob_machine_steps.specs.Outcomes.{outcome}
use Rattle.ob_machine_steps.specs.Runs.{world_of}
use Rattle.ob_machine_laws.specs.Laws.{SamePhase}
use Rattle.ob_machine.specs.Phases.{phase_of}
use Rattle.ob_machine.specs.Shown.{cause_of}
use Rattle.ob_machine.specs.declared.machine.Machine.{Machine}
use Rattle.ob_machine.specs.declared.progress.Cause.{Cause}
use Rattle.ob_request_run_laws.specs.Runs.{Run, opened, paused, answered, lost, unchanged}
use Rattle.ob_request_run_laws.specs.Slices.{with_thing, sliced, entered, refused_or}
use Rattle.ob_request_run_laws.specs.Slices as run
use Rattle.ob_request_run_laws.specs.Laws.{ComesTo as RunComesTo, HasEnded}
use Rattle.ob_wire.specs.Refusals.{refusal_told}
use Rattle.ob_wire.specs.declared.refusal.Refusal.{Refusal as Told}
use Rattle.ob_wire.specs.declared.reply.Answer.{Answer}
use Rattle.ob_wire.specs.declared.reply.Answer.TheVariants.{Refused}
use Rattle.ob_exec_entries.specs.Entering.{use_of, machine_entry}
use Rattle.ob_exec_entries.specs.declared.entered.Entered.{Entered}
use Rattle.ob_exec_handles.specs.declared.answered.Answered.{Answered}
use Rattle.ob_exec_handles.specs.Coming.{ComesTo, LeadsTo, IsInLimits}
use Rattle.ob_exec_handles.specs.Spending.{item_of, SpendsSo}
use Rattle.ob_exec_handles.specs.declared.spent.Spent.{Spent}
use Rattle.ob_exec_handles.proofs.SpendingLemmas.{all_itself, all_on, all_right}
use Rattle.ob_exec.specs.Bodies.{body_number}
use Rattle.ob_exec.specs.Going.{Asked, Enters, IsBegun, IsAt, passed, tested, sliced_at}
use Rattle.ob_exec.specs.Pausing.{RunRepresents, LeadsBy, SliceLeads}
use Rattle.ob_exec.specs.Standing.{running, ComesBy}
use Rattle.ob_exec.specs.declared.stage.Paused.{Paused}
use Rattle.ob_exec.specs.declared.stage.SliceEnd.{SliceEnd}
use Rattle.ob_exec.specs.declared.stage.Stage.{Stage}
use Rattle.ob_exec.specs.declared.stage.Stage.TheVariants as stage
use Rattle.ob_exec.proofs.GoingLemmas.{still_unread, none_changed}
use Rattle.ob_exec.proofs.RunLemmas.{runs_some, comes_of_end, none_found}
use Rattle.ob_exec.proofs.StartLemmas.{with_number}

-- What is entered, and has passed its entry test.

enters_running : (image : Image) (fuel : ℕ) (base : Stored) (who : List ℕ) (into : Option (List ℕ)) (entered : Entered) (items : List ReadItem) (a : Asked)
    → Enters image fuel base who into entered items a → first_outside_use (table_of_image image) (content_of base) a.entry ≡ None
    → IsInLimits (running image (content_of base) a.fuel a.reads a.entry)
enters_running image fuel base who into entered items a k none =
    subst (λ o. IsInLimits (after_entry_test (machine_meaning image) (table_of_image image) (content_of base) a.fuel a.entry a.reads o)) none k.limits

abbrev comes_by : (image : Image) (fuel : ℕ) (base : Stored) (who : List ℕ) (into : Option (List ℕ)) (entered : Entered) (items : List ReadItem) (a : Asked)
    → Enters image fuel base who into entered items a
    → ComesBy (running image (content_of base) a.fuel) (content_of base) who into entered (running image (content_of base) a.fuel a.reads a.entry)
comes_by image fuel base who into entered items a k = record { entry = a.entry; reads = a.reads; stands = k.stands; is = refl }

-- a body runs
pub enters_some : (image : Image) (fuel : ℕ) (base : Stored) (who : List ℕ) (into : Option (List ℕ)) (entered : Entered) (items : List ReadItem) (a : Asked)
    → Enters image fuel base who into entered items a → first_outside_use (table_of_image image) (content_of base) a.entry ≡ None
    → IsSome (body_number image (machine_entry entered).receiver entered.contract entered.tx)
enters_some image fuel base who into entered items a k none =
    runs_some image (content_of base) a.fuel who into entered (running image (content_of base) a.fuel a.reads a.entry)
    (comes_by image fuel base who into entered items a k) (enters_running image fuel base who into entered items a k none)

-- the code is before the first unit of what is entered
pub begun_so : (image : Image) (base : Stored) (fuel : ℕ) (entered : Entered) (tx : TxId) (m : Machine) (o : Changes)
    → body_number image (machine_entry entered).receiver entered.contract entered.tx ≡ Some tx
    → SamePhase (started image (with_number tx (machine_entry entered)) (content_of base).objects fuel) (phase_of m base.objects o)
    → KeepsUnread no_object no_changes o
    → IsBegun image base fuel entered (record { machine = m; overlay = o; uses = entered.uses; given = entered.given })
begun_so image base fuel entered tx m o is same keeps = record {
  start = with_number tx (machine_entry entered);
  number = is;
  same = refl;
  phase = same;
  uses = refl;
  given = refl;
  unread = still_unread no_changes o none_changed keeps;
}

-- before its first unit the code is where the plain run is
pub begun_at : (image : Image) (fuel : ℕ) (base : Stored) (who : List ℕ) (into : Option (List ℕ)) (entered : Entered) (items : List ReadItem) (a : Asked) (s : Paused)
    → Enters image fuel base who into entered items a → first_outside_use (table_of_image image) (content_of base) a.entry ≡ None
    → (b : IsBegun image base fuel entered s) → IsAt image base who into s items a (started image b.start (content_of base).objects a.fuel)
begun_at image fuel base who into entered items a s k none b =
    let c = content_of base in
    let same = comes_of_end image c a.fuel who into entered (running image c a.fuel a.reads a.entry) b.start.tx
    (comes_by image fuel base who into entered items a k) b.number in
    record {
      enters = k.enters;
      client = k.client;
      those = record {
        client = k.those.client;
        name = k.those.name;
        uses = subst (λ us. map (use_of who) us ≡ handle_uses c a.entry) (sym b.uses) k.those.uses;
        given = b.given ∙ k.those.given;
        stand = k.those.stand;
        read = k.those.read;
      };
      reached = record {
        start = b.start;
        number = 0;
        by = refl;
        limits = subst IsInLimits
            (same ∙ ap (λ m. ended (table_of_image image) c a.entry a.reads (outcome image (started image m c.objects a.fuel))) (sym b.same))
            (enters_running image fuel base who into entered items a k none);
      };
      phase = subst (λ n. SamePhase (started image b.start c.objects n) (phase_of s.machine base.objects s.overlay)) (sym k.units) b.phase;
      unread = b.unread;
      noted = k.noted.0;
      within = all_on items a.reads ((world_of (started image b.start c.objects a.fuel)).reads ++ a.reads) k.noted.1
          (all_right (world_of (started image b.start c.objects a.fuel)).reads a.reads a.reads (all_itself a.reads));
    }

ends_by : (image : Image) (base : Stored) (r : Run) (o : Option Answered) (items : List ReadItem) (taken : ℕ) (s t : Stage) → is_none o ≡ false
    → LeadsBy image base r o items taken s → LeadsBy image base r o items taken t
ends_by image base r None items taken s t e h = absurd (true≢false e)
ends_by image base r (Some told) items taken s t e h = h

-- where a slice has ended a run it says nothing of the stage
pub ends_anyhow : (image : Image) (base : Stored) (r : Run) (result : Result SliceEnd Memory) (goes : Bool) (s t : Stage)
    → IfOk result (λ end. goes ≡ is_none end.answered) → goes ≡ false
    → IfOk result (λ end. SliceLeads image base r end s) → IfOk result (λ end. SliceLeads image base r end t)
ends_anyhow image base r (Ok end) goes s t is f h = ends_by image base r end.answered end.reads end.taken s t (sym is ∙ f) h
ends_anyhow image base r (Err m) goes s t is f h = tt

-- what the machine enters
entered_on : (image : Image) (c : Content) (e : Entry) (tx : TxId) (receiver : Option HandleUse)
    → body_number image (entry_of_request c (record e { receiver = receiver })).receiver e.contract e.tx ≡ Some tx
    → entered image c (record e { receiver = receiver }) ≡ Some (record (entry_of_request c (record e { receiver = receiver })) { tx = tx })
entered_on image c e tx None h = ap (option_map (λ t. record (entry_of_request c (record e { receiver = None })) { tx = t })) h
entered_on image c e tx (Some u) h = ap (option_map (λ t. record (entry_of_request c (record e { receiver = Some u })) { tx = t })) h

entered_is : (image : Image) (fuel : ℕ) (base : Stored) (who : List ℕ) (into : Option (List ℕ)) (en : Entered) (items : List ReadItem) (a : Asked) (s : Paused)
    → Enters image fuel base who into en items a → (b : IsBegun image base fuel en s) → entered image (content_of base) a.entry ≡ Some b.start
entered_is image fuel base who into en items a s k b =
    let c = content_of base in
    entered_on image c a.entry b.start.tx a.entry.receiver
    (subst (λ m. body_number image m.receiver m.contract m.tx ≡ Some b.start.tx) k.stands.machine b.number)
    ∙ ap (λ m. Some (with_number b.start.tx m)) (sym k.stands.machine) ∙ ap Some (sym b.same)

pub passed_is : (image : Image) (fuel : ℕ) (base : Stored) (who : List ℕ) (into : Option (List ℕ)) (en : Entered) (items : List ReadItem) (a : Asked) (s : Paused)
    (units : ℕ) → Enters image fuel base who into en items a → (b : IsBegun image base fuel en s)
    → passed image base units a ≡ sliced_at image base units a (started image b.start (content_of base).objects a.fuel)
passed_is image fuel base who into en items a s units k b =
    ap (λ o. with_thing o (λ m. sliced image (content_of base) units a.request a.entry a.reads (started image m (content_of base).objects a.fuel)))
    (entered_is image fuel base who into en items a s k b)

-- The entry test.

first_is : (image : Image) (fuel : ℕ) (base : Stored) (who : List ℕ) (into : Option (List ℕ)) (en : Entered) (items : List ReadItem) (a : Asked)
    → Enters image fuel base who into en items a
    → find (is_outside_use (table_of_image image) (content_of base).objects) (map (use_of who) en.uses) ≡ first_outside_use (table_of_image image) (content_of base) a.entry
first_is image fuel base who into en items a k = ap (find (is_outside_use (table_of_image image) (content_of base).objects)) k.those.uses

pub none_outside : (image : Image) (fuel : ℕ) (base : Stored) (who : List ℕ) (into : Option (List ℕ)) (en : Entered) (items : List ReadItem) (a : Asked)
    → Enters image fuel base who into en items a
    → option_map cause_of None ≡ option_map (outside_cause (content_of base).objects) (find (is_outside_use (table_of_image image) (content_of base).objects) (map (use_of who) en.uses))
    → first_outside_use (table_of_image image) (content_of base) a.entry ≡ None
none_outside image fuel base who into en items a k h =
    sym (first_is image fuel base who into en items a k) ∙ none_found (outside_cause (content_of base).objects) _ h

-- what follows where it is passed
pub tested_passed : (image : Image) (base : Stored) (units : ℕ) (a : Asked) → first_outside_use (table_of_image image) (content_of base) a.entry ≡ None
    → tested image base units a ≡ passed image base units a
tested_passed image base units a none = ap (run.after_entry_test image a.fuel (content_of base) units a.request a.entry a.reads) none

fails_by : (image : Image) (base : Stored) (units : ℕ) (a : Asked) (found : Option HandleUse) (cause : Cause)
    → option_map cause_of (Some cause) ≡ option_map (outside_cause (content_of base).objects) found
    → run.after_entry_test image a.fuel (content_of base) units a.request a.entry a.reads found
    ≡ unchanged (aborted (cause_of cause) (told_state (table_of_image image) (content_of base).objects (cause_of cause))) 0 a.reads
fails_by image base units a None cause h = absurd (none_some (sym h))
fails_by image base units a (Some u) cause h =
    ap (λ by. unchanged (aborted by (told_state (table_of_image image) (content_of base).objects by)) 0 a.reads) (sym (some_same h))

-- and where it isn't
pub tested_fails : (image : Image) (fuel : ℕ) (base : Stored) (who : List ℕ) (into : Option (List ℕ)) (en : Entered) (items : List ReadItem) (a : Asked) (units : ℕ)
    (cause : Cause) → Enters image fuel base who into en items a
    → option_map cause_of (Some cause) ≡ option_map (outside_cause (content_of base).objects) (find (is_outside_use (table_of_image image) (content_of base).objects) (map (use_of who) en.uses))
    → tested image base units a ≡ unchanged (aborted (cause_of cause) (told_state (table_of_image image) (content_of base).objects (cause_of cause))) 0 a.reads
tested_fails image fuel base who into en items a units cause k h =
    fails_by image base units a (first_outside_use (table_of_image image) (content_of base) a.entry) cause
    (h ∙ ap (option_map (outside_cause (content_of base).objects)) (first_is image fuel base who into en items a k))

-- Requests that are answered at once.

pub answered_once : (image : Image) (base : Stored) (r : Run) (i : Invocation) (answer : Answer) (delta : Delta) (spent : Spent) → RunComesTo (content_of base) i r
    → HasEnded r → ComesTo i base answer delta → SpendsSo i spent
    → RunRepresents image base r (record { stage = stage.Answered (record { answer = answer; delta = delta }); reads = map item_of spent.reads; taken = spent.taken })
answered_once image base (opened q) i answer delta spent comes ends told spends = absurd ends
answered_once image base (paused q reads p h) i answer delta spent comes ends told spends = absurd ends
answered_once image base (answered a) i answer delta spent comes ends told spends =
    let s = subst (λ j. SpendsSo j spent) comes spends in
    record { at = subst (λ j. ComesTo j base answer delta) comes told; reads = s.1; taken = s.0 }
answered_once image base lost i answer delta spent comes ends told spends = absurd (subst (λ j. ComesTo j base answer delta) comes told)

-- a request that is refused
pub refused_ends : (o : Option Refusal) (reads : List ReadItem) (go : List ReadItem → Run) (why : Told) → option_map refusal_told o ≡ Some why
    → HasEnded (refused_or o reads go)
refused_ends None reads go why h = absurd (none_some h)
refused_ends (Some refusal) reads go why h = tt

pub refused_comes : (base : Stored) (o : Option Refusal) (reads : List ReadItem) (go : List ReadItem → Invocation) (why : Told) (answer : Answer) (delta : Delta)
    → option_map refusal_told o ≡ Some why → answer ≡ Refused why → LeadsTo base delta (content_of base)
    → ComesTo (invocation.refused_or (content_of base) o reads go) base answer delta
refused_comes base None reads go why answer delta h told leads = absurd (none_some h)
refused_comes base (Some refusal) reads go why answer delta h told leads = (told ∙ ap Refused (sym (some_same h)), leads)

-- a request that passes its checks, and what it enters
pub passes_checks : (image : Image) (fuel : ℕ) (c : Content) (units : ℕ) (q : Request) (checks : List Check) (found : Option Entry) (e : Entry) → refusal_of checks ≡ None
    → found ≡ Some e → run.begins image fuel c units q checks found ≡ run.enters image fuel c units q (invocation.reads_of checks) e
passes_checks image fuel c units q checks found e none is =
    let reads = invocation.reads_of checks in
    ap (λ o. refused_or o reads (λ rs. with_thing found (run.enters image fuel c units q rs))) none
    ∙ ap (λ o. with_thing o (run.enters image fuel c units q reads)) is
