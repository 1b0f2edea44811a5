-- How the code's run goes on where a plain one does.
use Rattle.std.proofs.Common.{◌≡◌, ◌≤◌, ℕ, zero, suc, ◌+◌, Bool, true, false, List, [], ◌∷◌, ◌++◌, length, map, Option, Some, None, inl, inr, refl, sym, ap, subst, ◌∙◌}
use Rattle.std.specs.Prelude.{option_map, if◌then◌else◌}
use Rattle.ob_base.specs.Limits.{most_objects}
use Rattle.ob_verify_spec.proofs.Cells.{none_some, some_same}
use Rattle.ob_heap_spec.specs.Objects as plain
use Rattle.ob_heap_spec.specs.Worlds.{World, ReadItem, object_item, AllRead, ReadSame, SameWorld, gives}
use Rattle.ob_heap.specs.declared.object.Object.{Object}
use Rattle.ob_heap.specs.declared.value.Value.{Value}
use Rattle.ob_heap.specs.Contents.{Stored, content_of}
use Rattle.ob_heap.specs.Overlays.{Changes, laid_over, KeepsUnread, no_object, is_read, changed_at, AreChangesRead, no_changes}
use Rattle.ob_heap.specs.Plain.{value_of}
use Rattle.ob_invocation_spec.specs.Entries.{handle_uses}
use Rattle.ob_invocation_spec.specs.Invocation.{done_with, ended}
use Rattle.ob_invocation_spec.specs.Entering.{puts_after}
use Rattle.ob_invocation_spec.specs.Replies.{aborted}
use Rattle.ob_invocation_spec.specs.Showing.{told_state, reply_of_result}
use Rattle.ob_code.specs.declared.image.Image.{Image}
use Rattle.ob_code_table.specs.ImageTables.{table_of_image}
use Rattle.ob_machine_steps.specs.Configurations.{MachineFrame, Next, goes, stops}
use Rattle.ob_machine_steps.specs.Configurations as machine
use Rattle.ob_machine_steps.specs.Entries.{Phase, starting, running, started, next_step}
use Rattle.ob_machine_steps.specs.Measures.{steps_left, LeadsAheadOrToUnit}
use Rattle.ob_machine_steps.specs.Outcomes.{outcome}
use Rattle.ob_machine_steps.specs.Runs.{Stop, paused, over, after_step, after_steps, waits, pays, left_after, run_in, Slices, world_of, IsSoundIn}
use Rattle.ob_machine_laws.specs.Laws.{IsSoundRun, SamePhase, SameStop, IsTold, AreTold, HasToldFrames}
use Rattle.ob_machine_laws.proofs.Ending.{run_ends}
use Rattle.ob_machine_laws.proofs.Sound.{sound_in}
use Rattle.ob_machine_laws.proofs.Unread.{frames_told}
use Rattle.ob_request_run_laws.specs.Locality.{phase_onto, reads_of_stop}
use Rattle.ob_request_run_laws.proofs.Local.{slice_stays_good}
use Rattle.ob_machine_parts.specs.Shown.{reads_of}
use Rattle.ob_machine.specs.Phases.{phase_of, phase_at}
use Rattle.ob_machine.specs.Shown.{cause_of, shown}
use Rattle.ob_machine.specs.Slicing.{StopsSo, stop_told}
use Rattle.ob_machine.specs.declared.entry.Entry.{Entry as CodeEntry}
use Rattle.ob_machine.specs.declared.machine.Machine.{Machine}
use Rattle.ob_machine.specs.declared.progress.Cause.{Cause}
use Rattle.ob_machine.specs.declared.progress.Progress.TheVariants.{Finished, Aborted, Going}
use Rattle.ob_machine.proofs.AlikeLemmas.{sound_alike, stops_alike}
use Rattle.ob_request_run_laws.specs.Held.{held_by}
use Rattle.ob_request_run_laws.specs.Held as held
use Rattle.ob_request_run_laws.specs.Runs.{unchanged}
use Rattle.ob_request_run_laws.specs.Slices.{stops_so}
use Rattle.ob_request_run_laws.specs.Laws.{ComesTo}
use Rattle.ob_request_run_laws.proofs.Laid.{laid_back}
use Rattle.ob_request_run_laws.proofs.Standing.{paused_stands, ended_stands, put_is}
use Rattle.ob_request_run_laws.proofs.Steps.{IsSome, steps_add, in_steps, slice_some}
use Rattle.ob_request_run_laws.proofs.Whole.{phase_twice, phase_reads, onto_self, outcome_is}
use Rattle.ob_exec_entries.specs.Entering.{use_of}
use Rattle.ob_exec_handles.specs.Coming.{IsInLimits}
use Rattle.ob_exec.specs.Going.{Asked, IsReached, IsAt, sliced_at, ended_so, IsEnd}
use Rattle.ob_exec.specs.Pausing.{RunRepresents}
use Rattle.ob_exec.specs.declared.stage.Paused.{Paused}
use Rattle.ob_exec.specs.declared.stage.Stage.TheVariants as stage
use Rattle.ob_exec.proofs.ComingLemmas.{right_in_limits, within_limits}
use Rattle.ob_exec.proofs.EndLemmas.{sound_run, units_taken}
use Rattle.ob_exec.proofs.NotedLemmas.{read_on, read_over}

-- Slices.

once_by : (image : Image) (k m units : ℕ) (p : Phase) (s t : Stop) (b : Bool) (r : Option Next)
    → (if b then Some (paused p) else after_step r (run_in image k units)) ≡ Some s
    → (if b then Some (paused p) else after_step r (run_in image m units)) ≡ Some t
    → ((x : Phase) → run_in image k units x ≡ Some s → run_in image m units x ≡ Some t → s ≡ t) → s ≡ t
once_by image k m units p s t true r f g ih = some_same (sym f ∙ g)
once_by image k m units p s t false None f g ih = absurd (none_some f)
once_by image k m units p s t false (Some (goes c)) f g ih = ih (running c) f g
once_by image k m units p s t false (Some (stops end)) f g ih = some_same (sym f ∙ g)

-- a slice stops at one place
stops_once : (image : Image) (k m units : ℕ) (p : Phase) (s t : Stop) → run_in image k units p ≡ Some s → run_in image m units p ≡ Some t → s ≡ t
stops_once image zero m units p s t f g = absurd (none_some f)
stops_once image (suc k) zero units p s t f g = absurd (none_some g)
stops_once image (suc k) (suc m) units p s t f g =
    once_by image k m (left_after (pays image p) units) p s t (waits image units p) (next_step image p) f g
    (λ x h i. stops_once image k m (left_after (pays image p) units) x s t h i)

some_stop : (image : Image) (units : ℕ) (p : Phase) (s : Stop) (o : Option Stop) → run_in image (steps_left image p) units p ≡ o → IsSome o → Slices image units p s
    → run_in image (steps_left image p) units p ≡ Some s
some_stop image units p s None e h by = absurd h
some_stop image units p s (Some t) e h by = e ∙ ap Some (sym (stops_once image by.steps (steps_left image p) units p s t by.by e))

-- a slice of a sound run stops within its measure
stops_in : (image : Image) (units : ℕ) (p : Phase) (s : Stop) → LeadsAheadOrToUnit image → IsSoundRun image p → Slices image units p s
    → run_in image (steps_left image p) units p ≡ Some s
stops_in image units p s ahead sound by =
    let over = run_ends image p ahead sound in
    some_stop image units p s (run_in image (steps_left image p) units p) refl (slice_some image (steps_left image p) units p over.end over.by) by

-- where a sound run comes to it is sound
sound_from : (image : Image) (k : ℕ) (start p : Phase) → after_steps image k start ≡ Some (paused p) → IsSoundRun image start → IsSoundRun image p
sound_from image k start p h sound = record { at = λ n q f. sound.at (k + n) q (steps_add image k n start p (paused q) h f) }

-- What two runs have that are the same but for reads.

told_alike : (w v : World) (n : ℕ) → SameWorld w v → IsTold w n → IsTold v n
told_alike w v n s (inl made) =
    inl (subst (λ k. length v.objects ≤ n + k) (sym s.made) (subst (λ xs. length xs ≤ n + w.made) (sym s.objects) made))
told_alike w v n s (inr read) = inr (s.reads.0 (object_item n) read)

frames_alike : (w v : World) (fs : List MachineFrame) → SameWorld w v → AreTold w fs → AreTold v fs
frames_alike w v [] s h = tt
frames_alike w v (f ∷ fs) s h = (told_alike w v f.this s h.0, frames_alike w v fs s h.1)

same_told : (p q : Phase) → SamePhase p q → HasToldFrames p → HasToldFrames q
same_told (starting e w) (starting f v) s h = tt
same_told (running c) (running d) s h =
    frames_alike c.world d.world (d.top ∷ d.below) s.world
    (subst (λ fs. AreTold c.world (d.top ∷ fs)) (sym s.below) (subst (λ f. AreTold c.world (f ∷ c.below)) (sym s.top) h))
same_told (starting e w) (running d) s h = absurd s
same_told (running c) (starting f v) s h = absurd s

pub same_world : (p q : Phase) → SamePhase p q → SameWorld (world_of p) (world_of q)
same_world (starting e w) (starting f v) s = s.1
same_world (running c) (running d) s = s.world
same_world (starting e w) (running d) s = absurd s
same_world (running c) (starting f v) s = absurd s

-- what a machine has read
pub reads_shown : (m : Machine) (base : List Object) (o : Changes) → (world_of (phase_of m base o)).reads ≡ reads_of o
reads_shown m base o = by m.entry
  where
    by : (e : Option CodeEntry) → (world_of (phase_at e (shown m.run base o))).reads ≡ reads_of o
    by None = refl
    by (Some e) = refl

phase_taken : (p : Phase) (ys : List plain.Object) → (world_of (phase_onto ys p)).taken ≡ (world_of p).taken
phase_taken (starting e w) ys = refl
phase_taken (running c) ys = refl

-- Where the code is.

pub at_sound : (image : Image) (base : Stored) (who : List ℕ) (into : Option (List ℕ)) (s : Paused) (items : List ReadItem) (a : Asked) (p : Phase)
    → IsAt image base who into s items a p → IsSoundRun image p
at_sound image base who into s items a p k =
    let start = started image k.reached.start (content_of base).objects a.fuel in
    sound_from image k.reached.number start p k.reached.by
    (sound_run image start (right_in_limits (table_of_image image) (content_of base) a.entry a.reads (outcome image start) k.reached.limits))

pub at_goes : (image : Image) (base : Stored) (who : List ℕ) (into : Option (List ℕ)) (s : Paused) (items : List ReadItem) (a : Asked) (p : Phase) (units : ℕ)
    → IsAt image base who into s items a p → IsSoundIn image units (phase_of s.machine base.objects s.overlay)
at_goes image base who into s items a p units k =
    sound_alike image units p (phase_of s.machine base.objects s.overlay) k.phase (sound_in image units p (at_sound image base who into s items a p k))

pub at_told : (image : Image) (base : Stored) (who : List ℕ) (into : Option (List ℕ)) (s : Paused) (items : List ReadItem) (a : Asked) (p : Phase)
    → IsAt image base who into s items a p → HasToldFrames (phase_of s.machine base.objects s.overlay)
at_told image base who into s items a p k =
    same_told p (phase_of s.machine base.objects s.overlay) k.phase
    (frames_told image k.reached.number (started image k.reached.start (content_of base).objects a.fuel) p tt k.reached.by)

-- What it changes it has read.

unread_by : (n : ℕ) (old new : Changes) → AreChangesRead old → KeepsUnread no_object old new → (b : Bool) → is_read n old ≡ b → is_read n new ≡ false
    → changed_at n new.changed ≡ None
unread_by n old new h k true e f = absurd (let g = k.reads n e in cc)
unread_by n old new h k false e f = k.entries n (λ x. x) f ∙ h n e

pub still_unread : (old new : Changes) → AreChangesRead old → KeepsUnread no_object old new → AreChangesRead new
still_unread old new h k = λ n f. unread_by n old new h k (is_read n old) refl f

pub none_changed : AreChangesRead no_changes
none_changed n f = refl

-- A slice.

-- a slice of the plain run stops so
record StopsAt (image : Image) (base : Stored) (units : ℕ) (a : Asked) (p : Phase) (t : Stop) : Type 0 where
  stop : Stop
  is : sliced_at image base units a p ≡ stops_so (table_of_image image) (content_of base) a.request a.entry a.reads (Some stop)
  same : SameStop (Some stop) (Some t)
  runs : run_in image (steps_left image p) units p ≡ Some stop

stops_at : (image : Image) (base : Stored) (who : List ℕ) (into : Option (List ℕ)) (s : Paused) (items : List ReadItem) (a : Asked) (p : Phase) (units : ℕ) (t : Stop)
    → LeadsAheadOrToUnit image → IsAt image base who into s items a p → StopsSo image units (phase_of s.machine base.objects s.overlay) t → StopsAt image base units a p t
stops_at image base who into s items a p units t ahead k h =
    let on = stops_alike image units p (phase_of s.machine base.objects s.overlay) t k.phase h in
    let by = stops_in image units p on.stop ahead (at_sound image base who into s items a p k) on.by in
    record {
      stop = on.stop;
      is = ap (stops_so (table_of_image image) (content_of base) a.request a.entry a.reads) by;
      same = on.same;
      runs = by;
    }

-- it has come there in so many steps
record ComesThere (image : Image) (base : Stored) (a : Asked) (p : Phase) (r : IsReached image (content_of base) a p) (t : Stop) : Type 0 where
  number : ℕ
  by : after_steps image number (started image r.start (content_of base).objects a.fuel) ≡ Some t

comes_there : (image : Image) (base : Stored) (a : Asked) (p : Phase) (units : ℕ) (t : Stop) → (r : IsReached image (content_of base) a p)
    → run_in image (steps_left image p) units p ≡ Some t → ComesThere image base a p r t
comes_there image base a p units t r h =
    let j = in_steps image (steps_left image p) units p t h in
    record { number = r.number + j.0; by = steps_add image r.number j.0 (started image r.start (content_of base).objects a.fuel) p t r.by j.1 }

-- what was read stays read
grows_to : (image : Image) (base : Stored) (a : Asked) (p : Phase) (units : ℕ) (t : Stop) → (r : IsReached image (content_of base) a p)
    → run_in image (steps_left image p) units p ≡ Some t → AllRead (world_of p).reads (reads_of_stop t)
grows_to image base a p units t r h =
    (slice_stays_good image (length (content_of base).objects) (steps_left image p) units p t
    (paused_stands image r.start (content_of base).objects a.fuel r.number p r.by).0 h).1

-- It is paused.

paused_at : (image : Image) (base : Stored) (who : List ℕ) (into : Option (List ℕ)) (s : Paused) (items : List ReadItem) (a : Asked) (p : Phase) (units : ℕ)
    (m : Machine) (o : Changes) (noted : List ReadItem) (taken : ℕ) (y : Phase) → IsAt image base who into s items a p
    → run_in image (steps_left image p) units p ≡ Some (paused y) → SamePhase y (phase_of m base.objects o) → KeepsUnread no_object s.overlay o
    → ReadSame (items ++ reads_of o) noted → taken ≡ (world_of (phase_of m base.objects o)).taken
    → RunRepresents image base (stops_so (table_of_image image) (content_of base) a.request a.entry a.reads (Some (paused y)))
    (record { stage = stage.Paused (record { machine = m; overlay = o; uses = s.uses; given = s.given }); reads = noted; taken = taken })
paused_at image base who into s items a p units m o noted taken y k h same keeps all t =
    let xs = (content_of base).objects in
    let there = comes_there image base a p units (paused y) k.reached h in
    let stands = (paused_stands image k.reached.start xs a.fuel there.number y there.by).1 in
    let ys = held.laid_over xs (held_by (world_of y)) in
    let back : phase_onto ys (phase_onto [] y) ≡ y =
    phase_twice y ys [] ∙ ap (λ zs. phase_onto zs y) (laid_back xs (world_of y) stands.good stands.kept) ∙ onto_self y in
    let world = same_world y (phase_of m base.objects o) same in
    record {
      at = record {
        entry = a.entry;
        enters = k.enters;
        uses = subst (λ w. map (use_of w) s.uses ≡ handle_uses (content_of base) a.entry) (sym k.client) k.those.uses;
        given = k.those.given;
        phase = subst (λ z. SamePhase z (phase_of m base.objects o)) (sym back) same;
        unread = still_unread s.overlay o k.unread keeps;
      };
      reads = subst (λ rs. ReadSame (rs ++ a.reads) noted) (sym (phase_reads y []))
          (read_on (world_of p).reads (world_of y).reads (reads_of o) a.reads items noted k.noted k.within all
          (subst (ReadSame (world_of y).reads) (reads_shown m base.objects o) world.reads) (grows_to image base a p units (paused y) k.reached h));
      taken = t ∙ world.taken ∙ sym (phase_taken y []);
    }

paused_by : (image : Image) (base : Stored) (who : List ℕ) (into : Option (List ℕ)) (s : Paused) (items : List ReadItem) (a : Asked) (p : Phase) (units : ℕ)
    (m : Machine) (o : Changes) (noted : List ReadItem) (taken : ℕ) (stop : Stop) → IsAt image base who into s items a p
    → run_in image (steps_left image p) units p ≡ Some stop → SameStop (Some stop) (Some (paused (phase_of m base.objects o))) → KeepsUnread no_object s.overlay o
    → ReadSame (items ++ reads_of o) noted → taken ≡ (world_of (phase_of m base.objects o)).taken
    → RunRepresents image base (stops_so (table_of_image image) (content_of base) a.request a.entry a.reads (Some stop))
    (record { stage = stage.Paused (record { machine = m; overlay = o; uses = s.uses; given = s.given }); reads = noted; taken = taken })
paused_by image base who into s items a p units m o noted taken (paused y) k h same keeps all t =
    paused_at image base who into s items a p units m o noted taken y k h same keeps all t
paused_by image base who into s items a p units m o noted taken (over end) k h same keeps all t = absurd same

pub goes_paused : (image : Image) (base : Stored) (who : List ℕ) (into : Option (List ℕ)) (s : Paused) (items : List ReadItem) (a : Asked) (p : Phase) (units : ℕ)
    (m : Machine) (o : Changes) (noted : List ReadItem) (taken : ℕ) → LeadsAheadOrToUnit image → IsAt image base who into s items a p
    → StopsSo image units (phase_of s.machine base.objects s.overlay) (stop_told m base.objects o Going) → KeepsUnread no_object s.overlay o
    → ReadSame (items ++ reads_of o) noted → taken ≡ (world_of (phase_of m base.objects o)).taken
    → RunRepresents image base (sliced_at image base units a p)
    (record { stage = stage.Paused (record { machine = m; overlay = o; uses = s.uses; given = s.given }); reads = noted; taken = taken })
goes_paused image base who into s items a p units m o noted taken ahead k h keeps all t =
    let x = stops_at image base who into s items a p units (paused (phase_of m base.objects o)) ahead k h in
    subst (λ r. RunRepresents image base r
    (record { stage = stage.Paused (record { machine = m; overlay = o; uses = s.uses; given = s.given }); reads = noted; taken = taken })) (sym x.is)
    (paused_by image base who into s items a p units m o noted taken x.stop k x.runs x.same keeps all t)

-- It aborts.

pub record AbortsAt (image : Image) (base : Stored) (units : ℕ) (a : Asked) (p : Phase) (cause : Cause) (taken : ℕ) (noted : List ReadItem) : Type 0 where
  pub items : List ReadItem
  pub same : ReadSame items noted
  pub is : sliced_at image base units a p
      ≡ unchanged (aborted (cause_of cause) (told_state (table_of_image image) (content_of base).objects (cause_of cause))) taken items

aborted_by : (image : Image) (base : Stored) (who : List ℕ) (into : Option (List ℕ)) (s : Paused) (items : List ReadItem) (a : Asked) (p : Phase) (units : ℕ)
    (m : Machine) (o : Changes) (noted : List ReadItem) (taken : ℕ) (cause : Cause) (stop : Stop) → IsAt image base who into s items a p
    → sliced_at image base units a p ≡ stops_so (table_of_image image) (content_of base) a.request a.entry a.reads (Some stop)
    → run_in image (steps_left image p) units p ≡ Some stop → SameStop (Some stop) (Some (stop_told m base.objects o (Aborted cause)))
    → ReadSame (items ++ reads_of o) noted → taken ≡ (world_of (phase_of m base.objects o)).taken
    → AbortsAt image base units a p cause taken noted
aborted_by image base who into s items a p units m o noted taken cause (paused y) k is h same all t = absurd same
aborted_by image base who into s items a p units m o noted taken cause (over (machine.ended result w)) k is h same all t = absurd same
aborted_by image base who into s items a p units m o noted taken cause (over (machine.aborted other sp)) k is h same all t =
    let table = table_of_image image in
    let xs = (content_of base).objects in
    record {
      items = sp.reads ++ a.reads;
      same = read_on (world_of p).reads sp.reads (reads_of o) a.reads items noted k.noted k.within all same.1.reads
          (grows_to image base a p units (over (machine.aborted other sp)) k.reached h);
      is = is ∙ ap (λ by. unchanged (aborted by (told_state table xs by)) sp.taken (sp.reads ++ a.reads)) (sym same.0)
          ∙ ap (λ n. unchanged (aborted (cause_of cause) (told_state table xs (cause_of cause))) n (sp.reads ++ a.reads))
          (sym (t ∙ units_taken m base.objects o ∙ same.1.taken));
    }

pub goes_aborted : (image : Image) (base : Stored) (who : List ℕ) (into : Option (List ℕ)) (s : Paused) (items : List ReadItem) (a : Asked) (p : Phase) (units : ℕ)
    (m : Machine) (o : Changes) (noted : List ReadItem) (taken : ℕ) (cause : Cause) → LeadsAheadOrToUnit image → IsAt image base who into s items a p
    → StopsSo image units (phase_of s.machine base.objects s.overlay) (stop_told m base.objects o (Aborted cause))
    → ReadSame (items ++ reads_of o) noted → taken ≡ (world_of (phase_of m base.objects o)).taken
    → AbortsAt image base units a p cause taken noted
goes_aborted image base who into s items a p units m o noted taken cause ahead k h all t =
    let x = stops_at image base who into s items a p units (stop_told m base.objects o (Aborted cause)) ahead k h in
    aborted_by image base who into s items a p units m o noted taken cause x.stop k x.is x.runs x.same all t

-- It ends.

pub record FinishesAt (image : Image) (base : Stored) (units : ℕ) (a : Asked) (p : Phase) (value : Option Value) (o : Changes) (taken : ℕ) (noted : List ReadItem) : Type 0 where
  pub world : World
  pub end : IsEnd base a (option_map value_of value) world o taken noted
  pub is : sliced_at image base units a p ≡ ended_so base a (option_map value_of value) world
  pub limits : length (laid_over base.objects o) ≤ most_objects

finished_by : (image : Image) (base : Stored) (who : List ℕ) (into : Option (List ℕ)) (s : Paused) (items : List ReadItem) (a : Asked) (p : Phase) (units : ℕ)
    (m : Machine) (o : Changes) (noted : List ReadItem) (taken : ℕ) (value : Option Value) (stop : Stop) → LeadsAheadOrToUnit image → IsAt image base who into s items a p
    → sliced_at image base units a p ≡ stops_so (table_of_image image) (content_of base) a.request a.entry a.reads (Some stop)
    → run_in image (steps_left image p) units p ≡ Some stop → SameStop (Some stop) (Some (stop_told m base.objects o (Finished value)))
    → ReadSame (items ++ reads_of o) noted → taken ≡ (world_of (phase_of m base.objects o)).taken
    → FinishesAt image base units a p value o taken noted
finished_by image base who into s items a p units m o noted taken value (paused y) ahead k is h same all t = absurd same
finished_by image base who into s items a p units m o noted taken value (over (machine.aborted other sp)) ahead k is h same all t = absurd same
finished_by image base who into s items a p units m o noted taken value (over (machine.ended result w)) ahead k is h same all t =
    let table = table_of_image image in
    let c = content_of base in
    let there = comes_there image base a p units (over (machine.ended result w)) k.reached h in
    let out = outcome_is image (started image k.reached.start c.objects a.fuel) there.number (machine.ended result w) ahead there.by in
    record {
      world = w;
      end = record {
        comes = subst (λ r. ComesTo c (done_with (reply_of_result r) c (puts_after c a.entry r) w a.reads) (ended_so base a r w)) (sym same.0)
            (put_is c (reply_of_result result) (puts_after c a.entry result) w a.reads
            (ended_stands image k.reached.start c.objects a.fuel there.number result w there.by));
        objects = sym same.1.objects;
        made = sym same.1.made;
        taken = sym (t ∙ units_taken m base.objects o ∙ same.1.taken);
        read = same.1.reads;
        noted = read_over w.reads (reads_of o) a.reads noted same.1.reads
            (read_on (world_of p).reads w.reads (reads_of o) a.reads items noted k.noted k.within all same.1.reads
            (grows_to image base a p units (over (machine.ended result w)) k.reached h));
      };
      is = is ∙ ap (λ r. ended_so base a r w) (sym same.0);
      limits = within_limits table c a.entry a.reads (gives result w) value base.objects o
          (subst (λ x. IsInLimits (ended table c a.entry a.reads x)) out k.reached.limits) (sym same.0, sym same.1.objects);
    }

pub goes_finished : (image : Image) (base : Stored) (who : List ℕ) (into : Option (List ℕ)) (s : Paused) (items : List ReadItem) (a : Asked) (p : Phase) (units : ℕ)
    (m : Machine) (o : Changes) (noted : List ReadItem) (taken : ℕ) (value : Option Value) → LeadsAheadOrToUnit image → IsAt image base who into s items a p
    → StopsSo image units (phase_of s.machine base.objects s.overlay) (stop_told m base.objects o (Finished value))
    → ReadSame (items ++ reads_of o) noted → taken ≡ (world_of (phase_of m base.objects o)).taken
    → FinishesAt image base units a p value o taken noted
goes_finished image base who into s items a p units m o noted taken value ahead k h all t =
    let x = stops_at image base who into s items a p units (stop_told m base.objects o (Finished value)) ahead k h in
    finished_by image base who into s items a p units m o noted taken value x.stop ahead k x.is x.runs x.same all t
