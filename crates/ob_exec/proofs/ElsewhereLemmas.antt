-- A paused run on what another store holds.
use Rattle.std.proofs.Common.{◌≡◌, ℕ, zero, suc, ◌+◌, Bool, true, false, List, [], ◌∷◌, ◌++◌, length, map, drop, take, Option, Some, None, inl, inr, refl, sym, ap, subst, ◌∙◌, arith}
use Rattle.std.specs.Prelude.{nat_eq, ◌||◌, Contains, slice_get, option_map}
use Rattle.std.specs.List.{list_any}
use Rattle.std.specs.Option.{unwrap_or}
use Rattle.std.proofs.Math.Seq.{take-append_seam, drop-append_seam}
use Rattle.std.proofs.lemmas.List.{map-append, length-map}
use Rattle.std.proofs.lemmas.List.Elements.{Contains-append_cases, Contains-append_right}
use Rattle.std.proofs.lemmas.Bool.{eqb-true, false≢true}
use Rattle.ob_verify_spec.proofs.Cells.{none_some, some_same}
use Rattle.ob_heap_spec.specs.Contents.{Content, object_at}
use Rattle.ob_heap_spec.specs.Objects as plain
use Rattle.ob_heap_spec.specs.Worlds.{World, ReadItem, object_item, next_item, AllRead, ReadSame, SameWorld}
use Rattle.ob_heap.specs.declared.object.Object.{Object}
use Rattle.ob_heap.specs.Contents.{Stored, content_of}
use Rattle.ob_heap.specs.Overlays.{Changes, objects_over, is_read, changed_at, AreChangesRead, laid_from}
use Rattle.ob_heap.specs.Plain.{object_of}
use Rattle.ob_heap.proofs.OverlaysLemmas.{length-laid}
use Rattle.ob_rest_spec.specs.AtRest.{IsStoreAtRest}
use Rattle.ob_invocation_spec.specs.Entries.{Entry, handle_uses}
use Rattle.ob_invocation_spec.specs.Replies.{Invocation}
use Rattle.ob_invocation_spec.specs.Requests.{Request, NewRequest, CallRequest}
use Rattle.ob_invocation_laws.specs.Laws.{KeepsStoreAtRest}
use Rattle.ob_code.specs.declared.image.Image.{Image}
use Rattle.ob_code_table.specs.ImageTables.{table_of_image}
use Rattle.ob_table.specs.Tables.{ClassTable}
use Rattle.ob_machine_meaning.specs.Meanings.{machine_invocation}
use Rattle.ob_machine_steps.specs.Entries.{Phase, starting, running}
use Rattle.ob_machine_steps.specs.Measures.{LeadsAheadOrToUnit}
use Rattle.ob_machine_steps.specs.Runs.{world_of}
use Rattle.ob_machine_laws.specs.Laws.{SamePhase}
use Rattle.ob_request_run_laws.specs.Locality.{onto, phase_onto}
use Rattle.ob_machine_parts.specs.Shown.{next_read}
use Rattle.ob_machine_parts.specs.Shown as shown_of
use Rattle.ob_machine.specs.Phases.{phase_of, phase_at}
use Rattle.ob_machine.specs.Shown.{shown}
use Rattle.ob_machine.specs.declared.entry.Entry.{Entry as CodeEntry}
use Rattle.ob_machine.specs.declared.run.Run.{Run as MachineRun}
use Rattle.ob_request_run_laws.specs.Held.{Held, found}
use Rattle.ob_request_run_laws.specs.Held as held
use Rattle.ob_request_run_laws.specs.Runs.{Run, opened, paused, answered, lost, reads_of_run}
use Rattle.ob_request_run_laws.specs.Slices.{entry_of}
use Rattle.ob_request_run_laws.specs.Laws.{AgreeOn, OwnsAlike}
use Rattle.ob_request_run_laws.proofs.Checks.{new_entry_found, call_entry_found, call_on_found}
use Rattle.ob_request_run_laws.proofs.Found.{IsEntryFound, call_same, uses_same}
use Rattle.ob_request_run_laws.proofs.Laid.{IsHeld, lists_same}
use Rattle.ob_request_run_laws.proofs.Requests.{requests_are_local}
use Rattle.ob_request_run_laws.proofs.Whole.{phase_reads, phase_objects, IsAsked, IsPause, IsSoFar, slices_so}
use Rattle.ob_wire.specs.Meanings.{argument_meant, operation_of, request_of}
use Rattle.ob_wire.specs.declared.request.Op.{Op}
use Rattle.ob_wire.specs.declared.request.Op.TheVariants.{New, Call, Disown, Give, See, Owner}
use Rattle.ob_exec_entries.specs.Entering.{use_of}
use Rattle.ob_exec_handles.proofs.SpendingLemmas.{all_itself, all_left, all_right}
use Rattle.ob_exec.specs.Laws.{IsPaused, PausedRunsStandElsewhere}
use Rattle.ob_exec.specs.Pausing.{StandsPaused, StandsAt, RunRepresents, run_of}
use Rattle.ob_exec.specs.declared.runs.Run.{Run as CodeRun}
use Rattle.ob_exec.specs.declared.stage.Paused.{Paused}
use Rattle.ob_exec.specs.declared.stage.Stage.{Stage}
use Rattle.ob_exec.specs.declared.stage.Stage.TheVariants as stage
use Rattle.ob_exec.proofs.GoingLemmas.{same_world, reads_shown}

-- What is read through an overlay.

among_reads : (n : ℕ) (ns : List ℕ) → list_any (nat_eq n) ns ≡ true → Contains (map object_item ns) (object_item n)
among_reads n [] e = absurd cc
among_reads n (m ∷ ns) e = by (nat_eq n m) refl e (among_reads n ns)
  where
    by : (b : Bool) → nat_eq n m ≡ b → (b || list_any (nat_eq n) ns) ≡ true → (list_any (nat_eq n) ns ≡ true → Contains (map object_item ns) (object_item n))
        → Contains (object_item m ∷ map object_item ns) (object_item n)
    by true f g ih = subst (λ k. Contains (object_item m ∷ map object_item ns) (object_item k)) (sym (eqb-true n m f)) (0, omega arith, refl)
    by false f g ih = Contains-append_right (object_item m ∷ []) (map object_item ns) (object_item n) (ih g)

reads_among : (n : ℕ) (ns : List ℕ) → Contains (map object_item ns) (object_item n) → list_any (nat_eq n) ns ≡ true
reads_among n [] (k, h, e) = absurd (omega (arith, h))
reads_among n (m ∷ ns) (zero, h, e) =
    let k : m ≡ n = cc in
    let same : nat_eq n m ≡ true = grind (arith, k) in
    ap (λ b. b || list_any (nat_eq n) ns) same
reads_among n (m ∷ ns) (suc k, h, e) = by (nat_eq n m) (reads_among n ns (k, omega (arith, h), e))
  where
    by : (b : Bool) → list_any (nat_eq n) ns ≡ true → (b || list_any (nat_eq n) ns) ≡ true
    by true f = refl
    by false f = f

not_next : (n : ℕ) (b : Bool) → Contains (next_read b) (object_item n) → ⊥
not_next n true (zero, h, e) = absurd cc
not_next n true (suc k, h, e) = omega (arith, h)
not_next n false (k, h, e) = omega (arith, h)

read_is : (n : ℕ) (o : Changes) → is_read n o ≡ true → Contains (shown_of.reads_of o) (object_item n)
read_is n o e = Contains-append_right (next_read o.next) (map object_item o.reads) (object_item n) (among_reads n o.reads e)

is_read_of : (n : ℕ) (o : Changes) → Contains (shown_of.reads_of o) (object_item n) → is_read n o ≡ true
is_read_of n o c =
    elim (Contains-append_cases (next_read o.next) (map object_item o.reads) (object_item n) c) as (λ s. is_read n o ≡ true)
    [ inl next ↦ absurd (not_next n o.next next) | inr item ↦ reads_among n o.reads item ]

-- Objects with others laid over them, place by place.

-- of the code
over_get : (es : List (ℕ × Object)) (k : ℕ) (base : List Object) (n : ℕ)
    → slice_get (map object_of (laid_from es k base)) n
    ≡ option_map (λ x. unwrap_or (option_map object_of (changed_at (k + n) es)) x) (slice_get (map object_of base) n)
over_get es k [] n = refl
over_get es k (o ∷ os) zero = ap Some (by (changed_at k es)) ∙ ap (λ m. Some (unwrap_or (option_map object_of (changed_at m es)) (object_of o))) (omega arith)
  where
    by : (x : Option Object) → object_of (unwrap_or x o) ≡ unwrap_or (option_map object_of x) (object_of o)
    by None = refl
    by (Some e) = refl
over_get es k (o ∷ os) (suc n) =
    over_get es (suc k) os n
    ∙ ap (λ m. option_map (λ x. unwrap_or (option_map object_of (changed_at m es)) x) (slice_get (map object_of os) n)) (omega arith)

over_at : (es : List (ℕ × Object)) (base : List Object) (n : ℕ)
    → slice_get (map object_of (laid_from es 0 base)) n ≡ option_map (λ x. unwrap_or (option_map object_of (changed_at n es)) x) (slice_get (map object_of base) n)
over_at es base n =
    over_get es 0 base n ∙ ap (λ m. option_map (λ x. unwrap_or (option_map object_of (changed_at m es)) x) (slice_get (map object_of base) n)) (omega arith)

-- of the plain run
held_get : (es : List (ℕ × plain.Object)) (k : ℕ) (base : List plain.Object) (n : ℕ)
    → slice_get (held.laid_from es k base) n ≡ option_map (λ x. unwrap_or (found (k + n) es) x) (slice_get base n)
held_get es k [] n = refl
held_get es k (o ∷ os) zero = ap (λ m. Some (unwrap_or (found m es) o)) (omega arith)
held_get es k (o ∷ os) (suc n) =
    held_get es (suc k) os n ∙ ap (λ m. option_map (λ x. unwrap_or (found m es) x) (slice_get os n)) (omega arith)

held_at : (es : List (ℕ × plain.Object)) (base : List plain.Object) (n : ℕ)
    → slice_get (held.laid_from es 0 base) n ≡ option_map (λ x. unwrap_or (found n es) x) (slice_get base n)
held_at es base n = held_get es 0 base n ∙ ap (λ m. option_map (λ x. unwrap_or (found m es) x) (slice_get base n)) (omega arith)

held_length : (es : List (ℕ × plain.Object)) (k : ℕ) (base : List plain.Object) → length (held.laid_from es k base) ≡ length base
held_length es k [] = refl
held_length es k (o ∷ os) = let e = held_length es (suc k) os in omega (arith, e)

over_length : (es : List (ℕ × Object)) (base : List Object) → length (map object_of (laid_from es 0 base)) ≡ length (map object_of base)
over_length es base = length-map (laid_from es 0 base) object_of ∙ length-laid es 0 base ∙ sym (length-map base object_of)

same_option : {A : Type 0} (o : Option A) → option_map (λ x. x) o ≡ o
same_option None = refl
same_option (Some x) = refl

none_found : (x : Option plain.Object) → ((o : plain.Object) → x ≡ Some o → ⊥) → x ≡ None
none_found None h = refl
none_found (Some o) h = absurd (h o refl)

-- Two lists in two parts, of which the first ones are as long.

first_parts : {A : Type 0} (xs ys ms ns : List A) → length xs ≡ length ys → xs ++ ms ≡ ys ++ ns → xs ≡ ys
first_parts xs ys ms ns l e = sym (take-append_seam xs ms) ∙ ap (take (length xs)) e ∙ ap (λ k. take k (ys ++ ns)) l ∙ take-append_seam ys ns

last_parts : {A : Type 0} (xs ys ms ns : List A) → length xs ≡ length ys → xs ++ ms ≡ ys ++ ns → ms ≡ ns
last_parts xs ys ms ns l e = sym (drop-append_seam xs ms) ∙ ap (drop (length xs)) e ∙ ap (λ k. drop k (ys ++ ns)) l ∙ drop-append_seam ys ns

-- What a run has of its content, on another that agrees on what was read.

-- an object that was read is the same by both on the other store, as it is on the first
here_same : (o : Changes) (h : Held) (base other : List Object) (n : ℕ) → map object_of (laid_from o.changed 0 base) ≡ held.laid_from h.read 0 (map object_of base)
    → object_at (map object_of other) n ≡ object_at (map object_of base) n
    → slice_get (map object_of (laid_from o.changed 0 other)) n ≡ slice_get (held.laid_from h.read 0 (map object_of other)) n
here_same o h base other n same agree =
    over_at o.changed other n ∙ ap (option_map (λ x. unwrap_or (option_map object_of (changed_at n o.changed)) x)) agree ∙ sym (over_at o.changed base n)
    ∙ ap (λ xs. slice_get xs n) same
    ∙ held_at h.read (map object_of base) n ∙ ap (option_map (λ x. unwrap_or (found n h.read) x)) (sym agree) ∙ sym (held_at h.read (map object_of other) n)

-- one that wasn't is the other store's own
unread_same : (o : Changes) (h : Held) (other : List Object) (n : ℕ) → changed_at n o.changed ≡ None → found n h.read ≡ None
    → slice_get (map object_of (laid_from o.changed 0 other)) n ≡ slice_get (held.laid_from h.read 0 (map object_of other)) n
unread_same o h other n e f =
    over_at o.changed other n ∙ ap (λ y. option_map (λ x. unwrap_or (option_map object_of y) x) (slice_get (map object_of other) n)) e
    ∙ sym (ap (λ y. option_map (λ x. unwrap_or y x) (slice_get (map object_of other) n)) f) ∙ sym (held_at h.read (map object_of other) n)

each_same : (o : Changes) (h : Held) (read items : List ReadItem) (base other : List Object) (n : ℕ) → AreChangesRead o → IsHeld read h → ReadSame read (shown_of.reads_of o)
    → AllRead read items → ((m : ℕ) → Contains items (object_item m) → object_at (map object_of other) m ≡ object_at (map object_of base) m)
    → map object_of (laid_from o.changed 0 base) ≡ held.laid_from h.read 0 (map object_of base) → (b : Bool) → is_read n o ≡ b
    → slice_get (map object_of (laid_from o.changed 0 other)) n ≡ slice_get (held.laid_from h.read 0 (map object_of other)) n
each_same o h read items base other n unread is_held same all agree is true e =
    here_same o h base other n is (agree n (all (object_item n) (same.1 (object_item n) (read_is n o e))))
each_same o h read items base other n unread is_held same all agree is false e =
    unread_same o h other n (unread n e)
    (none_found (found n h.read) (λ x f. false≢true (sym e ∙ is_read_of n o (same.0 (object_item n) (is_held.read n x f)))))

objects_elsewhere : (o : Changes) (h : Held) (read items : List ReadItem) (base other : List Object) → AreChangesRead o → IsHeld read h → ReadSame read (shown_of.reads_of o)
    → AllRead read items → ((m : ℕ) → Contains items (object_item m) → object_at (map object_of other) m ≡ object_at (map object_of base) m)
    → objects_over base o ≡ held.laid_over (map object_of base) h → objects_over other o ≡ held.laid_over (map object_of other) h
objects_elsewhere o h read items base other unread is_held same all agree is =
    let xs = map object_of (laid_from o.changed 0 base) in
    let ys = held.laid_from h.read 0 (map object_of base) in
    let split : xs ++ map object_of o.made ≡ ys ++ h.made = sym (map-append object_of (laid_from o.changed 0 base) o.made) ∙ is in
    let long : length xs ≡ length ys = over_length o.changed base ∙ sym (held_length h.read 0 (map object_of base)) in
    map-append object_of (laid_from o.changed 0 other) o.made
    ∙ ap (λ zs. zs ++ map object_of o.made)
    (sym (lists_same (map object_of (laid_from o.changed 0 other)) (held.laid_from h.read 0 (map object_of other))
    (λ n. sym (each_same o h read items base other n unread is_held same all agree (first_parts xs ys (map object_of o.made) h.made long split) (is_read n o) refl))))
    ∙ ap (λ ms. held.laid_from h.read 0 (map object_of other) ++ ms) (last_parts xs ys (map object_of o.made) h.made long split)

-- The same place on other objects.

world_elsewhere : (w : World) (xs ys : List plain.Object) (m : MachineRun) (base other : List Object) (o : Changes)
    → SameWorld (onto xs w) (shown m base o).world → objects_over other o ≡ ys → SameWorld (onto ys w) (shown m other o).world
world_elsewhere w xs ys m base other o s e = record {
  objects = e;
  made = s.made;
  locked = s.locked;
  progress = s.progress;
  fuel = s.fuel;
  taken = s.taken;
  reads = s.reads;
}

phase_elsewhere : (p : Phase) (xs ys : List plain.Object) (en : Option CodeEntry) (m : MachineRun) (base other : List Object) (o : Changes)
    → SamePhase (phase_onto xs p) (phase_at en (shown m base o)) → objects_over other o ≡ ys → SamePhase (phase_onto ys p) (phase_at en (shown m other o))
phase_elsewhere (starting e w) xs ys None m base other o s f = absurd s
phase_elsewhere (starting e w) xs ys (Some en) m base other o s f = (s.0, world_elsewhere w xs ys m base other o s.1 f)
phase_elsewhere (running c) xs ys None m base other o s f =
    record { top = s.top; below = s.below; world = world_elsewhere c.world xs ys m base other o s.world f }
phase_elsewhere (running c) xs ys (Some en) m base other o s f = absurd s

-- What is entered there.

record IsEnteredAlike (table : ClassTable) (c d : Content) (who : List ℕ) (op : Op) (e : Entry) : Type 0 where
  found : entry_of table d who (operation_of op) ≡ Some e
  entry : IsEntryFound c d e
  owns : OwnsAlike table c d who (operation_of op)

entered_alike : (image : Image) (items : List ReadItem) (c d : Content) (who : List ℕ) (op : Op) (reads : List ReadItem) (e : Entry) → AgreeOn items c d
    → IsAsked image c (record { who = who; operation = operation_of op }) reads e → AllRead reads items → IsEnteredAlike (table_of_image image) c d who op e
entered_alike image items c d who (New contract args into) reads e a k all =
    let r : NewRequest = record { contract = contract; args = map argument_meant args; into = into } in
    record {
      found = k.found;
      entry = new_entry_found items (table_of_image image) c d who r e a k.passed (subst (λ x. AllRead x items) k.told all) k.found;
      owns = tt;
    }
entered_alike image items c d who (Call on tx args into) reads e a k all =
    let r : CallRequest = record { on = on; tx = tx; args = map argument_meant args; into = into } in
    let read = subst (λ x. AllRead x items) k.told all in
    record {
      found = call_same (table_of_image image) c d who r (call_on_found items (table_of_image image) c d who r a read) ∙ k.found;
      entry = call_entry_found items (table_of_image image) c d who r e a k.passed read k.found;
      owns = tt;
    }
entered_alike image items c d who (Disown on) reads e a k all = absurd (none_some k.found)
entered_alike image items c d who (Give on to into mode) reads e a k all = absurd (none_some k.found)
entered_alike image items c d who (See on) reads e a k all = absurd (none_some k.found)
entered_alike image items c d who (Owner on) reads e a k all = absurd (none_some k.found)

agree_less : (a b : List ReadItem) (c d : Content) → AllRead a b → AgreeOn b c d → AgreeOn a c d
agree_less a b c d h g = record {
  objects = record { objects = λ n k. g.objects.objects n (h (object_item n) k); next = λ k. g.objects.next (h next_item k) };
  handles = λ name k. g.handles name (h _ k);
  full = λ k. g.full (h _ k);
}

-- The paused run.

record Elsewhere (image : Image) (base other : Stored) (who : List ℕ) (op : Op) (x : Request) (p : Phase) (h : Held) (s : Paused) : Type 0 where
  owns : OwnsAlike (table_of_image image) (content_of base) (content_of other) who (operation_of op)
  stands : StandsPaused image other x p h s

paused_elsewhere : (image : Image) (fuel : ℕ) (base other : Stored) (who : List ℕ) (op : Op) (i : Invocation) (x : Request) (reads : List ReadItem) (p : Phase) (h : Held)
    (s : Paused) → IsPause image fuel (content_of base) (record { who = who; operation = operation_of op }) i x reads p h
    → AgreeOn ((world_of p).reads ++ reads) (content_of base) (content_of other) → StandsPaused image base x p h s
    → Elsewhere image base other who op x p h s
paused_elsewhere image fuel base other who op i x reads p h s so agree at =
    let c = content_of base in
    let d = content_of other in
    let items = (world_of p).reads ++ reads in
    let on = subst (λ y. StandsPaused image base y p h s) so.request at in
    let entry : on.entry ≡ so.entry = some_same (sym on.enters ∙ so.asked.found) in
    let alike = entered_alike image items c d who op reads so.entry agree so.asked (all_right (world_of p).reads reads reads (all_itself reads)) in
    let world = same_world (phase_onto (held.laid_over c.objects h) p) (phase_of s.machine base.objects s.overlay) on.phase in
    let read : ReadSame (world_of p).reads (shown_of.reads_of s.overlay) =
    subst (λ rs. ReadSame rs (shown_of.reads_of s.overlay)) (phase_reads p (held.laid_over c.objects h))
    (subst (ReadSame (world_of (phase_onto (held.laid_over c.objects h) p)).reads) (reads_shown s.machine base.objects s.overlay) world.reads) in
    let objects : objects_over base.objects s.overlay ≡ held.laid_over c.objects h =
    sym (shown_objects s base.objects) ∙ world.objects ∙ phase_objects p (held.laid_over c.objects h) in
    record {
      owns = alike.owns;
      stands = subst (λ y. StandsPaused image other y p h s) (sym so.request) (record {
        entry = so.entry;
        enters = alike.found;
        uses = subst (λ e. map (use_of who) s.uses ≡ handle_uses c e) entry on.uses ∙ sym (uses_same c d so.entry alike.entry);
        given = on.given ∙ ap (λ (e : Entry). e.given) entry;
        phase = phase_elsewhere p (held.laid_over c.objects h) (held.laid_over d.objects h) s.machine.entry s.machine.run base.objects other.objects s.overlay on.phase
            (objects_elsewhere s.overlay h (world_of p).reads items base.objects other.objects on.unread so.held read
            (all_left_of (world_of p).reads reads) agree.objects.objects objects);
        unread = on.unread;
      });
    }
  where
    shown_objects : (s : Paused) (base : List Object) → (world_of (phase_of s.machine base s.overlay)).objects ≡ objects_over base s.overlay
    shown_objects s base = by s.machine.entry
      where
        by : (e : Option CodeEntry) → (world_of (phase_at e (shown s.machine.run base s.overlay))).objects ≡ objects_over base s.overlay
        by None = refl
        by (Some e) = refl

    all_left_of : (xs ys : List ReadItem) → AllRead xs (xs ++ ys)
    all_left_of xs ys = all_left xs ys xs (all_itself xs)

stands_by : (image : Image) (fuel : ℕ) (base other : Stored) (given : List ℕ) (run : CodeRun) (r : Run) (s : Paused) → LeadsAheadOrToUnit image
    → IsStoreAtRest (table_of_image image) (content_of base)
    → KeepsStoreAtRest (table_of_image image) (machine_invocation image (content_of base) (request_of run.request) fuel)
    → run_of image fuel base given run.request ≡ r
    → IsSoFar image fuel (content_of base) (request_of run.request) (machine_invocation image (content_of base) (request_of run.request) fuel) r
    → AgreeOn (reads_of_run r) (content_of base) (content_of other) → StandsAt image base r (stage.Paused s)
    → (run_of image fuel other given run.request ≡ r) × StandsAt image other r (stage.Paused s)
stands_by image fuel base other given run (opened q) s ahead rest keeps is so agree at = absurd at
stands_by image fuel base other given run (paused x reads p h) s ahead rest keeps is so agree at =
    let there = paused_elsewhere image fuel base other run.request.who run.request.op
    (machine_invocation image (content_of base) (request_of run.request) fuel) x reads p h s so agree at in (
      requests_are_local image fuel (content_of base) (content_of other) (request_of run.request) given ahead rest keeps
          (subst (λ y. AgreeOn (reads_of_run y) (content_of base) (content_of other)) (sym is) agree) there.owns ∙ is,
      there.stands,
    )
stands_by image fuel base other given run (answered a) s ahead rest keeps is so agree at = absurd at
stands_by image fuel base other given run lost s ahead rest keeps is so agree at = absurd at

-- by what it is paused in
stage_by : (image : Image) (fuel : ℕ) (base other : Stored) (given : List ℕ) (run : CodeRun) (t : Stage) → LeadsAheadOrToUnit image
    → IsStoreAtRest (table_of_image image) (content_of base)
    → KeepsStoreAtRest (table_of_image image) (machine_invocation image (content_of base) (request_of run.request) fuel)
    → IsPaused t → AgreeOn run.state.reads (content_of base) (content_of other) → run.state.stage ≡ t
    → RunRepresents image base (run_of image fuel base given run.request) run.state
    → RunRepresents image other (run_of image fuel other given run.request) run.state
stage_by image fuel base other given run (stage.Paused s) ahead rest keeps is agree e k =
    let r = run_of image fuel base given run.request in
    let so = slices_so image fuel (content_of base) (request_of run.request) (machine_invocation image (content_of base) (request_of run.request) fuel) given
    (opened (request_of run.request)) ahead (refl, refl) in
    let there = stands_by image fuel base other given run r s ahead rest keeps refl so
    (agree_less (reads_of_run r) run.state.reads (content_of base) (content_of other) k.reads.0 agree) (subst (StandsAt image base r) e k.at) in
    subst (λ x. RunRepresents image other x run.state) (sym there.0)
    (record { at = subst (StandsAt image other r) (sym e) there.1; reads = k.reads; taken = k.taken })
stage_by image fuel base other given run (stage.Answered a) ahead rest keeps is agree e k = absurd is
stage_by image fuel base other given run stage.Over ahead rest keeps is agree e k = absurd is

pub stand_elsewhere : PausedRunsStandElsewhere
stand_elsewhere image fuel base other given run ahead rest keeps is agree k =
    stage_by image fuel base other given run run.state.stage ahead rest keeps is agree refl k
