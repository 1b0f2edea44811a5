-- Slices on one content come to the invocation.
use Rattle.std.proofs.Common.{◌≡◌, ℕ, ◌+◌, ◌≤◌, List, [], ◌∷◌, ◌++◌, length, Option, Some, None, refl, sym, ap, ◌∙◌, subst, arith}
use Rattle.std.specs.Prelude.{option_map}
use Rattle.std.specs.Option.{option_map_or}
use Rattle.ob_base.specs.declared.id.TxId.{TxId}
use Rattle.ob_table.specs.Tables.{ClassTable}
use Rattle.ob_heap_spec.specs.Objects.{Object}
use Rattle.ob_heap_spec.specs.Contents.{HandleName, Handle, Content}
use Rattle.ob_heap_spec.specs.Worlds.{ReadItem, wrong, first_world}
use Rattle.ob_heap_spec.specs.Handles.{handle_at, without_handle}
use Rattle.ob_rest_spec.specs.Incoming.{IncomingReference, owner_of}
use Rattle.ob_invocation_spec.specs.Checks.{Check, refusal_of, reads_of, unless_refused, refused_or, with_found}
use Rattle.ob_invocation_spec.specs.Entering.{first_outside_use, run_entry, puts_after}
use Rattle.ob_invocation_spec.specs.Entries.{HandleUse, Entry, values_of, entry_of_new, entry_of_call}
use Rattle.ob_invocation_spec.specs.Handles.{handle_name}
use Rattle.ob_invocation_spec.specs.Invocation.{ended, after_entry_test, enter_entry, still_world, disowned_world, disown_handle, show_object, show_owner, show_owner_of, puts_of_give, give_from}
use Rattle.ob_invocation_spec.specs.Invocation as invocation
use Rattle.ob_invocation_spec.specs.Refusals.{handle_check, new_checks, call_checks, give_checks}
use Rattle.ob_invocation_spec.specs.Replies.{Refusal, ok_nothing, ok_shown, Invocation, invoked, goes_wrong}
use Rattle.ob_invocation_spec.specs.Requests.{Operation, new_request, call_request, disown_request, give_request, see_request, owner_request, Request}
use Rattle.ob_invocation_spec.specs.Showing.{shown_at, shown_place, place_item}
use Rattle.ob_code.specs.declared.image.Image.{Image}
use Rattle.ob_machine_steps.specs.Configurations.{End}
use Rattle.ob_machine_steps.specs.Configurations as machine
use Rattle.ob_machine_steps.specs.Entries.{MachineEntry, Phase, starting, running, started}
use Rattle.ob_code_table.specs.Images.{constructor_of}
use Rattle.ob_code_table.specs.ImageTables.{table_of_image}
use Rattle.ob_machine_meaning.specs.Meanings.{machine_meaning, machine_invocation, entry_of_request}
use Rattle.ob_machine_steps.specs.Outcomes.{outcome_of, outcome_at, outcome, entry_outcome, entry_of_constructor}
use Rattle.ob_machine_steps.specs.Measures.{steps_left, LeadsAheadOrToUnit}
use Rattle.ob_machine_steps.specs.Runs.{Stop, over, after_steps, run_in, world_of}
use Rattle.ob_machine_steps.specs.Runs as steps
use Rattle.ob_machine_laws.proofs.Ending.{over_in}
use Rattle.ob_request_run_laws.specs.Locality.{phase_onto}
use Rattle.ob_request_run_laws.proofs.Lists.{none_is_some, some_is_none, some_is}
use Rattle.ob_request_run_laws.specs.Held.{Held, laid_over, held_by}
use Rattle.ob_request_run_laws.specs.Runs.{Run, opened, paused, answered, lost, puts_in, invoked_by}
use Rattle.ob_request_run_laws.specs.Slices.{ends_so, stops_so, sliced, with_thing, body_number, entered, begins, with_handle, disowns, sees, shows_owner, asks_owner, opens, entry_of, slice, slices}
use Rattle.ob_request_run_laws.specs.Slices as run
use Rattle.ob_request_run_laws.specs.Laws.{ComesTo}
use Rattle.ob_request_run_laws.proofs.Laid.{IsHeld, held_is, laid_back}
use Rattle.ob_request_run_laws.proofs.Steps.{IsSome, steps_add, rest_over, in_steps, slice_some}
use Rattle.ob_request_run_laws.proofs.Standing.{first_stands, disown_stands, paused_stands, ended_stands, unchanged_is, done_is, put_is}

pub phase_twice : (p : Phase) (ys zs : List Object) → phase_onto ys (phase_onto zs p) ≡ phase_onto ys p
phase_twice (starting e w) ys zs = refl
phase_twice (running c) ys zs = refl

pub phase_reads : (p : Phase) (ys : List Object) → (world_of (phase_onto ys p)).reads ≡ (world_of p).reads
phase_reads (starting e w) ys = refl
phase_reads (running c) ys = refl

pub phase_objects : (p : Phase) (ys : List Object) → (world_of (phase_onto ys p)).objects ≡ ys
phase_objects (starting e w) ys = refl
phase_objects (running c) ys = refl

pub onto_self : (p : Phase) → phase_onto (world_of p).objects p ≡ p
onto_self (starting e w) = refl
onto_self (running c) = refl

-- what is asked of a `new` or a `call`
abbrev pub checks_of : ClassTable → Content → List ℕ → Operation → List Check
checks_of table c who (new_request r) = new_checks table c who r
checks_of table c who (call_request r) = call_checks table c who r
checks_of table c who operation = []

-- a request has passed its checks, which have read this, and enters this
pub record IsAsked (image : Image) (c : Content) (q : Request) (reads : List ReadItem) (e : Entry) : Type 0 where
  pub found : entry_of (table_of_image image) c q.who q.operation ≡ Some e
  pub passed : refusal_of (checks_of (table_of_image image) c q.who q.operation) ≡ None
  pub told : reads ≡ reads_of (checks_of (table_of_image image) c q.who q.operation)

-- A run that is paused on a content is the run of the machine there, so far.
pub record IsPause (image : Image) (fuel : ℕ) (c : Content) (q : Request) (i : Invocation) (r : Request) (reads : List ReadItem) (p : Phase) (h : Held) : Type 0 where
  pub request : r ≡ q
  pub entry : Entry
  pub start : MachineEntry
  pub asked : IsAsked image c q reads entry
  pub held : IsHeld (world_of p).reads h
  pub is : i ≡ ended (table_of_image image) c entry reads (outcome image (started image start c.objects fuel))
  pub number : ℕ
  pub reaches : after_steps image number (started image start c.objects fuel) ≡ Some (steps.paused (phase_onto (laid_over c.objects h) p))

-- a run so far, of a request that comes to this on a content
abbrev pub IsSoFar : Image → ℕ → Content → Request → Invocation → Run → Type 0
IsSoFar image fuel c q i (opened r) = (r ≡ q) × (i ≡ machine_invocation image c q fuel)
IsSoFar image fuel c q i (paused r reads p h) = IsPause image fuel c q i r reads p h
IsSoFar image fuel c q i (answered a) = i ≡ invoked (invoked_by c a)
IsSoFar image fuel c q i lost = i ≡ goes_wrong

-- The end of a body.

end_so : (image : Image) (fuel : ℕ) (c : Content) (q : Request) (e : Entry) (m : MachineEntry) (reads : List ReadItem) (k : ℕ) (x : End) → after_steps image k (started image m c.objects fuel) ≡ Some (over x)
    → IsSoFar image fuel c q (ended (table_of_image image) c e reads (outcome_of x)) (ends_so (table_of_image image) c e reads x)
end_so image fuel c q e m reads k (machine.ended result w) h = put_is c _ (puts_after c e result) w reads (ended_stands image m c.objects fuel k result w h)
end_so image fuel c q e m reads k (machine.aborted cause s) h = unchanged_is c _ s.taken (s.reads ++ reads)

pub outcome_is : (image : Image) (p : Phase) (k : ℕ) (x : End) → LeadsAheadOrToUnit image → after_steps image k p ≡ Some (over x) → outcome image p ≡ outcome_of x
outcome_is image p k x ahead h = ap outcome_at (over_in image k p x (steps_left image p) ahead h (let e : steps_left image p ≤ steps_left image p = omega arith in e))

-- without a place to stop within its measure a run goes wrong
none_wrong : (image : Image) (s p : Phase) (k units : ℕ) → LeadsAheadOrToUnit image → after_steps image k s ≡ Some (steps.paused p) → run_in image (steps_left image p) units p ≡ None → (o : Option Stop) → after_steps image (steps_left image s) s ≡ o
    → outcome_at o ≡ wrong
none_wrong image s p k units ahead h none None e = refl
none_wrong image s p k units ahead h none (Some (steps.paused q)) e = refl
none_wrong image s p k units ahead h none (Some (over x)) e =
    let rest = rest_over image k (steps_left image s) s p x h e in
    absurd (subst IsSome none (slice_some image (steps_left image p) units p x (over_in image rest.0 p x (steps_left image p) ahead rest.1 (let l : steps_left image p ≤ steps_left image p = omega arith in l))))

-- A slice.

sliced_so : (image : Image) (fuel : ℕ) (c : Content) (q : Request) (units : ℕ) (i : Invocation) (e : Entry) (m : MachineEntry) (reads : List ReadItem) (k : ℕ) (p : Phase) → LeadsAheadOrToUnit image
    → IsAsked image c q reads e → i ≡ ended (table_of_image image) c e reads (outcome image (started image m c.objects fuel))
    → after_steps image k (started image m c.objects fuel) ≡ Some (steps.paused p) → (o : Option Stop) → run_in image (steps_left image p) units p ≡ o → IsSoFar image fuel c q i (stops_so (table_of_image image) c q e reads o)
sliced_so image fuel c q units i e m reads k p ahead asked is h None none =
    is ∙ ap (ended (table_of_image image) c e reads) (none_wrong image (started image m c.objects fuel) p k units ahead h none (after_steps image (steps_left image (started image m c.objects fuel)) (started image m c.objects fuel)) refl)
sliced_so image fuel c q units i e m reads k p ahead asked is h (Some (steps.paused x)) f =
    let j = in_steps image (steps_left image p) units p (steps.paused x) f in
    let on = steps_add image k j.0 (started image m c.objects fuel) p (steps.paused x) h j.1 in
    let s = (paused_stands image m c.objects fuel (k + j.0) x on).1 in
    record {
      request = refl;
      entry = e;
      start = m;
      asked = asked;
      held = subst (λ r. IsHeld r (held_by (world_of x))) (sym (phase_reads x [])) (held_is (length c.objects) (world_of x) s.good);
      is = is;
      number = k + j.0;
      reaches = on ∙ ap (λ y. Some (steps.paused y)) (sym (phase_twice x (laid_over c.objects (held_by (world_of x))) [] ∙ ap (λ xs. phase_onto xs x) (laid_back c.objects (world_of x) s.good s.kept) ∙ onto_self x));
    }
sliced_so image fuel c q units i e m reads k p ahead asked is h (Some (over x)) f =
    let j = in_steps image (steps_left image p) units p (over x) f in
    let on = steps_add image k j.0 (started image m c.objects fuel) p (over x) h j.1 in
    subst (λ y. IsSoFar image fuel c q y (ends_so (table_of_image image) c e reads x)) (sym (is ∙ ap (ended (table_of_image image) c e reads) (outcome_is image (started image m c.objects fuel) (k + j.0) x ahead on)))
    (end_so image fuel c q e m reads (k + j.0) x on)

-- The first slice.

with_so : (image : Image) (fuel : ℕ) (c : Content) (q : Request) {A : Type 0} (o : Option A) (f : A → Invocation) (g : A → Run) → ((a : A) → o ≡ Some a → IsSoFar image fuel c q (f a) (g a))
    → IsSoFar image fuel c q (with_found o f) (with_thing o g)
with_so image fuel c q None f g h = refl
with_so image fuel c q (Some a) f g h = h a refl

refused_so : (image : Image) (fuel : ℕ) (c : Content) (q : Request) (o : Option Refusal) (reads : List ReadItem) (f : List ReadItem → Invocation) (g : List ReadItem → Run) → (o ≡ None → IsSoFar image fuel c q (f reads) (g reads))
    → IsSoFar image fuel c q (refused_or c o reads f) (run.refused_or o reads g)
refused_so image fuel c q (Some refusal) reads f g h = unchanged_is c _ 0 reads
refused_so image fuel c q None reads f g h = h refl

unless_so : (image : Image) (fuel : ℕ) (c : Content) (q : Request) (checks : List Check) (f : List ReadItem → Invocation) (g : List ReadItem → Run) → (refusal_of checks ≡ None → IsSoFar image fuel c q (f (reads_of checks)) (g (reads_of checks)))
    → IsSoFar image fuel c q (unless_refused c checks f) (run.unless_refused checks g)
unless_so image fuel c q checks f g h = refused_so image fuel c q (refusal_of checks) (reads_of checks) f g h

-- what runs is the machine's entry
pub runs_on : (image : Image) (c : Content) (fuel : ℕ) (e : Entry) (receiver : Option HandleUse) (m : MachineEntry) → option_map (λ tx. record (entry_of_request c (record e { receiver = receiver })) { tx = tx }) (body_number image receiver e.contract e.tx) ≡ Some m
    → run_entry (machine_meaning image) c fuel (record e { receiver = receiver }) ≡ outcome image (started image m c.objects fuel)
runs_on image c fuel e None m h = by (constructor_of image e.contract) h
  where
    by : (o : Option TxId) → option_map (λ tx. record (entry_of_request c (record e { receiver = None })) { tx = tx }) o ≡ Some m
        → option_map_or (λ (tx : TxId). entry_outcome image (entry_of_constructor e.contract (values_of c (record e { receiver = None })) tx) (first_world c.objects fuel)) o wrong ≡ outcome image (started image m c.objects fuel)
    by None g = absurd (none_is_some g)
    by (Some tx) g = ap (λ n. outcome image (started image n c.objects fuel)) (some_is (record (entry_of_request c (record e { receiver = None })) { tx = tx }) m g)
runs_on image c fuel e (Some u) m h = ap (λ n. outcome image (started image n c.objects fuel)) (some_is (entry_of_request c (record e { receiver = Some u })) m h)

-- without a constructor nothing runs
runs_none : (image : Image) (c : Content) (fuel : ℕ) (e : Entry) (receiver : Option HandleUse) → option_map (λ tx. record (entry_of_request c (record e { receiver = receiver })) { tx = tx }) (body_number image receiver e.contract e.tx) ≡ None
    → run_entry (machine_meaning image) c fuel (record e { receiver = receiver }) ≡ wrong
runs_none image c fuel e None h = by (constructor_of image e.contract) h
  where
    by : (o : Option TxId) → option_map (λ tx. record (entry_of_request c (record e { receiver = None })) { tx = tx }) o ≡ None
        → option_map_or (λ (tx : TxId). entry_outcome image (entry_of_constructor e.contract (values_of c (record e { receiver = None })) tx) (first_world c.objects fuel)) o wrong ≡ wrong
    by None g = refl
    by (Some tx) g = absurd (some_is_none g)
runs_none image c fuel e (Some u) h = absurd (some_is_none h)

entered_so : (image : Image) (fuel : ℕ) (c : Content) (q : Request) (units : ℕ) (e : Entry) (reads : List ReadItem) → LeadsAheadOrToUnit image → IsAsked image c q reads e → (o : Option MachineEntry) → entered image c e ≡ o
    → IsSoFar image fuel c q (ended (table_of_image image) c e reads (run_entry (machine_meaning image) c fuel e)) (with_thing o (λ m. sliced image c units q e reads (started image m c.objects fuel)))
entered_so image fuel c q units e reads ahead asked None h = ap (ended (table_of_image image) c e reads) (runs_none image c fuel e e.receiver h)
entered_so image fuel c q units e reads ahead asked (Some m) h =
    sliced_so image fuel c q units _ e m reads 0 (started image m c.objects fuel) ahead asked (ap (ended (table_of_image image) c e reads) (runs_on image c fuel e e.receiver m h)) refl _ refl

tested_so : (image : Image) (fuel : ℕ) (c : Content) (q : Request) (units : ℕ) (e : Entry) (reads : List ReadItem) → LeadsAheadOrToUnit image → IsAsked image c q reads e → (o : Option HandleUse)
    → IsSoFar image fuel c q (after_entry_test (machine_meaning image) (table_of_image image) c fuel e reads o) (run.after_entry_test image fuel c units q e reads o)
tested_so image fuel c q units e reads ahead asked None = entered_so image fuel c q units e reads ahead asked (entered image c e) refl
tested_so image fuel c q units e reads ahead asked (Some u) = unchanged_is c _ 0 reads

begins_so : (image : Image) (fuel : ℕ) (c : Content) (q : Request) (units : ℕ) (checks : List Check) (o : Option Entry) → LeadsAheadOrToUnit image → checks_of (table_of_image image) c q.who q.operation ≡ checks
    → entry_of (table_of_image image) c q.who q.operation ≡ o
    → IsSoFar image fuel c q (unless_refused c checks (λ reads. with_found o (enter_entry (machine_meaning image) (table_of_image image) c fuel reads))) (begins image fuel c units q checks o)
begins_so image fuel c q units checks o ahead all found = unless_so image fuel c q checks _ _ (λ passed. with_so image fuel c q o _ _ (λ e is.
    tested_so image fuel c q units e (reads_of checks) ahead (record { found = found ∙ is; passed = ap refusal_of all ∙ passed; told = ap reads_of (sym all) }) (first_outside_use (table_of_image image) c e)))

handle_so : (image : Image) (fuel : ℕ) (c : Content) (q : Request) (name : HandleName) (f : Handle → List ReadItem → Invocation) (g : Handle → List ReadItem → Run) → ((h : Handle) (r : List ReadItem) → IsSoFar image fuel c q (f h r) (g h r))
    → IsSoFar image fuel c q (invocation.with_handle c name f) (with_handle c name g)
handle_so image fuel c q name f g h = unless_so image fuel c q (handle_check c name ∷ []) _ _ (λ passed. with_so image fuel c q (handle_at c name) _ _ (λ k is. h k (reads_of (handle_check c name ∷ []))))

owner_so : (image : Image) (fuel : ℕ) (c : Content) (q : Request) (reads : List ReadItem) (o : Option IncomingReference) → IsSoFar image fuel c q (show_owner (table_of_image image) c reads o) (shows_owner (table_of_image image) c reads o)
owner_so image fuel c q reads None = unchanged_is c _ 0 reads
owner_so image fuel c q reads (Some r) = with_so image fuel c q (shown_place (table_of_image image) c.objects r.place) _ _ (λ place is. unchanged_is c _ 0 (place_item r.place ∷ reads))

opens_so : (image : Image) (fuel : ℕ) (c : Content) (who : List ℕ) (operation : Operation) (units : ℕ) → LeadsAheadOrToUnit image
    → IsSoFar image fuel c (record { who = who; operation = operation }) (machine_invocation image c (record { who = who; operation = operation }) fuel) (opens image fuel c units (record { who = who; operation = operation }) operation)
opens_so image fuel c who (new_request r) units ahead =
    begins_so image fuel c (record { who = who; operation = new_request r }) units (new_checks (table_of_image image) c who r) (entry_of_new (table_of_image image) who r) ahead refl refl
opens_so image fuel c who (call_request r) units ahead =
    begins_so image fuel c (record { who = who; operation = call_request r }) units (call_checks (table_of_image image) c who r) (entry_of_call (table_of_image image) c who r) ahead refl refl
opens_so image fuel c who (disown_request on) units ahead = handle_so image fuel c (record { who = who; operation = disown_request on }) (handle_name who on) (disown_handle c (handle_name who on)) (disowns c (handle_name who on)) (λ h reads.
    done_is c ok_nothing (without_handle c.handles (handle_name who on)) ((handle_name who on, None) ∷ []) (disowned_world c h) reads (disown_stands c h) refl)
opens_so image fuel c who (give_request r) units ahead =
    let q : Request = record { who = who; operation = give_request r } in
    unless_so image fuel c q (give_checks c who r) (λ reads. with_found (handle_at c (handle_name who r.on)) (give_from c who r reads))
    (λ reads. with_thing (handle_at c (handle_name who r.on)) (λ h. puts_in ok_nothing (puts_of_give who r h) (still_world c) reads)) (λ passed.
    with_so image fuel c q (handle_at c (handle_name who r.on)) (give_from c who r (reads_of (give_checks c who r))) (λ h. puts_in ok_nothing (puts_of_give who r h) (still_world c) (reads_of (give_checks c who r))) (λ h is.
    put_is c ok_nothing (puts_of_give who r h) (still_world c) (reads_of (give_checks c who r)) (first_stands c.objects 0)))
opens_so image fuel c who (see_request on) units ahead =
    let q : Request = record { who = who; operation = see_request on } in
    handle_so image fuel c q (handle_name who on) (show_object (table_of_image image) c) (sees (table_of_image image) c) (λ h reads.
    with_so image fuel c q (shown_at (table_of_image image) c.objects h.object) _ _ (λ shown is. unchanged_is c (ok_shown shown) 0 reads))
opens_so image fuel c who (owner_request on) units ahead =
    let q : Request = record { who = who; operation = owner_request on } in
    handle_so image fuel c q (handle_name who on) (show_owner_of (table_of_image image) c) (asks_owner (table_of_image image) c) (λ h reads. owner_so image fuel c q reads (owner_of (table_of_image image) c h.object))

-- Slices one after another.

goes_on_so : (image : Image) (fuel : ℕ) (c : Content) (q : Request) (units : ℕ) (i : Invocation) (reads : List ReadItem) (p : Phase) (h : Held) → LeadsAheadOrToUnit image → (a : IsPause image fuel c q i q reads p h) → (o : Option Entry)
    → entry_of (table_of_image image) c q.who q.operation ≡ o → IsSoFar image fuel c q i (with_thing o (λ e. sliced image c units q e reads (phase_onto (laid_over c.objects h) p)))
goes_on_so image fuel c q units i reads p h ahead a None found = absurd (none_is_some (sym found ∙ a.asked.found))
goes_on_so image fuel c q units i reads p h ahead a (Some e) found =
    let same = some_is a.entry e (sym a.asked.found ∙ found) in
    sliced_so image fuel c q units i e a.start reads a.number (phase_onto (laid_over c.objects h) p) ahead (subst (IsAsked image c q reads) same a.asked)
    (a.is ∙ ap (λ x. ended (table_of_image image) c x reads (outcome image (started image a.start c.objects fuel))) same) a.reaches _ refl

pub slice_so : (image : Image) (fuel : ℕ) (c : Content) (q : Request) (i : Invocation) (units : ℕ) (r : Run) → LeadsAheadOrToUnit image → IsSoFar image fuel c q i r → IsSoFar image fuel c q i (slice image fuel c units r)
slice_so image fuel c q i units (opened r) ahead h =
    subst (λ x. IsSoFar image fuel c q i (opens image fuel c units x x.operation)) (sym h.0) (subst (λ j. IsSoFar image fuel c q j (opens image fuel c units q q.operation)) (sym h.1) (opens_so image fuel c q.who q.operation units ahead))
slice_so image fuel c q i units (paused r reads p l) ahead h =
    subst (λ x. IsSoFar image fuel c q i (slice image fuel c units (paused x reads p l))) (sym h.request)
    (goes_on_so image fuel c q units i reads p l ahead (subst (λ x. IsPause image fuel c q i x reads p l) h.request h) (entry_of (table_of_image image) c q.who q.operation) refl)
slice_so image fuel c q i units (answered a) ahead h = h
slice_so image fuel c q i units lost ahead h = h

pub slices_so : (image : Image) (fuel : ℕ) (c : Content) (q : Request) (i : Invocation) (units : List ℕ) (r : Run) → LeadsAheadOrToUnit image → IsSoFar image fuel c q i r → IsSoFar image fuel c q i (slices image fuel c units r)
slices_so image fuel c q i [] r ahead h = h
slices_so image fuel c q i (u ∷ units) r ahead h = slices_so image fuel c q i units (slice image fuel c u r) ahead (slice_so image fuel c q i u r ahead h)

comes_to : (image : Image) (fuel : ℕ) (c : Content) (q : Request) (i : Invocation) (r : Run) → IsSoFar image fuel c q i r → ComesTo c i r
comes_to image fuel c q i (opened r) h = tt
comes_to image fuel c q i (paused r reads p l) h = tt
comes_to image fuel c q i (answered a) h = h
comes_to image fuel c q i lost h = h

pub slices_come_to : (image : Image) (fuel : ℕ) (c : Content) (q : Request) (units : List ℕ) → LeadsAheadOrToUnit image → ComesTo c (machine_invocation image c q fuel) (slices image fuel c units (opened q))
slices_come_to image fuel c q units ahead = comes_to image fuel c q _ (slices image fuel c units (opened q)) (slices_so image fuel c q _ units (opened q) ahead (refl, refl))
