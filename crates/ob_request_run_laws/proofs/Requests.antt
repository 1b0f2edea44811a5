-- Slices of requests, on two contents.
use Rattle.std.proofs.Common.{◌≡◌, ℕ, List, [], ◌∷◌, ◌++◌, length, Option, Some, None, refl, sym, ap, ◌∙◌, subst, arith}
use Rattle.ob_heap_spec.specs.Contents.{Content}
use Rattle.ob_heap_spec.specs.Worlds.{ReadItem, AllRead}
use Rattle.ob_rest_spec.specs.AtRest.{IsStoreAtRest}
use Rattle.ob_invocation_spec.specs.Entries.{Entry}
use Rattle.ob_invocation_spec.specs.Replies.{Invocation}
use Rattle.ob_invocation_spec.specs.Requests.{Operation, new_request, call_request, disown_request, give_request, see_request, owner_request, Request}
use Rattle.ob_invocation_laws.specs.Laws.{KeepsStoreAtRest}
use Rattle.ob_code.specs.declared.image.Image.{Image}
use Rattle.ob_machine_steps.specs.Entries.{Phase}
use Rattle.ob_code_table.specs.ImageTables.{table_of_image}
use Rattle.ob_machine_meaning.specs.Meanings.{machine_invocation}
use Rattle.ob_machine_steps.specs.Measures.{steps_left, LeadsAheadOrToUnit}
use Rattle.ob_machine_steps.specs.Runs.{Stop, run_in, world_of}
use Rattle.ob_request_run_laws.specs.LocalityLaws.{setting}
use Rattle.ob_request_run_laws.specs.Locality.{Setting, Alike, phase_onto, reads_of_stop, IsGoodPhase}
use Rattle.ob_request_run_laws.proofs.Lists.{none_is_some, all_read_self, all_read_on}
use Rattle.ob_request_run_laws.proofs.Local.{slice_stays_good}
use Rattle.ob_request_run_laws.specs.Held.{Held, laid_over}
use Rattle.ob_request_run_laws.specs.Runs.{Run, opened, paused, answered, lost, reads_of_run}
use Rattle.ob_request_run_laws.specs.Slices.{stops_so, sliced, with_thing, entry_of, slice, slices}
use Rattle.ob_request_run_laws.specs.Laws.{AgreeOn, OwnsAlike}
use Rattle.ob_request_run_laws.proofs.Checks.{new_entry_found, call_entry_found, call_on_found}
use Rattle.ob_request_run_laws.proofs.Found.{IsEntryOn, IsEntryFound, call_same, new_on, call_on}
use Rattle.ob_request_run_laws.proofs.Laid.{laid_alike}
use Rattle.ob_request_run_laws.proofs.Opening.{Grows, SameRun, stops_grow, ends_there, opens_local}
use Rattle.ob_request_run_laws.proofs.Standing.{paused_stands}
use Rattle.ob_request_run_laws.proofs.Stopping.{IsLost, more_read, stop_reads, sliced_local}
use Rattle.ob_request_run_laws.proofs.There.{IsBelow, handles_below}
use Rattle.ob_request_run_laws.proofs.Whole.{phase_twice, phase_reads, phase_objects, IsAsked, IsPause, IsSoFar, slice_so, slices_so}

-- What is entered on the two.

record IsAskedAlike (image : Image) (c d : Content) (q : Request) (e : Entry) : Type 0 where
  found : entry_of (table_of_image image) d q.who q.operation ≡ Some e
  entry : IsEntryFound c d e
  on : IsEntryOn (IsBelow (length c.objects)) c e

asked_by : (image : Image) (items : List ReadItem) (c d : Content) (who : List ℕ) (operation : Operation) (reads : List ReadItem) (e : Entry) → IsStoreAtRest (table_of_image image) c → AgreeOn items c d
    → IsAsked image c (record { who = who; operation = operation }) reads e → AllRead reads items → IsAskedAlike image c d (record { who = who; operation = operation }) e
asked_by image items c d who (new_request r) reads e rest a asked all = record {
  found = asked.found;
  entry = new_entry_found items (table_of_image image) c d who r e a asked.passed (subst (λ x. AllRead x items) asked.told all) asked.found;
  on = new_on (IsBelow (length c.objects)) (table_of_image image) c who r e (handles_below (table_of_image image) c rest) asked.found;
}
asked_by image items c d who (call_request r) reads e rest a asked all =
    let read = subst (λ x. AllRead x items) asked.told all in
    record {
      found = call_same (table_of_image image) c d who r (call_on_found items (table_of_image image) c d who r a read) ∙ asked.found;
      entry = call_entry_found items (table_of_image image) c d who r e a asked.passed read asked.found;
      on = call_on (IsBelow (length c.objects)) (table_of_image image) c who r e (handles_below (table_of_image image) c rest) asked.found;
    }
asked_by image items c d who (disown_request on) reads e rest a asked all = absurd (none_is_some asked.found)
asked_by image items c d who (give_request r) reads e rest a asked all = absurd (none_is_some asked.found)
asked_by image items c d who (see_request on) reads e rest a asked all = absurd (none_is_some asked.found)
asked_by image items c d who (owner_request on) reads e rest a asked all = absurd (none_is_some asked.found)

-- A run goes on.

paused_local : (image : Image) (fuel : ℕ) (items : List ReadItem) (c d : Content) (units : ℕ) (q : Request) (i : Invocation) (reads : List ReadItem) (p : Phase) (h : Held) → LeadsAheadOrToUnit image → IsStoreAtRest (table_of_image image) c
    → KeepsStoreAtRest (table_of_image image) i → AgreeOn items c d → (x : IsPause image fuel c q i q reads p h) → AllRead reads items
    → SameRun items (sliced image c units q x.entry reads (phase_onto (laid_over c.objects h) p)) (slice image fuel d units (paused q reads p h))
paused_local image fuel items c d units q i reads p h ahead rest keeps a x read right all =
    ap (λ o. with_thing o (λ e. sliced image d units q e reads (phase_onto (laid_over d.objects h) p))) alike.found
    ∙ sliced_local image items c d units q x.entry reads here (phase_onto (laid_over d.objects h) p) (laid_over d.objects h) (paused_stands image x.start c.objects fuel x.number here x.reaches).0
    (λ had. subst (λ xs. Alike s xs (laid_over d.objects h)) (sym (phase_objects p (laid_over c.objects h)))
    (laid_alike s (world_of p).reads c.objects h refl (subst (λ r. AllRead r items) (phase_reads p (laid_over c.objects h)) had) x.held a.objects.objects a.objects.next))
    (λ had. sym (phase_twice p (laid_over d.objects h) (laid_over c.objects h))) alike.entry (run_in image (steps_left image here) units here) refl right all
    (ends_there image fuel c x.entry reads x.start (steps_left image here) units here x.number ahead x.reaches (subst (KeepsStoreAtRest (table_of_image image)) x.is keeps) alike.on _ refl)
  where
    here : Phase
    here = phase_onto (laid_over c.objects h) p

    s : Setting
    s = setting items (length c.objects) d.objects

    alike : IsAskedAlike image c d q x.entry
    alike = asked_by image items c d q.who q.operation reads x.entry rest a x.asked read

-- What is told of a paused run's next slice, by what it enters.
slice_is : (image : Image) (fuel : ℕ) (c : Content) (units : ℕ) (q : Request) (i : Invocation) (reads : List ReadItem) (p : Phase) (h : Held) → (x : IsPause image fuel c q i q reads p h)
    → slice image fuel c units (paused q reads p h) ≡ sliced image c units q x.entry reads (phase_onto (laid_over c.objects h) p)
slice_is image fuel c units q i reads p h x = ap (λ o. with_thing o (λ e. sliced image c units q e reads (phase_onto (laid_over c.objects h) p))) x.asked.found

-- what was read stays read
on_grows : (image : Image) (fuel : ℕ) (c : Content) (units : ℕ) (q : Request) (e : Entry) (reads : List ReadItem) (here : Phase) → IsGoodPhase (length c.objects) here → (o : Option Stop) → run_in image (steps_left image here) units here ≡ o
    → Grows ((world_of here).reads ++ reads) (stops_so (table_of_image image) c q e reads o)
on_grows image fuel c units q e reads here good None h right = absurd (right tt)
on_grows image fuel c units q e reads here good (Some x) h right =
    all_read_on ((world_of here).reads ++ reads) (reads_of_stop x ++ reads) (reads_of_run (stops_so (table_of_image image) c q e reads (Some x)))
    (more_read (world_of here).reads (reads_of_stop x) reads (slice_stays_good image (length c.objects) (steps_left image here) units here x good h).1) (stop_reads (table_of_image image) c q e reads x)

none_read : (r : List ReadItem) → AllRead [] r
none_read r = λ i h. absurd (omega (arith, h.1))

slice_grows : (image : Image) (fuel : ℕ) (c : Content) (q : Request) (i : Invocation) (units : ℕ) (r : Run) → IsSoFar image fuel c q i r → Grows (reads_of_run r) (slice image fuel c units r)
slice_grows image fuel c q i units (opened r) h right = none_read _
slice_grows image fuel c q i units (paused r reads p l) h right =
    let x = subst (λ y. IsPause image fuel c y i r reads p l) (sym h.request) h in
    let here = phase_onto (laid_over c.objects l) p in
    subst (λ y. AllRead ((world_of p).reads ++ reads) (reads_of_run y)) (sym (slice_is image fuel c units r i reads p l x))
    (subst (λ y. AllRead (y ++ reads) (reads_of_run (sliced image c units r x.entry reads here))) (phase_reads p (laid_over c.objects l))
    (on_grows image fuel c units r x.entry reads here (paused_stands image x.start c.objects fuel x.number here x.reaches).0 _ refl (λ gone. right (subst IsLost (sym (slice_is image fuel c units r i reads p l x)) gone))))
slice_grows image fuel c q i units (answered a) h right = all_read_self a.reads
slice_grows image fuel c q i units lost h right = all_read_self []

-- one slice
slice_local : (image : Image) (fuel : ℕ) (items : List ReadItem) (c d : Content) (q : Request) (units : ℕ) (r : Run) → LeadsAheadOrToUnit image → IsStoreAtRest (table_of_image image) c → KeepsStoreAtRest (table_of_image image) (machine_invocation image c q fuel)
    → AgreeOn items c d → OwnsAlike (table_of_image image) c d q.who q.operation → IsSoFar image fuel c q (machine_invocation image c q fuel) r → SameRun items (slice image fuel c units r) (slice image fuel d units r)
slice_local image fuel items c d q units (opened r) ahead rest keeps a owns h =
    subst (λ y. SameRun items (slice image fuel c units (opened y)) (slice image fuel d units (opened y))) (sym h.0) (opens_local image fuel items c d units q.who q.operation ahead rest keeps a owns)
slice_local image fuel items c d q units (paused r reads p l) ahead rest keeps a owns h =
    subst (λ y. SameRun items (slice image fuel c units (paused y reads p l)) (slice image fuel d units (paused y reads p l))) (sym h.request)
    (λ right all.
    let x : IsPause image fuel c q (machine_invocation image c q fuel) q reads p l = subst (λ y. IsPause image fuel c q (machine_invocation image c q fuel) y reads p l) h.request h in
    let is = slice_is image fuel c units q (machine_invocation image c q fuel) reads p l x in
    let right2 : ¬ (IsLost (sliced image c units q x.entry reads (phase_onto (laid_over c.objects l) p))) = λ gone. right (subst IsLost (sym is) gone) in
    let all2 : AllRead (reads_of_run (sliced image c units q x.entry reads (phase_onto (laid_over c.objects l) p))) items = subst (λ y. AllRead (reads_of_run y) items) is all in
    let before = stops_grow (table_of_image image) c q x.entry reads (run_in image (steps_left image (phase_onto (laid_over c.objects l) p)) units (phase_onto (laid_over c.objects l) p)) right2 in
    paused_local image fuel items c d units q (machine_invocation image c q fuel) reads p l ahead rest keeps a x (all_read_on reads _ items before all2) right2 all2 ∙ sym is)
slice_local image fuel items c d q units (answered x) ahead rest keeps a owns h = λ right all. refl
slice_local image fuel items c d q units lost ahead rest keeps a owns h = λ right all. refl

-- Slices one after another.

lost_stays : (image : Image) (fuel : ℕ) (c : Content) (units : List ℕ) (r : Run) → IsLost r → IsLost (slices image fuel c units r)
lost_stays image fuel c [] r h = h
lost_stays image fuel c (u ∷ units) (opened q) h = absurd h
lost_stays image fuel c (u ∷ units) (paused q reads p l) h = absurd h
lost_stays image fuel c (u ∷ units) (answered a) h = absurd h
lost_stays image fuel c (u ∷ units) lost h = lost_stays image fuel c units lost h

slices_grow : (image : Image) (fuel : ℕ) (c : Content) (q : Request) (i : Invocation) (units : List ℕ) (r : Run) → LeadsAheadOrToUnit image → IsSoFar image fuel c q i r → Grows (reads_of_run r) (slices image fuel c units r)
slices_grow image fuel c q i [] r ahead h right = all_read_self (reads_of_run r)
slices_grow image fuel c q i (u ∷ units) r ahead h right =
    let next = slice image fuel c u r in
    all_read_on (reads_of_run r) (reads_of_run next) (reads_of_run (slices image fuel c units next)) (slice_grows image fuel c q i u r h (λ l. right (lost_stays image fuel c units next l)))
    (slices_grow image fuel c q i units next ahead (slice_so image fuel c q i u r ahead h) right)

-- two contents that agree on items agree on fewer
agree_less : (a b : List ReadItem) (c d : Content) → AllRead a b → AgreeOn b c d → AgreeOn a c d
agree_less a b c d h g = record {
  objects = record { objects = λ n k. g.objects.objects n (h _ k); next = λ k. g.objects.next (h _ k) };
  handles = λ name k. g.handles name (h _ k);
  full = λ k. g.full (h _ k);
}

slices_local : (image : Image) (fuel : ℕ) (c d : Content) (q : Request) (units : List ℕ) (r : Run) → LeadsAheadOrToUnit image → IsStoreAtRest (table_of_image image) c → KeepsStoreAtRest (table_of_image image) (machine_invocation image c q fuel)
    → AgreeOn (reads_of_run (slices image fuel c units r)) c d → OwnsAlike (table_of_image image) c d q.who q.operation → IsSoFar image fuel c q (machine_invocation image c q fuel) r → ¬ (IsLost (slices image fuel c units r))
    → slices image fuel d units r ≡ slices image fuel c units r
slices_local image fuel c d q [] r ahead rest keeps a owns h right = refl
slices_local image fuel c d q (u ∷ units) r ahead rest keeps a owns h right =
    let i = machine_invocation image c q fuel in
    let next = slice image fuel c u r in
    let so = slice_so image fuel c q i u r ahead h in
    ap (slices image fuel d units) (slice_local image fuel (reads_of_run (slices image fuel c units next)) c d q u r ahead rest keeps a owns h (λ l. right (lost_stays image fuel c units next l)) (slices_grow image fuel c q i units next ahead so right))
    ∙ slices_local image fuel c d q units next ahead rest keeps a owns so right

not_lost : (image : Image) (fuel : ℕ) (c : Content) (q : Request) (i : Invocation) (r : Run) → KeepsStoreAtRest (table_of_image image) i → IsSoFar image fuel c q i r → ¬ (IsLost r)
not_lost image fuel c q i (opened x) keeps h l = l
not_lost image fuel c q i (paused x reads p y) keeps h l = l
not_lost image fuel c q i (answered a) keeps h l = l
not_lost image fuel c q i lost keeps h l = subst (KeepsStoreAtRest (table_of_image image)) h keeps

pub requests_are_local : (image : Image) (fuel : ℕ) (c d : Content) (q : Request) (units : List ℕ) → LeadsAheadOrToUnit image → IsStoreAtRest (table_of_image image) c
    → KeepsStoreAtRest (table_of_image image) (machine_invocation image c q fuel) → AgreeOn (reads_of_run (slices image fuel c units (opened q))) c d → OwnsAlike (table_of_image image) c d q.who q.operation
    → slices image fuel d units (opened q) ≡ slices image fuel c units (opened q)
requests_are_local image fuel c d q units ahead rest keeps a owns =
    let i = machine_invocation image c q fuel in
    slices_local image fuel c d q units (opened q) ahead rest keeps a owns (refl, refl) (not_lost image fuel c q i (slices image fuel c units (opened q)) keeps (slices_so image fuel c q i units (opened q) ahead (refl, refl)))
