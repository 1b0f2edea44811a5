-- Each slice that doesn't end the run of a request takes it nearer to its end.
use Rattle.std.proofs.Common.{◌≡◌, ℕ, zero, suc, ◌*◌, ◌<◌, ◌≤◌, Bool, true, false, ◌&&◌, List, [], ◌∷◌, Option, Some, None, refl, sym, ap, ◌∙◌, subst, arith, true≢false}
use Rattle.std.specs.Prelude.{if◌then◌else◌}
use Rattle.ob_table.specs.Tables.{ClassTable}
use Rattle.ob_heap_spec.specs.Objects.{Object}
use Rattle.ob_heap_spec.specs.Contents.{Content}
use Rattle.ob_heap_spec.specs.Worlds.{ReadItem}
use Rattle.ob_heap_spec.specs.Handles.{handle_at}
use Rattle.ob_rest_spec.specs.Incoming.{IncomingReference, owner_of}
use Rattle.ob_invocation_spec.specs.Checks.{Check, refusal_of, reads_of}
use Rattle.ob_invocation_spec.specs.Entering.{first_outside_use}
use Rattle.ob_invocation_spec.specs.Entries.{HandleUse, Entry, entry_of_new, entry_of_call}
use Rattle.ob_invocation_spec.specs.Handles.{handle_name}
use Rattle.ob_invocation_spec.specs.Refusals.{handle_check, new_checks, call_checks, give_checks}
use Rattle.ob_invocation_spec.specs.Replies.{Refusal}
use Rattle.ob_invocation_spec.specs.Requests.{Operation, new_request, call_request, disown_request, give_request, see_request, owner_request, Request}
use Rattle.ob_invocation_spec.specs.Showing.{shown_at, shown_place}
use Rattle.ob_code.specs.declared.image.Image.{Image}
use Rattle.ob_code_table.specs.ImageTables.{table_of_image}
use Rattle.ob_machine_steps.specs.Configurations.{ended, aborted, Next, goes, stops}
use Rattle.ob_machine_steps.specs.Entries.{Phase, starting, running, started, next_step}
use Rattle.ob_machine_steps.specs.Measures.{longest, steps_left, LeadsAheadOrToUnit}
use Rattle.ob_machine_steps.specs.Runs.{Stop, over, after_step, pays, waits, left_after, run_in}
use Rattle.ob_machine_steps.specs.Runs as steps
use Rattle.ob_machine_laws.proofs.Measuring.{lowers}
use Rattle.ob_machine_laws.proofs.Slicing.{none_paused, over_paused, paused_same}
use Rattle.ob_request_run_laws.specs.Locality.{phase_onto}
use Rattle.ob_request_run_laws.specs.Held.{laid_over}
use Rattle.ob_request_run_laws.specs.Runs.{Run, opened, paused, answered, lost}
use Rattle.ob_request_run_laws.specs.Slices.{stops_so, with_thing, refused_or, unless_refused, entered, after_entry_test, enters, begins, shows_owner, opens, entry_of, sliced, slice}
use Rattle.ob_request_run_laws.proofs.Enough.{entry_fuel}
use Rattle.ob_lanes_laws.specs.Measures.{Distances}
use Rattle.ob_lanes_laws.specs.Requests.{Stores, has_ended, request_rules, steps_of_run}
use Rattle.ob_lanes_laws.proofs.Keeping.{differ}

-- Slices of the machine.

least_by : (image : Image) (n units : ℕ) (p q : Phase) (b : Bool) (r : Option Next) → LeadsAheadOrToUnit image → next_step image p ≡ r → (if b then Some (steps.paused p) else after_step r (run_in image n units)) ≡ Some (steps.paused q)
    → ((x : Phase) → run_in image n units x ≡ Some (steps.paused q) → steps_left image q ≤ steps_left image x) → steps_left image q ≤ steps_left image p
least_by image n units p q true r ahead e f ih = let s = ap (steps_left image) (paused_same f) in omega (arith, s)
least_by image n units p q false None ahead e f ih = absurd (none_paused f)
least_by image n units p q false (Some (goes c)) ahead e f ih = let l = lowers image p c ahead e in let i = ih (running c) f in omega (arith, l, i)
least_by image n units p q false (Some (stops end)) ahead e f ih = absurd (over_paused f)

no_farther : (image : Image) (n units : ℕ) (p q : Phase) → LeadsAheadOrToUnit image → run_in image n units p ≡ Some (steps.paused q) → steps_left image q ≤ steps_left image p
no_farther image zero units p q ahead f = absurd (none_paused f)
no_farther image (suc n) units p q ahead f =
    least_by image n (left_after (pays image p) units) p q (waits image units p) (next_step image p) ahead refl f (λ x g. no_farther image n (left_after (pays image p) units) x q ahead g)

-- a slice of some units takes a step at least
never_waits : (image : Image) (units : ℕ) (p : Phase) → 0 < units → waits image units p ≡ false
never_waits image units p u = ap (λ b. pays image p && b) (differ units 0 (λ e. omega (arith, u, e))) ∙ none (pays image p)
  where
    none : (b : Bool) → b && false ≡ false
    none true = refl
    none false = refl

nearer_by : (image : Image) (n units : ℕ) (p q : Phase) (r : Option Next) → LeadsAheadOrToUnit image → next_step image p ≡ r → after_step r (run_in image n units) ≡ Some (steps.paused q) → steps_left image q < steps_left image p
nearer_by image n units p q None ahead e f = absurd (none_paused f)
nearer_by image n units p q (Some (goes c)) ahead e f = let l = lowers image p c ahead e in let i = no_farther image n units (running c) q ahead f in omega (arith, l, i)
nearer_by image n units p q (Some (stops end)) ahead e f = absurd (over_paused f)

comes_nearer : (image : Image) (n units : ℕ) (p q : Phase) → LeadsAheadOrToUnit image → 0 < units → run_in image n units p ≡ Some (steps.paused q) → steps_left image q < steps_left image p
comes_nearer image zero units p q ahead u f = absurd (none_paused f)
comes_nearer image (suc n) units p q ahead u f =
    nearer_by image n (left_after (pays image p) units) p q (next_step image p) ahead refl
    (sym (ap (λ b. if b then Some (steps.paused p) else after_step (next_step image p) (run_in image n (left_after (pays image p) units))) (never_waits image units p u)) ∙ f)

-- the measure looks at no object
steps_onto : (image : Image) (xs : List Object) (p : Phase) → steps_left image (phase_onto xs p) ≡ steps_left image p
steps_onto image xs (starting e w) = refl
steps_onto image xs (running c) = refl

-- Runs.

-- a run that hasn't ended has fewer steps left than so many
abbrev IsNearer : Image → ℕ → ℕ → Run → Type 0
IsNearer image fuel most r = has_ended r ≡ false → steps_of_run image fuel r < most

stops_nearer : (image : Image) (fuel most : ℕ) (table : ClassTable) (c : Content) (q : Request) (e : Entry) (reads : List ReadItem) (o : Option Stop) → ((p : Phase) → o ≡ Some (steps.paused p) → steps_left image p < most)
    → IsNearer image fuel most (stops_so table c q e reads o)
stops_nearer image fuel most table c q e reads None h = λ f. absurd (true≢false f)
stops_nearer image fuel most table c q e reads (Some (steps.paused p)) h = λ f. let l = h p refl in let s = steps_onto image [] p in omega (arith, l, s)
stops_nearer image fuel most table c q e reads (Some (over (ended result w))) h = λ f. absurd (true≢false f)
stops_nearer image fuel most table c q e reads (Some (over (aborted cause s))) h = λ f. absurd (true≢false f)

sliced_nearer : (image : Image) (fuel : ℕ) (c : Content) (units : ℕ) (q : Request) (e : Entry) (reads : List ReadItem) (p : Phase) → LeadsAheadOrToUnit image → 0 < units → IsNearer image fuel (steps_left image p) (sliced image c units q e reads p)
sliced_nearer image fuel c units q e reads p ahead u =
    stops_nearer image fuel (steps_left image p) (table_of_image image) c q e reads (run_in image (steps_left image p) units p) (λ x f. comes_nearer image (steps_left image p) units p x ahead u f)

thing_nearer : {A : Type 0} (image : Image) (fuel most : ℕ) (o : Option A) (f : A → Run) → ((a : A) → IsNearer image fuel most (f a)) → IsNearer image fuel most (with_thing o f)
thing_nearer image fuel most None f h = λ g. absurd (true≢false g)
thing_nearer image fuel most (Some a) f h = h a

refused_nearer : (image : Image) (fuel most : ℕ) (o : Option Refusal) (reads : List ReadItem) (f : List ReadItem → Run) → IsNearer image fuel most (f reads) → IsNearer image fuel most (refused_or o reads f)
refused_nearer image fuel most (Some refusal) reads f h = λ g. absurd (true≢false g)
refused_nearer image fuel most None reads f h = h

unless_nearer : (image : Image) (fuel most : ℕ) (cs : List Check) (f : List ReadItem → Run) → IsNearer image fuel most (f (reads_of cs)) → IsNearer image fuel most (unless_refused cs f)
unless_nearer image fuel most cs f h = refused_nearer image fuel most (refusal_of cs) (reads_of cs) f h

-- the most steps that are left to a run at its opening
abbrev all_steps : Image → ℕ → ℕ
all_steps image fuel = suc (suc (fuel * longest image))

tested_nearer : (image : Image) (fuel : ℕ) (c : Content) (units : ℕ) (q : Request) (e : Entry) (reads : List ReadItem) (o : Option HandleUse) → LeadsAheadOrToUnit image → 0 < units → IsNearer image fuel (all_steps image fuel) (after_entry_test image fuel c units q e reads o)
tested_nearer image fuel c units q e reads (Some v) ahead u = λ g. absurd (true≢false g)
tested_nearer image fuel c units q e reads None ahead u = thing_nearer image fuel (all_steps image fuel) (entered image c e) _ (λ m.
    subst (λ n. IsNearer image fuel (all_steps image n) (sliced image c units q e reads (started image m c.objects fuel))) (entry_fuel image m c.objects fuel)
    (sliced_nearer image fuel c units q e reads (started image m c.objects fuel) ahead u))

begins_nearer : (image : Image) (fuel : ℕ) (c : Content) (units : ℕ) (q : Request) (cs : List Check) (o : Option Entry) → LeadsAheadOrToUnit image → 0 < units → IsNearer image fuel (all_steps image fuel) (begins image fuel c units q cs o)
begins_nearer image fuel c units q cs o ahead u = unless_nearer image fuel (all_steps image fuel) cs _ (thing_nearer image fuel (all_steps image fuel) o (enters image fuel c units q (reads_of cs)) (λ e.
    tested_nearer image fuel c units q e (reads_of cs) (first_outside_use (table_of_image image) c e) ahead u))

owner_nearer : (image : Image) (fuel : ℕ) (c : Content) (reads : List ReadItem) (o : Option IncomingReference) → IsNearer image fuel (all_steps image fuel) (shows_owner (table_of_image image) c reads o)
owner_nearer image fuel c reads None = λ g. absurd (true≢false g)
owner_nearer image fuel c reads (Some r) = thing_nearer image fuel (all_steps image fuel) (shown_place (table_of_image image) c.objects r.place) _ (λ place g. absurd (true≢false g))

opens_nearer : (image : Image) (fuel : ℕ) (c : Content) (units : ℕ) (q : Request) (operation : Operation) → LeadsAheadOrToUnit image → 0 < units → IsNearer image fuel (all_steps image fuel) (opens image fuel c units q operation)
opens_nearer image fuel c units q (new_request r) ahead u = begins_nearer image fuel c units q (new_checks (table_of_image image) c q.who r) (entry_of_new (table_of_image image) q.who r) ahead u
opens_nearer image fuel c units q (call_request r) ahead u = begins_nearer image fuel c units q (call_checks (table_of_image image) c q.who r) (entry_of_call (table_of_image image) c q.who r) ahead u
opens_nearer image fuel c units q (disown_request on) ahead u = unless_nearer image fuel (all_steps image fuel) (handle_check c (handle_name q.who on) ∷ []) _ (thing_nearer image fuel (all_steps image fuel) (handle_at c (handle_name q.who on)) _ (λ h g. absurd (true≢false g)))
opens_nearer image fuel c units q (give_request r) ahead u = unless_nearer image fuel (all_steps image fuel) (give_checks c q.who r) _ (thing_nearer image fuel (all_steps image fuel) (handle_at c (handle_name q.who r.on)) _ (λ h g. absurd (true≢false g)))
opens_nearer image fuel c units q (see_request on) ahead u = unless_nearer image fuel (all_steps image fuel) (handle_check c (handle_name q.who on) ∷ []) _ (thing_nearer image fuel (all_steps image fuel) (handle_at c (handle_name q.who on)) _ (λ h.
    thing_nearer image fuel (all_steps image fuel) (shown_at (table_of_image image) c.objects h.object) _ (λ shown g. absurd (true≢false g))))
opens_nearer image fuel c units q (owner_request on) ahead u = unless_nearer image fuel (all_steps image fuel) (handle_check c (handle_name q.who on) ∷ []) _ (thing_nearer image fuel (all_steps image fuel) (handle_at c (handle_name q.who on)) _ (λ h.
    owner_nearer image fuel c (reads_of (handle_check c (handle_name q.who on) ∷ [])) (owner_of (table_of_image image) c h.object)))

slice_nearer : (image : Image) (fuel : ℕ) (c : Content) (units : ℕ) (r : Run) → LeadsAheadOrToUnit image → 0 < units → has_ended r ≡ false → IsNearer image fuel (steps_of_run image fuel r) (slice image fuel c units r)
slice_nearer image fuel c units (opened q) ahead u f = opens_nearer image fuel c units q q.operation ahead u
slice_nearer image fuel c units (paused q reads p h) ahead u f = thing_nearer image fuel (steps_left image p) (entry_of (table_of_image image) c q.who q.operation) _ (λ e.
    subst (λ n. IsNearer image fuel n (sliced image c units q e reads (phase_onto (laid_over c.objects h) p))) (steps_onto image (laid_over c.objects h) p)
    (sliced_nearer image fuel c units q e reads (phase_onto (laid_over c.objects h) p) ahead u))
slice_nearer image fuel c units (answered a) ahead u f = absurd (true≢false f)
slice_nearer image fuel c units lost ahead u f = absurd (true≢false f)

opening_most : (image : Image) (fuel : ℕ) → all_steps image fuel ≤ all_steps image fuel
opening_most image fuel = omega arith

-- how far the runs of requests are from their end, where jumps lead ahead
pub request_distances : {S L : Type 0} (stores : Stores S L) (image : Image) (fuel : ℕ) → LeadsAheadOrToUnit image → Distances (request_rules stores image fuel)
request_distances stores image fuel ahead = record {
  left = steps_of_run image fuel;
  most = all_steps image fuel;
  opening = λ q. opening_most image fuel;
  slice = λ s units r u f g. slice_nearer image fuel (stores.content_of s) units r ahead u f g;
}

-- the most that a run of a request is from its end
pub request_most : {S L : Type 0} (stores : Stores S L) (image : Image) (fuel : ℕ) (ahead : LeadsAheadOrToUnit image) → (request_distances stores image fuel ahead).most ≡ suc (suc (fuel * longest image))
unfolding request_distances
request_most stores image fuel ahead = refl
