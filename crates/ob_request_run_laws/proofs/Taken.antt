-- A slice that doesn't end a run takes just its units.
use Rattle.std.proofs.Common.{◌≡◌, ℕ, zero, suc, ◌+◌, ◌<◌, Bool, true, false, ◌&&◌, List, [], ◌∷◌, Option, Some, None, refl, sym, ap, ◌∙◌, subst, arith, true≢false}
use Rattle.std.proofs.lemmas.Bool.{eqb-true, ltb-true}
use Rattle.std.proofs.lemmas.List.Sums.{sum_by-cons}
use Rattle.std.specs.Prelude.{⊤, ◌≤◌, nat_eq, nat_lt, if◌then◌else◌}
use Rattle.std.specs.List.{sum}
use Rattle.ob_table.specs.Tables.{ClassTable}
use Rattle.ob_heap_spec.specs.Contents.{Content}
use Rattle.ob_heap_spec.specs.Objects.{Object}
use Rattle.ob_heap_spec.specs.Worlds.{ReadItem, first_world}
use Rattle.ob_heap_spec.specs.Handles.{handle_at}
use Rattle.ob_rest_spec.specs.Incoming.{IncomingReference, owner_of}
use Rattle.ob_invocation_spec.specs.Checks.{Check, refusal_of, reads_of}
use Rattle.ob_invocation_spec.specs.Entering.{first_outside_use}
use Rattle.ob_invocation_spec.specs.Entries.{HandleUse, Entry, entry_of_new, entry_of_call}
use Rattle.ob_invocation_spec.specs.Handles.{handle_name}
use Rattle.ob_invocation_spec.specs.Refusals.{handle_check, new_checks, call_checks, give_checks}
use Rattle.ob_invocation_spec.specs.Replies.{Refusal}
use Rattle.ob_invocation_spec.specs.Requests.{Operation, new_request, call_request, disown_request, give_request, see_request, owner_request, Request}
use Rattle.ob_invocation_spec.specs.Showing.{shown_at, shown_place}
use Rattle.ob_code.specs.declared.image.Image.{Image}
use Rattle.ob_code.specs.Code.{body_code}
use Rattle.ob_code_table.specs.ImageTables.{table_of_image}
use Rattle.ob_machine_steps.specs.Configurations.{ended, aborted, Next, goes, stops}
use Rattle.ob_machine_steps.specs.Entries.{MachineEntry, lock_receiver, entry_world, Phase, starting, running, started, next_step}
use Rattle.ob_machine_steps.specs.Measures.{steps_left}
use Rattle.ob_machine_steps.specs.Runs.{Stop, over, after_step, after_steps, run_in, needs_unit, pays, waits, left_after, world_of}
use Rattle.ob_machine_steps.specs.Runs as steps
use Rattle.ob_machine_laws.specs.Laws.{LeadsSo}
use Rattle.ob_machine_laws.proofs.Keeping.{units_add}
use Rattle.ob_machine_laws.proofs.Paying.{Leaves, next_leaves}
use Rattle.ob_machine_laws.proofs.Slicing.{none_paused, over_paused, paused_same}
use Rattle.ob_request_run_laws.proofs.Enough.{entry_fuel}
use Rattle.ob_request_run_laws.proofs.Local.{body_keeps}
use Rattle.ob_request_run_laws.proofs.Steps.{in_steps}
use Rattle.ob_request_run_laws.specs.Held.{Held, laid_over}
use Rattle.ob_request_run_laws.specs.Locality.{phase_onto}
use Rattle.ob_request_run_laws.specs.Runs.{Run, opened, paused, answered, lost, taken_by_run}
use Rattle.ob_request_run_laws.specs.Slices.{stops_so, sliced, with_thing, refused_or, unless_refused, entered, after_entry_test, enters, begins, shows_owner, opens, entry_of, slice, slices}

-- Slices of the machine.

-- the units that a run has left, and a slice, after one step of it
left_both : (needs : Bool) (fuel units : ℕ) → (needs && nat_lt 0 fuel) && nat_eq units 0 ≡ false
    → left_after (needs && nat_lt 0 fuel) fuel + units ≡ fuel + left_after (needs && nat_lt 0 fuel) units
left_both true fuel units h = by (nat_lt 0 fuel) refl h
  where
    spent : (fuel units : ℕ) → 0 < fuel → nat_eq units 0 ≡ false → left_after true fuel + units ≡ fuel + left_after true units
    spent fuel units some h = grind (arith, some, h)

    by : (b : Bool) → nat_lt 0 fuel ≡ b → (true && b) && nat_eq units 0 ≡ false → left_after (true && b) fuel + units ≡ fuel + left_after (true && b) units
    by true e f = spent fuel units (ltb-true 0 fuel e) f
    by false e f = refl
left_both false fuel units h = refl

spent_by : (image : Image) (n units : ℕ) (p q : Phase) (b : Bool) (r : Option Next) → waits image units p ≡ b → next_step image p ≡ r
    → (if b then Some (steps.paused p) else after_step r (run_in image n (left_after (pays image p) units))) ≡ Some (steps.paused q)
    → ((x : Phase) → run_in image n (left_after (pays image p) units) x ≡ Some (steps.paused q) → (world_of q).fuel + left_after (pays image p) units ≡ (world_of x).fuel)
    → (world_of q).fuel + units ≡ (world_of p).fuel
spent_by image n units p q true r w e f ih =
    let none = eqb-true units 0 (second (pays image p) (nat_eq units 0) w) in
    let same : (world_of p).fuel ≡ (world_of q).fuel = ap (λ x. (world_of x).fuel) (paused_same f) in omega (arith, none, same)
  where
    second : (a b : Bool) → a && b ≡ true → b ≡ true
    second true b h = h
    second false b h = absurd (true≢false (sym h))
spent_by image n units p q false None w e f ih = absurd (none_paused f)
spent_by image n units p q false (Some (stops end)) w e f ih = absurd (over_paused f)
spent_by image n units p q false (Some (goes c)) w e f ih =
    let leaves : c.world.fuel ≡ left_after (pays image p) (world_of p).fuel = subst (Leaves (left_after (pays image p) (world_of p).fuel)) e (next_leaves image p) in
    let later : (world_of q).fuel + left_after (pays image p) units ≡ c.world.fuel = ih (running c) f in
    let both = left_both (needs_unit image p) (world_of p).fuel units w in
    sum_of (world_of q).fuel (left_after (pays image p) units) c.world.fuel (left_after (pays image p) (world_of p).fuel) units (world_of p).fuel later leaves both
  where
    sum_of : (q l c m u p : ℕ) → q + l ≡ c → c ≡ m → m + u ≡ p + l → q + u ≡ p
    sum_of q l c m u p a b d = omega (arith, a, b, d)

-- where a slice waits, as many units are gone as it had
spent : (image : Image) (n units : ℕ) (p q : Phase) → run_in image n units p ≡ Some (steps.paused q) → (world_of q).fuel + units ≡ (world_of p).fuel
spent image zero units p q f = absurd (none_paused f)
spent image (suc n) units p q f =
    spent_by image n units p q (waits image units p) (next_step image p) refl refl f (λ x g. spent image n (left_after (pays image p) units) x q g)

-- and so many more are taken
takes : (image : Image) (n units : ℕ) (p q : Phase) → run_in image n units p ≡ Some (steps.paused q) → (world_of q).taken ≡ (world_of p).taken + units
takes image n units p q f =
    let j = in_steps image n units p (steps.paused q) f in
    let sums : (world_of q).fuel + (world_of q).taken ≡ (world_of p).fuel + (world_of p).taken =
    subst (LeadsSo (λ v. v.fuel + v.taken ≡ (world_of p).fuel + (world_of p).taken) (λ s. s.taken ≤ (world_of p).fuel + (world_of p).taken)) j.1 (units_add image j.0 p) in
    let gone = spent image n units p q f in omega (arith, sums, gone)

-- At its start a run has taken none.

locked_taken : (locked : Bool) (receiver : Option ℕ) (xs : List Object) (fuel : ℕ) → (lock_receiver locked receiver (first_world xs fuel)).fuel + (lock_receiver locked receiver (first_world xs fuel)).taken ≡ fuel
locked_taken locked None xs fuel = omega arith
locked_taken true (Some n) xs fuel = omega arith
locked_taken false (Some n) xs fuel = omega arith

none_taken : (image : Image) (e : MachineEntry) (xs : List Object) (fuel : ℕ) → (entry_world image e xs fuel).taken ≡ 0
none_taken image e xs fuel =
    let k = body_keeps e.contract (body_code image e.contract e.tx) e.receiver e.args (lock_receiver e.lock e.receiver (first_world xs fuel)) in
    let same : (entry_world image e xs fuel).fuel + (entry_world image e xs fuel).taken ≡ fuel = k.units ∙ locked_taken e.lock e.receiver xs fuel in
    let left = entry_fuel image e xs fuel in omega (arith, same, left)

-- Slices of a request.

-- a slice has led to a run that is paused and has taken so many units, or to its end
abbrev TookJust : ℕ → Run → Type 0
TookJust n (opened q) = ⊥
TookJust n (paused q reads p h) = (world_of p).taken ≡ n
TookJust n (answered a) = ⊤
TookJust n lost = ⊤

phase_taken : (p : Phase) (ys : List Object) → (world_of (phase_onto ys p)).taken ≡ (world_of p).taken
phase_taken (starting e w) ys = refl
phase_taken (running c) ys = refl

stops_took : (image : Image) (c : Content) (q : Request) (e : Entry) (reads : List ReadItem) (n units : ℕ) (p : Phase) (o : Option Stop) → run_in image n units p ≡ o
    → TookJust ((world_of p).taken + units) (stops_so (table_of_image image) c q e reads o)
stops_took image c q e reads n units p None f = tt
stops_took image c q e reads n units p (Some (steps.paused x)) f = phase_taken x [] ∙ takes image n units p x f
stops_took image c q e reads n units p (Some (over (ended result w))) f = tt
stops_took image c q e reads n units p (Some (over (aborted cause s))) f = tt

thing_took : (n : ℕ) {A : Type 0} (o : Option A) (f : A → Run) → ((a : A) → TookJust n (f a)) → TookJust n (with_thing o f)
thing_took n None f h = tt
thing_took n (Some a) f h = h a

refused_took : (n : ℕ) (o : Option Refusal) (reads : List ReadItem) (f : List ReadItem → Run) → TookJust n (f reads) → TookJust n (refused_or o reads f)
refused_took n (Some refusal) reads f h = tt
refused_took n None reads f h = h

unless_took : (n : ℕ) (cs : List Check) (f : List ReadItem → Run) → TookJust n (f (reads_of cs)) → TookJust n (unless_refused cs f)
unless_took n cs f h = refused_took n (refusal_of cs) (reads_of cs) f h

tested_took : (image : Image) (fuel : ℕ) (c : Content) (units : ℕ) (q : Request) (e : Entry) (reads : List ReadItem) (o : Option HandleUse) → TookJust units (after_entry_test image fuel c units q e reads o)
tested_took image fuel c units q e reads (Some u) = tt
tested_took image fuel c units q e reads None = thing_took units (entered image c e) (λ m. sliced image c units q e reads (started image m c.objects fuel)) (λ m.
    subst (λ n. TookJust n (sliced image c units q e reads (started image m c.objects fuel))) (let none = none_taken image m c.objects fuel in let is : (entry_world image m c.objects fuel).taken + units ≡ units = omega (arith, none) in is)
    (stops_took image c q e reads (steps_left image (started image m c.objects fuel)) units (started image m c.objects fuel) _ refl))

begins_took : (image : Image) (fuel : ℕ) (c : Content) (units : ℕ) (q : Request) (cs : List Check) (o : Option Entry) → TookJust units (begins image fuel c units q cs o)
begins_took image fuel c units q cs o = unless_took units cs _ (thing_took units o (enters image fuel c units q (reads_of cs)) (λ e.
    tested_took image fuel c units q e (reads_of cs) (first_outside_use (table_of_image image) c e)))

owner_took : (n : ℕ) (table : ClassTable) (c : Content) (reads : List ReadItem) (o : Option IncomingReference) → TookJust n (shows_owner table c reads o)
owner_took n table c reads None = tt
owner_took n table c reads (Some r) = thing_took n (shown_place table c.objects r.place) _ (λ place. tt)

opens_took : (image : Image) (fuel : ℕ) (c : Content) (units : ℕ) (q : Request) (operation : Operation) → TookJust units (opens image fuel c units q operation)
opens_took image fuel c units q (new_request r) = begins_took image fuel c units q (new_checks (table_of_image image) c q.who r) (entry_of_new (table_of_image image) q.who r)
opens_took image fuel c units q (call_request r) = begins_took image fuel c units q (call_checks (table_of_image image) c q.who r) (entry_of_call (table_of_image image) c q.who r)
opens_took image fuel c units q (disown_request on) = unless_took units (handle_check c (handle_name q.who on) ∷ []) _ (thing_took units (handle_at c (handle_name q.who on)) _ (λ h. tt))
opens_took image fuel c units q (give_request r) = unless_took units (give_checks c q.who r) _ (thing_took units (handle_at c (handle_name q.who r.on)) _ (λ h. tt))
opens_took image fuel c units q (see_request on) = unless_took units (handle_check c (handle_name q.who on) ∷ []) _ (thing_took units (handle_at c (handle_name q.who on)) _ (λ h.
    thing_took units (shown_at (table_of_image image) c.objects h.object) _ (λ shown. tt)))
opens_took image fuel c units q (owner_request on) = unless_took units (handle_check c (handle_name q.who on) ∷ []) _ (thing_took units (handle_at c (handle_name q.who on)) _ (λ h.
    owner_took units (table_of_image image) c (reads_of (handle_check c (handle_name q.who on) ∷ [])) (owner_of (table_of_image image) c h.object)))

slice_took : (image : Image) (fuel : ℕ) (c : Content) (units : ℕ) (r : Run) → TookJust (taken_by_run r + units) (slice image fuel c units r)
slice_took image fuel c units (opened q) =
    subst (λ n. TookJust n (opens image fuel c units q q.operation)) (let is : units ≡ 0 + units = omega arith in is) (opens_took image fuel c units q q.operation)
slice_took image fuel c units (paused q reads p h) =
    thing_took ((world_of p).taken + units) (entry_of (table_of_image image) c q.who q.operation) (λ e. sliced image c units q e reads (phase_onto (laid_over c.objects h) p)) (λ e.
    subst (λ n. TookJust (n + units) (sliced image c units q e reads (phase_onto (laid_over c.objects h) p))) (phase_taken p (laid_over c.objects h))
    (stops_took image c q e reads (steps_left image (phase_onto (laid_over c.objects h) p)) units (phase_onto (laid_over c.objects h) p) _ refl))
slice_took image fuel c units (answered a) = tt
slice_took image fuel c units lost = tt

pub slices_take : (image : Image) (fuel : ℕ) (c : Content) (units : ℕ) (r : Run) (q : Request) (reads : List ReadItem) (p : Phase) (h : Held) → slice image fuel c units r ≡ paused q reads p h → (world_of p).taken ≡ taken_by_run r + units
slices_take image fuel c units r q reads p h e = subst (TookJust (taken_by_run r + units)) e (slice_took image fuel c units r)

-- Slices one after another.

abbrev IsPaused : Run → Type 0
IsPaused (opened q) = ⊥
IsPaused (paused q reads p h) = ⊤
IsPaused (answered a) = ⊥
IsPaused lost = ⊥

over_stays : (image : Image) (fuel : ℕ) (c : Content) (units : List ℕ) (r : Run) → ((u : ℕ) → slice image fuel c u r ≡ r) → (IsPaused r → ⊥) → IsPaused (slices image fuel c units r) → ⊥
over_stays image fuel c [] r same none h = none h
over_stays image fuel c (u ∷ us) r same none h = over_stays image fuel c us r same none (subst (λ x. IsPaused (slices image fuel c us x)) (same u) h)

slices_took : (image : Image) (fuel : ℕ) (c : Content) (units : List ℕ) (r : Run) (q : Request) (reads : List ReadItem) (p : Phase) (h : Held) → slices image fuel c units r ≡ paused q reads p h → (world_of p).taken ≡ taken_by_run r + sum units
slices_took image fuel c [] r q reads p h e = let same : taken_by_run r ≡ (world_of p).taken = ap taken_by_run e in omega (arith, same)
slices_took image fuel c (u ∷ us) r q reads p h e = by (slice image fuel c u r) (slice_took image fuel c u r) e (λ x f. slices_took image fuel c us x q reads p h f)
  where
    by : (x : Run) → TookJust (taken_by_run r + u) x → slices image fuel c us x ≡ paused q reads p h → ((y : Run) → slices image fuel c us y ≡ paused q reads p h → (world_of p).taken ≡ taken_by_run y + sum us)
        → (world_of p).taken ≡ taken_by_run r + sum (u ∷ us)
    by (opened x) t f ih = absurd t
    by (paused x more y l) t f ih = let later : (world_of p).taken ≡ (world_of y).taken + sum us = ih (paused x more y l) f in let front : sum (u ∷ us) ≡ u + sum us = sum_by-cons (λ n. n) u us in omega (arith, t, later, front)
    by (answered a) t f ih = absurd (over_stays image fuel c us (answered a) (λ v. refl) (λ x. x) (subst IsPaused (sym f) tt))
    by lost t f ih = absurd (over_stays image fuel c us lost (λ v. refl) (λ x. x) (subst IsPaused (sym f) tt))

pub paused_took : (image : Image) (fuel : ℕ) (c : Content) (q : Request) (units : List ℕ) (reads : List ReadItem) (p : Phase) (h : Held) → slices image fuel c units (opened q) ≡ paused q reads p h → (world_of p).taken ≡ sum units
paused_took image fuel c q units reads p h e = let all : (world_of p).taken ≡ 0 + sum units = slices_took image fuel c units (opened q) q reads p h e in omega (arith, all)
