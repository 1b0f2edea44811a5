-- A first slice of no units.
use Rattle.std.proofs.Common.{◌≡◌, ℕ, suc, ◌*◌, Bool, true, false, List, [], Option, Some, None, refl, sym, ap, ◌∙◌, arith, ltb-false}
use Rattle.std.specs.Prelude.{◌&&◌, nat_eq, nat_lt, if◌then◌else◌}
use Rattle.ob_heap_spec.specs.Contents.{Content}
use Rattle.ob_heap_spec.specs.Worlds.{World, ReadItem, by_fuel, spent}
use Rattle.ob_invocation_spec.specs.Checks.{refusal_of, reads_of}
use Rattle.ob_invocation_spec.specs.Entering.{first_outside_use}
use Rattle.ob_invocation_spec.specs.Entries.{HandleUse, Entry, entry_of_new, entry_of_call}
use Rattle.ob_invocation_spec.specs.Refusals.{new_checks, call_checks}
use Rattle.ob_invocation_spec.specs.Replies.{Refusal}
use Rattle.ob_invocation_spec.specs.Requests.{Operation, new_request, call_request, disown_request, give_request, see_request, owner_request, Request}
use Rattle.ob_code.specs.declared.image.Image.{Image}
use Rattle.ob_code_table.specs.ImageTables.{table_of_image}
use Rattle.ob_machine_steps.specs.Configurations.{aborted}
use Rattle.ob_machine_steps.specs.Entries.{MachineEntry, starting, started, entry_world, enters, next_step}
use Rattle.ob_machine_steps.specs.Measures.{longest}
use Rattle.ob_machine_steps.specs.Parts.{with_units}
use Rattle.ob_machine_steps.specs.Runs.{over, after_step, run_in, left_after}
use Rattle.ob_machine_steps.specs.Runs as machine
use Rattle.ob_request_run_laws.specs.Locality.{phase_onto}
use Rattle.ob_request_run_laws.specs.Held.{laid_over, held_by}
use Rattle.ob_request_run_laws.specs.Runs.{Run, opened, paused, answered, lost}
use Rattle.ob_request_run_laws.specs.Slices.{stops_so, sliced, with_thing, entered, after_entry_test, refused_or, entry_of, opens, slice}
use Rattle.ob_request_run_laws.specs.Slices as run
use Rattle.ob_request_run_laws.specs.Laws.{HasEnded}
use Rattle.ob_request_run_laws.proofs.Enough.{whole_slices_end}
use Rattle.ob_request_run_laws.proofs.Laid.{laid_back}
use Rattle.ob_request_run_laws.proofs.Standing.{paused_stands}
use Rattle.ob_request_run_laws.proofs.Whole.{phase_twice, onto_self}
use Rattle.ob_exec.specs.Laws.{FirstSlicesMayBeEmpty}

-- The first step takes a unit: without one the run waits, and without fuel it aborts.

waits_first : (image : Image) (m : MachineEntry) (w : World) (n : ℕ) → nat_lt 0 w.fuel ≡ true
    → run_in image (suc n) 0 (starting m w) ≡ Some (machine.paused (starting m w))
waits_first image m w n e =
    ap (λ b. if (true && b) && nat_eq 0 0 then Some (machine.paused (starting m w))
    else after_step (next_step image (starting m w)) (run_in image n (left_after (true && b) 0))) e

aborts_first : (image : Image) (m : MachineEntry) (w : World) (n units : ℕ) → w.fuel ≡ 0
    → run_in image (suc n) units (starting m w) ≡ Some (over (aborted by_fuel (spent w)))
aborts_first image m w n units e =
    ap (λ f. if (true && nat_lt 0 f) && nat_eq units 0 then Some (machine.paused (starting m w))
    else after_step (with_units f w (enters image m m.receiver)) (run_in image n (left_after (true && nat_lt 0 f) units))) e

no_fuel : (f : ℕ) → nat_lt 0 f ≡ false → f ≡ 0
no_fuel f e = let l = ltb-false 0 f e in omega (arith, l)

-- how many steps an entry has after its first, at most
abbrev later_steps : Image → World → ℕ
later_steps image w = suc (w.fuel * longest image)

started_by : (image : Image) (fuel : ℕ) (c : Content) (units : ℕ) (q : Request) (e : Entry) (reads : List ReadItem) (m : MachineEntry) (b : Bool)
    → entry_of (table_of_image image) c q.who q.operation ≡ Some e → nat_lt 0 (entry_world image m c.objects fuel).fuel ≡ b
    → slice image fuel c units (sliced image c 0 q e reads (started image m c.objects fuel)) ≡ sliced image c units q e reads (started image m c.objects fuel)
started_by image fuel c units q e reads m true is has =
    let p = started image m c.objects fuel in
    let w = entry_world image m c.objects fuel in
    let stands = (paused_stands image m c.objects fuel 0 p refl).1 in
    let ys = laid_over c.objects (held_by w) in
    let back : phase_onto ys (phase_onto [] p) ≡ p =
    phase_twice p ys [] ∙ ap (λ zs. phase_onto zs p) (laid_back c.objects w stands.good stands.kept) ∙ onto_self p in
    ap (λ o. slice image fuel c units (stops_so (table_of_image image) c q e reads o)) (waits_first image m w (later_steps image w) has)
    ∙ ap (λ o. with_thing o (λ x. sliced image c units q x reads (phase_onto ys (phase_onto [] p)))) is
    ∙ ap (sliced image c units q e reads) back
started_by image fuel c units q e reads m false is has =
    let w = entry_world image m c.objects fuel in
    ap (λ o. slice image fuel c units (stops_so (table_of_image image) c q e reads o)) (aborts_first image m w (later_steps image w) 0 (no_fuel w.fuel has))
    ∙ sym (ap (stops_so (table_of_image image) c q e reads) (aborts_first image m w (later_steps image w) units (no_fuel w.fuel has)))

-- What leads there.

thing_first : (image : Image) (fuel : ℕ) (c : Content) (units : ℕ) (q : Request) (e : Entry) (reads : List ReadItem) (o : Option MachineEntry)
    → entry_of (table_of_image image) c q.who q.operation ≡ Some e
    → slice image fuel c units (with_thing o (λ m. sliced image c 0 q e reads (started image m c.objects fuel)))
    ≡ with_thing o (λ m. sliced image c units q e reads (started image m c.objects fuel))
thing_first image fuel c units q e reads None is = refl
thing_first image fuel c units q e reads (Some m) is = started_by image fuel c units q e reads m (nat_lt 0 (entry_world image m c.objects fuel).fuel) is refl

tested_first : (image : Image) (fuel : ℕ) (c : Content) (units : ℕ) (q : Request) (e : Entry) (reads : List ReadItem) (o : Option HandleUse)
    → entry_of (table_of_image image) c q.who q.operation ≡ Some e
    → slice image fuel c units (after_entry_test image fuel c 0 q e reads o) ≡ after_entry_test image fuel c units q e reads o
tested_first image fuel c units q e reads None is = thing_first image fuel c units q e reads (entered image c e) is
tested_first image fuel c units q e reads (Some u) is = refl

found_first : (image : Image) (fuel : ℕ) (c : Content) (units : ℕ) (q : Request) (reads : List ReadItem) (o : Option Entry)
    → entry_of (table_of_image image) c q.who q.operation ≡ o
    → slice image fuel c units (with_thing o (run.enters image fuel c 0 q reads)) ≡ with_thing o (run.enters image fuel c units q reads)
found_first image fuel c units q reads None is = refl
found_first image fuel c units q reads (Some e) is = tested_first image fuel c units q e reads (first_outside_use (table_of_image image) c e) is

refused_first : (image : Image) (fuel : ℕ) (c : Content) (units : ℕ) (q : Request) (reads : List ReadItem) (r : Option Refusal) (o : Option Entry)
    → entry_of (table_of_image image) c q.who q.operation ≡ o
    → slice image fuel c units (refused_or r reads (λ rs. with_thing o (run.enters image fuel c 0 q rs)))
    ≡ refused_or r reads (λ rs. with_thing o (run.enters image fuel c units q rs))
refused_first image fuel c units q reads None o is = found_first image fuel c units q reads o is
refused_first image fuel c units q reads (Some refusal) o is = refl

-- what has ended goes no further
ended_stays : (image : Image) (fuel : ℕ) (c : Content) (units : ℕ) (r : Run) → HasEnded r → slice image fuel c units r ≡ r
ended_stays image fuel c units (opened q) h = absurd h
ended_stays image fuel c units (paused q reads p l) h = absurd h
ended_stays image fuel c units (answered a) h = refl
ended_stays image fuel c units lost h = refl

opens_first : (image : Image) (fuel : ℕ) (c : Content) (who : List ℕ) (operation : Operation) (units : ℕ)
    → slice image fuel c units (opens image fuel c 0 (record { who = who; operation = operation }) operation)
    ≡ opens image fuel c units (record { who = who; operation = operation }) operation
opens_first image fuel c who (new_request r) units =
    let table = table_of_image image in
    refused_first image fuel c units (record { who = who; operation = new_request r }) (reads_of (new_checks table c who r)) (refusal_of (new_checks table c who r))
    (entry_of_new table who r) refl
opens_first image fuel c who (call_request r) units =
    let table = table_of_image image in
    refused_first image fuel c units (record { who = who; operation = call_request r }) (reads_of (call_checks table c who r)) (refusal_of (call_checks table c who r))
    (entry_of_call table c who r) refl
opens_first image fuel c who (disown_request on) units =
    let q : Request = record { who = who; operation = disown_request on } in
    ended_stays image fuel c units (opens image fuel c 0 q (disown_request on)) (whole_slices_end image fuel c q fuel (omega arith))
opens_first image fuel c who (give_request r) units =
    let q : Request = record { who = who; operation = give_request r } in
    ended_stays image fuel c units (opens image fuel c 0 q (give_request r)) (whole_slices_end image fuel c q fuel (omega arith))
opens_first image fuel c who (see_request on) units =
    let q : Request = record { who = who; operation = see_request on } in
    ended_stays image fuel c units (opens image fuel c 0 q (see_request on)) (whole_slices_end image fuel c q fuel (omega arith))
opens_first image fuel c who (owner_request on) units =
    let q : Request = record { who = who; operation = owner_request on } in
    ended_stays image fuel c units (opens image fuel c 0 q (owner_request on)) (whole_slices_end image fuel c q fuel (omega arith))

pub first_may_be_empty : FirstSlicesMayBeEmpty
first_may_be_empty image fuel c q units = opens_first image fuel c q.who q.operation units
