-- Where runs are over.
use Rattle.std.proofs.Common.{◌≡◌, ℕ, zero, suc, ◌<◌, ◌≤◌, ◌+◌, ◌*◌, Option, Some, None, Bool, true, false, refl, sym, ap, ◌∙◌, subst, arith, true≢false}
use Rattle.std.specs.Prelude.{is_some, if◌then◌else◌}
use Rattle.ob_heap_spec.specs.Worlds.{World}
use Rattle.ob_code.specs.declared.image.Image.{Image}
use Rattle.ob_machine_steps.specs.Configurations.{End, Next, goes, stops}
use Rattle.ob_machine_steps.specs.Entries.{MachineEntry, Phase, starting, running, next_step, HasStep}
use Rattle.ob_machine_steps.specs.Runs.{Stop, paused, over, after_step, after_steps, GoesNoFurther, pays, waits, left_after, run_in, Slices}
use Rattle.ob_machine_steps.specs.Measures.{longest, rest, rests, steps_left, LeadsAheadOrToUnit}
use Rattle.ob_machine_steps.specs.Outcomes.{outcome_of, outcome_at, outcome}
use Rattle.ob_machine_laws.specs.Laws.{IsSoundRun, IsOverAfter}
use Rattle.ob_machine_laws.proofs.Measuring.{lowers}

abbrev IsOver : Option Stop → Type 0
IsOver None = ⊥
IsOver (Some (paused p)) = ⊥
IsOver (Some (over end)) = Unit {0}

none_over : {end : End} → None ≡ Some (over end) → ⊥
none_over e = subst IsOver (sym e) tt

paused_over : {p : Phase} {end : End} → Some (paused p) ≡ Some (over end) → ⊥
paused_over e = subst IsOver (sym e) tt

none_has : (image : Image) (p : Phase) → next_step image p ≡ None → HasStep image p → ⊥
none_has image p e h = true≢false (sym h ∙ ap is_some e)

-- A step is always before what isn't over.

some_steps : (n : ℕ) → 0 < suc n
some_steps n = omega arith

step_left : (image : Image) (p : Phase) → 0 < steps_left image p
step_left image (starting e w) = some_steps (suc (w.fuel * longest image))
step_left image (running c) = some_steps ((rest image c.top + rests image c.below) + c.world.fuel * longest image)

-- No further.

no_further_by : (image : Image) (p : Phase) (m : ℕ) (r : Option Next) → LeadsAheadOrToUnit image → next_step image p ≡ r → steps_left image p < suc m
    → ((q : Phase) → steps_left image q < m → GoesNoFurther (after_steps image m q)) → GoesNoFurther (after_step r (after_steps image m))
no_further_by image p m None ahead e h ih = tt
no_further_by image p m (Some (goes c)) ahead e h ih = ih (running c) (let less : steps_left image (running c) < steps_left image p = lowers image p c ahead e in omega (arith, h, less))
no_further_by image p m (Some (stops end)) ahead e h ih = tt

no_further_at : (n : ℕ) (image : Image) (p : Phase) → LeadsAheadOrToUnit image → steps_left image p < n → GoesNoFurther (after_steps image n p)
no_further_at zero image p ahead h = absurd (omega (arith, h))
no_further_at (suc m) image p ahead h = no_further_by image p m (next_step image p) ahead refl h (λ q k. no_further_at m image q ahead k)

pub no_further : (image : Image) (p : Phase) (n : ℕ) → LeadsAheadOrToUnit image → steps_left image p < n → GoesNoFurther (after_steps image n p)
no_further image p n ahead h = no_further_at n image p ahead h

-- A run that is over at some time is over within its measure.

over_by : (image : Image) (k : ℕ) (p : Phase) (end : End) (r : Option Next) (m : ℕ) → LeadsAheadOrToUnit image → next_step image p ≡ r
    → after_step r (after_steps image k) ≡ Some (over end) → steps_left image p ≤ m
    → ((q : Phase) (l : ℕ) → after_steps image k q ≡ Some (over end) → steps_left image q ≤ l → after_steps image l q ≡ Some (over end)) → after_steps image m p ≡ Some (over end)
over_by image k p end None m ahead e f h ih = absurd (none_over f)
over_by image k p end (Some (goes c)) zero ahead e f h ih = absurd (let less : steps_left image (running c) < steps_left image p = lowers image p c ahead e in omega (arith, h, less))
over_by image k p end (Some (goes c)) (suc m) ahead e f h ih =
    rw e (ih (running c) m f (let less : steps_left image (running c) < steps_left image p = lowers image p c ahead e in omega (arith, h, less)))
over_by image k p end (Some (stops x)) zero ahead e f h ih = absurd (let some : 0 < steps_left image p = step_left image p in omega (arith, h, some))
over_by image k p end (Some (stops x)) (suc m) ahead e f h ih = rw e f

pub over_in : (image : Image) (k : ℕ) (p : Phase) (end : End) (m : ℕ) → LeadsAheadOrToUnit image → after_steps image k p ≡ Some (over end) → steps_left image p ≤ m → after_steps image m p ≡ Some (over end)
over_in image zero p end m ahead f h = absurd (paused_over f)
over_in image (suc k) p end m ahead f h = over_by image k p end (next_step image p) m ahead refl f h (λ q l g j. over_in image k q end l ahead g j)

-- Runs that always have a next step.

sound_by : (image : Image) (p : Phase) (m : ℕ) (r : Option Next) → LeadsAheadOrToUnit image → IsSoundRun image p → next_step image p ≡ r → steps_left image p ≤ suc m
    → ((q : Phase) → IsSoundRun image q → steps_left image q ≤ m → IsOverAfter image m q) → IsOverAfter image (suc m) p
sound_by image p m None ahead sound e h ih = absurd (none_has image p e (sound.at 0 p refl))
sound_by image p m (Some (goes c)) ahead sound e h ih =
    let less : steps_left image (running c) < steps_left image p = lowers image p c ahead e in
    let later : IsOverAfter image m (running c) = ih (running c) (record { at = λ n q f. sound.at (suc n) q (rw e f) }) (omega (arith, h, less)) in
    record { end = later.end; by = rw e later.by }
sound_by image p m (Some (stops end)) ahead sound e h ih = record { end = end; by = rw e refl }

sound_over : (n : ℕ) (image : Image) (p : Phase) → LeadsAheadOrToUnit image → IsSoundRun image p → steps_left image p ≤ n → IsOverAfter image n p
sound_over zero image p ahead sound h = absurd (let some : 0 < steps_left image p = step_left image p in omega (arith, h, some))
sound_over (suc m) image p ahead sound h = sound_by image p m (next_step image p) ahead sound refl h (λ q s k. sound_over m image q ahead s k)

pub run_ends : (image : Image) (p : Phase) → LeadsAheadOrToUnit image → IsSoundRun image p → IsOverAfter image (steps_left image p) p
run_ends image p ahead sound = sound_over (steps_left image p) image p ahead sound (omega arith)

entry_sums : (f m : ℕ) → 0 < m → suc (suc (f * m)) ≤ suc (suc f) * m
entry_sums f m h = grind arith

pub entry_ends : (image : Image) (e : MachineEntry) (w : World) → LeadsAheadOrToUnit image → 0 < longest image → IsSoundRun image (starting e w) → IsOverAfter image (suc (suc w.fuel) * longest image) (starting e w)
entry_ends image e w ahead some sound = sound_over (suc (suc w.fuel) * longest image) image (starting e w) ahead sound (entry_sums w.fuel (longest image) some)

-- Slices that stop with the run.

slice_by : (image : Image) (k units : ℕ) (p : Phase) (end : End) (b : Bool) (r : Option Next) → next_step image p ≡ r
    → (if b then Some (paused p) else after_step r (run_in image k units)) ≡ Some (over end)
    → ((q : Phase) → run_in image k units q ≡ Some (over end) → after_steps image k q ≡ Some (over end)) → after_steps image (suc k) p ≡ Some (over end)
slice_by image k units p end true r e f ih = absurd (paused_over f)
slice_by image k units p end false None e f ih = absurd (none_over f)
slice_by image k units p end false (Some (goes c)) e f ih = rw e (ih (running c) f)
slice_by image k units p end false (Some (stops x)) e f ih = rw e f

slice_over : (image : Image) (k units : ℕ) (p : Phase) (end : End) → run_in image k units p ≡ Some (over end) → after_steps image k p ≡ Some (over end)
slice_over image zero units p end f = absurd (none_over f)
slice_over image (suc k) units p end f =
    slice_by image k (left_after (pays image p) units) p end (waits image units p) (next_step image p) refl f (λ q g. slice_over image k (left_after (pays image p) units) q end g)

pub slices_end : (image : Image) (units : ℕ) (p : Phase) (end : End) → LeadsAheadOrToUnit image → Slices image units p (over end) → outcome image p ≡ outcome_of end
slices_end image units p end ahead s = ap outcome_at (over_in image s.steps p end (steps_left image p) ahead (slice_over image s.steps units p end s.by) (omega arith))
