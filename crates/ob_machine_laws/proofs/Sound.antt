-- Slices of runs that always have a next step.
use Rattle.std.proofs.Common.{◌≡◌, ℕ, zero, suc, Option, Some, None, Bool, true, false, refl, sym, ap, subst}
use Rattle.std.specs.Prelude.{if◌then◌else◌}
use Rattle.ob_code.specs.declared.image.Image.{Image}
use Rattle.ob_machine_steps.specs.Configurations.{Configuration, Next, goes, stops}
use Rattle.ob_machine_steps.specs.Entries.{Phase, running, next_step}
use Rattle.ob_machine_steps.specs.Runs.{paused, after_step, after_steps, pays, waits, left_after, run_in, Slices, met_after, met_in, IsSoundIn}
use Rattle.ob_machine_laws.specs.Laws.{IsSoundRun}
use Rattle.ob_machine_laws.proofs.Slicing.{none_paused, over_paused, paused_same}

abbrev IsMet : Option Phase → Type 0
IsMet None = ⊥
IsMet (Some p) = Unit {0}

none_met : {p : Phase} → None ≡ Some p → ⊥
none_met e = subst IsMet (sym e) tt

abbrev phase_or : Phase → Option Phase → Phase
phase_or p None = p
phase_or p (Some q) = q

met_same : {p q : Phase} → Some p ≡ Some q → p ≡ q
met_same {p = p} e = ap (phase_or p) e

-- what a slice meets is met by the run
met_none : (b : Bool) (p q : Phase) → (if b then None else Some p) ≡ Some q → Some (paused p) ≡ Some (paused q)
met_none true p q f = absurd (none_met f)
met_none false p q f = ap (λ x. Some (paused x)) (met_same f)

met_by : (image : Image) (n units : ℕ) (p q : Phase) (b : Bool) (r : Option Next) → next_step image p ≡ r → (if b then None else met_after r (met_in image n units)) ≡ Some q
    → ((x : Phase) → met_in image n units x ≡ Some q → after_steps image n x ≡ Some (paused q)) → after_steps image (suc n) p ≡ Some (paused q)
met_by image n units p q true r e f ih = absurd (none_met f)
met_by image n units p q false None e f ih = absurd (none_met f)
met_by image n units p q false (Some (goes c)) e f ih = rw e (ih (running c) f)
met_by image n units p q false (Some (stops end)) e f ih = absurd (none_met f)

met_run : (image : Image) (n units : ℕ) (p q : Phase) → met_in image n units p ≡ Some q → after_steps image n p ≡ Some (paused q)
met_run image zero units p q f = met_none (waits image units p) p q f
met_run image (suc n) units p q f =
    met_by image n (left_after (pays image p) units) p q (waits image units p) (next_step image p) refl f (λ x g. met_run image n (left_after (pays image p) units) x q g)

pub sound_in : (image : Image) (units : ℕ) (p : Phase) → IsSoundRun image p → IsSoundIn image units p
sound_in image units p sound = record { at = λ n q f. sound.at n q (met_run image n units p q f) }

-- what is paused goes on as the run

-- a run goes on soundly after a step
pub sound_on : (image : Image) (p : Phase) (c : Configuration) → next_step image p ≡ Some (goes c) → IsSoundRun image p → IsSoundRun image (running c)
sound_on image p c e sound = record { at = λ n q f. sound.at (suc n) q (rw e f) }

paused_by : (image : Image) (k units : ℕ) (p q : Phase) (b : Bool) (r : Option Next) → IsSoundRun image p → next_step image p ≡ r
    → (if b then Some (paused p) else after_step r (run_in image k units)) ≡ Some (paused q)
    → ((x : Phase) → IsSoundRun image x → run_in image k units x ≡ Some (paused q) → IsSoundRun image q) → IsSoundRun image q
paused_by image k units p q true r sound e f ih = subst (IsSoundRun image) (paused_same f) sound
paused_by image k units p q false None sound e f ih = absurd (none_paused f)
paused_by image k units p q false (Some (goes c)) sound e f ih = ih (running c) (sound_on image p c e sound) f
paused_by image k units p q false (Some (stops end)) sound e f ih = absurd (over_paused f)

paused_in : (image : Image) (k units : ℕ) (p q : Phase) → IsSoundRun image p → run_in image k units p ≡ Some (paused q) → IsSoundRun image q
paused_in image zero units p q sound f = absurd (none_paused f)
paused_in image (suc k) units p q sound f =
    paused_by image k (left_after (pays image p) units) p q (waits image units p) (next_step image p) sound refl f (λ x s g. paused_in image k (left_after (pays image p) units) x q s g)

pub sound_paused : (image : Image) (units : ℕ) (p q : Phase) → IsSoundRun image p → Slices image units p (paused q) → IsSoundRun image q
sound_paused image units p q sound s = paused_in image s.steps units p q sound s.by
