-- What a loop over the steps of a slice rests on.
use Rattle.std.proofs.Common.{◌≡◌, ℕ, zero, suc, Some, true, false, refl}
use Rattle.ob_code.specs.declared.image.Image.{Image}
use Rattle.ob_machine_steps.specs.Configurations.{Configuration, End, goes, stops}
use Rattle.ob_machine_steps.specs.Entries.{Phase, running, next_step, HasStep}
use Rattle.ob_machine_steps.specs.Runs.{Stop, paused, over, pays, waits, left_after, Slices, IsSoundIn}

-- a slice that waits is paused where it is
pub waits_so : (image : Image) (units : ℕ) (p : Phase) → waits image units p ≡ true → Slices image units p (paused p)
waits_so image units p e = record { steps = suc zero; by = rw e refl }

-- one that goes on stops as it does after its next step
pub goes_so : (image : Image) (units : ℕ) (p : Phase) (c : Configuration) (s : Stop) → waits image units p ≡ false → next_step image p ≡ Some (goes c)
    → Slices image (left_after (pays image p) units) (running c) s → Slices image units p s
goes_so image units p c s e f h = record { steps = suc h.steps; by = rw (e, f) h.by }

-- one whose next step is the last stops with the run
pub stops_so : (image : Image) (units : ℕ) (p : Phase) (end : End) → waits image units p ≡ false → next_step image p ≡ Some (stops end) → Slices image units p (over end)
stops_so image units p end e f = record { steps = suc zero; by = rw (e, f) refl }

-- where a sound one goes on it has a next step
pub sound_here : (image : Image) (units : ℕ) (p : Phase) → waits image units p ≡ false → IsSoundIn image units p → HasStep image p
sound_here image units p e h = h.at zero p (rw e refl)

-- and it is sound after that
pub sound_after : (image : Image) (units : ℕ) (p : Phase) (c : Configuration) → waits image units p ≡ false → next_step image p ≡ Some (goes c)
    → IsSoundIn image units p → IsSoundIn image (left_after (pays image p) units) (running c)
sound_after image units p c e f h = record { at = λ n q m. h.at (suc n) q (rw (e, f) m) }
