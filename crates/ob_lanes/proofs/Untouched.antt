-- A lane that keeps its run at a commit has read nothing that it changed.
use Rattle.std.proofs.Common.{◌≡◌, ℕ, Bool, true, false, List, Option, Some, None, refl, sym, ap, ◌∙◌}
use Rattle.std.specs.Prelude.{slice_get, slice_set, if◌then◌else◌}
use Rattle.ob_heap.specs.Contents.{Stored}
use Rattle.ob_heap.specs.declared.delta.Delta.{Delta}
use Rattle.ob_exec.specs.declared.runs.Run.{Run}
use Rattle.ob_lanes_laws.proofs.Keeping.{none_is_some, map_cases}
use Rattle.ob_lanes.specs.Committing.{is_stale, reopened, lanes_after}
use Rattle.ob_lanes.specs.Standing.{AreUntouched, run_of_lane, run_at}
use Rattle.ob_lanes.specs.declared.batch.Busy.{Busy}
use Rattle.ob_lanes.proofs.Changing.{changes_agree}

-- the run that a lane keeps isn't stale
kept_fresh : (before : Stored) (delta : Delta) (x : Option Busy) (run : Run) → run_of_lane (Some (reopened before delta x)) ≡ Some run → is_stale before delta (Some run) ≡ false
kept_fresh before delta None run e = absurd (none_is_some e)
kept_fresh before delta (Some b) run e = by (is_stale before delta b.run) refl e
  where
    by : (stale : Bool) → is_stale before delta b.run ≡ stale → (if stale then record b { run = None } else b).run ≡ Some run → is_stale before delta (Some run) ≡ false
    by true f g = absurd (none_is_some g)
    by false f g = ap (is_stale before delta) (sym g) ∙ f

pub untouched : (before : Stored) (delta : Delta) (k : ℕ) (old new : List (Option Busy)) → new ≡ lanes_after before delta k old → AreUntouched before delta new
untouched before delta k old new is j run after e differs =
    changes_agree before delta after differs run.state.reads
    (by (slice_get (lanes_after before delta k old) j) refl (ap (λ ls. run_at ls j) (sym is) ∙ e))
  where
    by : (x : Option (Option Busy)) → slice_get (lanes_after before delta k old) j ≡ x → run_of_lane x ≡ Some run → is_stale before delta (Some run) ≡ false
    by None f g = absurd (none_is_some g)
    by (Some y) f g =
        let m = map_cases (reopened before delta) (slice_set old k None) j y f in
        kept_fresh before delta m.0 run (ap (λ z. run_of_lane (Some z)) m.2 ∙ g)
