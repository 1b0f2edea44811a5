-- For callers: a run goes on after each slice.
use Rattle.std.proofs.Common.{◌≡◌, ℕ, List, [], ◌∷◌, ◌++◌, refl, sym, subst}
use Rattle.ob_heap_spec.specs.Contents.{Content}
use Rattle.ob_heap.specs.Contents.{Stored, content_of}
use Rattle.ob_code.specs.declared.image.Image.{Image}
use Rattle.ob_request_run_laws.specs.Runs.{Run, opened, paused, answered, lost}
use Rattle.ob_request_run_laws.specs.Slices.{slice, slices}
use Rattle.ob_wire.specs.declared.request.Request.{Request}
use Rattle.ob_wire.specs.Meanings.{request_of}
use Rattle.ob_exec.specs.Pausing.{RunRepresents, IsRunOn, Leads, run_of}
use Rattle.ob_exec.specs.declared.runs.SliceOutcome.TheVariants as slice_outcome
use Rattle.ob_exec.specs.declared.runs.Run.{Run as CodeRun}

-- one slice more is the last of all
pub slices_then : (image : Image) (fuel : ℕ) (c : Content) (given : List ℕ) (units : ℕ) (r : Run)
    → slices image fuel c (given ++ units ∷ []) r ≡ slice image fuel c units (slices image fuel c given r)
slices_then image fuel c [] units r = refl
slices_then image fuel c (n ∷ given) units r = slices_then image fuel c given units (slice image fuel c n r)

-- a run that needs a unit past its slice represents the plain one after it
pub paused_stands : (image : Image) (base : Stored) (r : Run) (run : CodeRun) → Leads image base r run slice_outcome.Paused → RunRepresents image base r run.state
paused_stands image base (opened q) run h = absurd h
paused_stands image base (paused q reads p held) run h = h
paused_stands image base (answered a) run h = absurd h
paused_stands image base lost run h = absurd h

-- so it may have a further slice
pub goes_on : (image : Image) (fuel : ℕ) (base : Stored) (given : List ℕ) (units : ℕ) (old new : CodeRun) → IsRunOn image fuel base given old.request old.state
    → Leads image base (slice image fuel (content_of base) units (run_of image fuel base given old.request)) new slice_outcome.Paused → new.request ≡ old.request
    → IsRunOn image fuel base (given ++ units ∷ []) new.request new.state
goes_on image fuel base given units old new k h same =
    subst (λ (q : Request). IsRunOn image fuel base (given ++ units ∷ []) q new.state) (sym same) (record {
      stands = subst (λ r. RunRepresents image base r new.state) (sym (slices_then image fuel (content_of base) given units (opened (request_of old.request))))
          (paused_stands image base (slice image fuel (content_of base) units (run_of image fuel base given old.request)) new h);
      limits = k.limits;
    })
