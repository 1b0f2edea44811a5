-- A lane's run goes on for a slice.
use Rattle.std.proofs.Common.{◌≡◌, ℕ, true, false, List, [], ◌∷◌, Option, Some, None, sym, ap, subst, ◌∙◌, true≢false}
use Rattle.std.specs.Prelude.{ℤ, Result, Ok, Err, IfOk, is_some}
use Rattle.ob_heap.specs.Contents.{Stored, content_of}
use Rattle.ob_code.specs.declared.image.Image.{Image}
use Rattle.ob_machine_meaning.specs.Meanings.{machine_invocation}
use Rattle.ob_request_run_laws.specs.Runs.{opened, paused, answered, lost}
use Rattle.ob_request_run_laws.specs.Runs as plain
use Rattle.ob_request_run_laws.specs.Slices.{slice}
use Rattle.ob_wire.specs.Meanings.{request_of}
use Rattle.ob_wire.specs.declared.request.Request.{Request}
use Rattle.ob_exec_handles.specs.Coming.{IsInLimits}
use Rattle.ob_exec.specs.Pausing.{RunRepresents, IsRunOn, run_of}
use Rattle.ob_exec.specs.Pausing as exec
use Rattle.ob_exec.specs.declared.runs.Run.{Run}
use Rattle.ob_exec.specs.declared.runs.SliceOutcome.{SliceOutcome}
use Rattle.ob_exec.specs.declared.runs.SliceOutcome.TheVariants as slice_outcome
use Rattle.ob_exec.proofs.CallerLemmas.{slices_then}
use Rattle.ob_exec.proofs.FirstLemmas.{first_may_be_empty}
use Rattle.ob_lanes_laws.specs.Requests.{has_ended}
use Rattle.ob_lanes.specs.Standing.{in_order, given_run, IsAsFar, GoesOn, IsReady, AreReady, Tells, Leads}

-- one more slice
pub one_more : (image : Image) (fuel : ℕ) (base : Stored) (request : Request) (units : ℕ) (given : List ℕ)
    → slice image fuel (content_of base) units (given_run image fuel base request given) ≡ given_run image fuel base request (units ∷ given)
one_more image fuel base request units given = sym (slices_then image fuel (content_of base) (in_order given) units (opened (request_of request)))

-- a run that is as far as one that hasn't ended represents it
as_far_stands : (image : Image) (base : Stored) (r : plain.Run) (run : Run) → IsAsFar image base r run → has_ended r ≡ false → RunRepresents image base r run.state
as_far_stands image base (opened q) run h e = absurd h
as_far_stands image base (paused q reads p held) run h e = h
as_far_stands image base (answered a) run h e = absurd (true≢false e)
as_far_stands image base lost run h e = absurd h

-- the run that is held is ready
pub held_ready : (image : Image) (fuel : ℕ) (base : Stored) (request : Request) (given : List ℕ) (run : Run) → GoesOn image fuel base request given (Some run) → IsReady image fuel base request given run
held_ready image fuel base request [] run h = absurd h.holds
held_ready image fuel base request (u ∷ given) run h = record {
  request_is = h.holds.0;
  slices_so_far = in_order (u ∷ given);
  stands = as_far_stands image base (given_run image fuel base request (u ∷ given)) run h.holds.1 h.going;
  same = λ units. one_more image fuel base request units (u ∷ given);
}

-- and so is a new one, where none is
pub started_ready : (image : Image) (fuel : ℕ) (base : Stored) (request : Request) (given : List ℕ) (run : Run) → run.request ≡ request → RunRepresents image base (run_of image fuel base (0 ∷ []) request) run.state
    → GoesOn image fuel base request given None → IsReady image fuel base request given run
started_ready image fuel base request [] run same stands h = record {
  request_is = same;
  slices_so_far = 0 ∷ [];
  stands = stands;
  same = λ units. first_may_be_empty image fuel (content_of base) (request_of request) units;
}
started_ready image fuel base request (u ∷ given) run same stands h = absurd h.holds

-- a run that is ready may have a slice
pub ready_on : (image : Image) (fuel : ℕ) (base : Stored) (request : Request) (given : List ℕ) (run : Run) → (h : IsReady image fuel base request given run) → IsInLimits (machine_invocation image (content_of base) (request_of request) fuel)
    → IsRunOn image fuel base h.slices_so_far run.request run.state
ready_on image fuel base request given run h limits =
    subst (λ (q : Request). IsRunOn image fuel base h.slices_so_far q run.state) (sym h.request_is) (record { stands = h.stands; limits = limits })

-- what its slice leads to, by the plain run
record LeadsBoth (image : Image) (base : Stored) (id : ℤ) (r : plain.Run) (run : Run) (outcome : SliceOutcome) : Type 0 where
  far : IsAsFar image base r run
  tells : Tells base id r outcome

leads_both : (image : Image) (base : Stored) (r : plain.Run) (run : Run) (outcome : SliceOutcome) → exec.Leads image base r run outcome → LeadsBoth image base run.request.id r run outcome
leads_both image base (opened q) run outcome h = absurd h
leads_both image base (paused q reads p held) run slice_outcome.Paused h = record { far = h; tells = tt }
leads_both image base (paused q reads p held) run (slice_outcome.Ended reply delta) h = absurd h
leads_both image base (answered a) run slice_outcome.Paused h = absurd h
leads_both image base (answered a) run (slice_outcome.Ended reply delta) h = record { far = (h.2, h.3); tells = (h.0, h.1) }
leads_both image base lost run outcome h = absurd h

pub slice_leads : (image : Image) (fuel : ℕ) (base : Stored) (request : Request) (given : List ℕ) (units : ℕ) (old new : Run) (outcome : SliceOutcome) → (h : IsReady image fuel base request given old)
    → exec.Leads image base (slice image fuel (content_of base) units (run_of image fuel base h.slices_so_far old.request)) new outcome → new.request ≡ old.request
    → Leads image fuel base request units given (Some new) outcome
slice_leads image fuel base request given units old new outcome h led same =
    let r = given_run image fuel base request (units ∷ given) in
    let is = ap (λ (q : Request). slice image fuel (content_of base) units (run_of image fuel base h.slices_so_far q)) h.request_is ∙ h.same units in
    let both = leads_both image base r new outcome (subst (λ x. exec.Leads image base x new outcome) is led) in
    let its = same ∙ h.request_is in
    record { holds = (its, both.far); tells = subst (λ (q : Request). Tells base q.id r outcome) its both.tells }

-- the same by what it has answered
pub slice_leads_if : {E : Type 0} (image : Image) (fuel : ℕ) (base : Stored) (request : Request) (given : List ℕ) (units : ℕ) (old new : Run) (result : Result SliceOutcome E) → (h : IsReady image fuel base request given old)
    → IfOk result (exec.Leads image base (slice image fuel (content_of base) units (run_of image fuel base h.slices_so_far old.request)) new) → new.request ≡ old.request
    → IfOk result (Leads image fuel base request units given (Some new))
slice_leads_if image fuel base request given units old new (Ok outcome) h led same = slice_leads image fuel base request given units old new outcome h led same
slice_leads_if image fuel base request given units old new (Err error) h led same = tt

-- a run that is there is ready, and so is one that is started where none is
pub some_ready : (image : Image) (fuel : ℕ) (base : Stored) (request : Request) (given : List ℕ) (run : Option Run) → is_some run ≡ true → GoesOn image fuel base request given run → AreReady image fuel base request given run
some_ready image fuel base request given None e h = absurd (true≢false (sym e))
some_ready image fuel base request given (Some run) e h = held_ready image fuel base request given run h

pub fresh_ready : {E : Type 0} (image : Image) (fuel : ℕ) (base : Stored) (request asked : Request) (given : List ℕ) (old : Option Run) (run : Run) (started : Result Run E) → is_some old ≡ false → started ≡ Ok run → asked ≡ request
    → IfOk started (λ (r : Run). RunRepresents image base (run_of image fuel base (0 ∷ []) asked) r.state) → IfOk started (λ (r : Run). r.request ≡ asked) → GoesOn image fuel base request given old
    → IsReady image fuel base request given run
fresh_ready image fuel base request asked given (Some old) run started e is same stands asks h = absurd (true≢false e)
fresh_ready image fuel base request asked given None run started e is same stands asks h =
    let its = subst (λ o. IfOk o (λ (r : Run). RunRepresents image base (run_of image fuel base (0 ∷ []) asked) r.state)) is stands in
    started_ready image fuel base request given run (subst (λ o. IfOk o (λ (r : Run). r.request ≡ asked)) is asks ∙ same)
    (subst (λ (q : Request). RunRepresents image base (run_of image fuel base (0 ∷ []) q) run.state) same its) h
