-- A run with a slice of all its units is the answer.
use Rattle.std.proofs.Common.{◌≡◌, ℕ, [], ◌∷◌, map, refl, sym, subst, ◌∙◌, arith, List, Option, Some, None, Result, Ok, Err}
use Rattle.std.specs.Prelude.{IsSome, IfOk}
use Rattle.ob_base.specs.declared.cause.Memory.{Memory}
use Rattle.ob_heap.specs.Contents.{Stored, content_of}
use Rattle.ob_heap_spec.specs.Worlds.{ReadItem, ReadSame}
use Rattle.ob_invocation_spec.specs.Replies.{Invocation}
use Rattle.ob_invocation_spec.specs.Requests.{Request}
use Rattle.ob_code.specs.declared.image.Image.{Image}
use Rattle.ob_machine_meaning.specs.Meanings.{machine_invocation}
use Rattle.ob_machine_steps.specs.Measures.{LeadsAheadOrToUnit}
use Rattle.ob_request_run_laws.specs.Runs.{Run, opened, paused, answered, lost}
use Rattle.ob_request_run_laws.specs.Slices.{slice}
use Rattle.ob_request_run_laws.specs.Laws.{ComesTo as RunComesTo, HasEnded}
use Rattle.ob_request_run_laws.proofs.Enough.{whole_slices_end}
use Rattle.ob_request_run_laws.proofs.Whole.{slices_come_to}
use Rattle.ob_exec_handles.specs.Coming.{ComesTo}
use Rattle.ob_exec_handles.specs.Spending.{item_of, SpendsSo}
use Rattle.ob_exec_handles.specs.declared.answered.Answered.{Answered}
use Rattle.ob_exec_handles.specs.declared.spent.Spent.{Spent}
use Rattle.ob_exec.specs.Pausing.{StandsAt, RunRepresents, LeadsBy, SliceLeads}
use Rattle.ob_exec.specs.declared.stage.Paused.{Paused}
use Rattle.ob_exec.specs.declared.stage.SliceEnd.{SliceEnd}
use Rattle.ob_exec.specs.declared.stage.Stage.{Stage}
use Rattle.ob_exec.specs.declared.stage.Stage.TheVariants as stage
use Rattle.ob_exec.specs.declared.stage.State.{State}

-- what the code tells of a run that was answered
pub record IsAnswer (base : Stored) (i : Invocation) (told : Answered) (spent : Spent) : Type 0 where
  pub comes : ComesTo i base told.answer told.delta
  pub spends : SpendsSo i spent

answered_by : (image : Image) (base : Stored) (r : Run) (i : Invocation) (told : Answered) (s : State) (spent : Spent) → RunComesTo (content_of base) i r
    → StandsAt image base r (stage.Answered told) → RunRepresents image base r s → spent.taken ≡ s.taken → map item_of spent.reads ≡ s.reads → IsAnswer base i told spent
answered_by image base (opened q) i told s spent comes at k e f = absurd at
answered_by image base (paused q reads p h) i told s spent comes at k e f = absurd at
answered_by image base (answered a) i told s spent comes at k e f = record {
  comes = subst (λ j. ComesTo j base told.answer told.delta) (sym comes) at;
  spends = subst (λ j. SpendsSo j spent) (sym comes) (e ∙ k.taken, subst (ReadSame a.reads) (sym f) k.reads);
}
answered_by image base lost i told s spent comes at k e f = absurd at

pub whole_answers : (image : Image) (fuel : ℕ) (base : Stored) (q : Request) (told : Answered) (s : State) (spent : Spent) → LeadsAheadOrToUnit image
    → RunRepresents image base (slice image fuel (content_of base) fuel (opened q)) s → s.stage ≡ stage.Answered told → spent.taken ≡ s.taken
    → map item_of spent.reads ≡ s.reads → IsAnswer base (machine_invocation image (content_of base) q fuel) told spent
whole_answers image fuel base q told s spent ahead k is e f =
    let r = slice image fuel (content_of base) fuel (opened q) in
    answered_by image base r (machine_invocation image (content_of base) q fuel) told s spent (slices_come_to image fuel (content_of base) q (fuel ∷ []) ahead)
    (subst (StandsAt image base r) is k.at) k e f

never_by : (image : Image) (base : Stored) (r : Run) (p : Paused) → HasEnded r → StandsAt image base r (stage.Paused p) → ⊥
never_by image base (opened q) p ends at = at
never_by image base (paused q reads x h) p ends at = ends
never_by image base (answered a) p ends at = at
never_by image base lost p ends at = at

never_on : (image : Image) (base : Stored) (r : Run) (items : List ReadItem) (taken : ℕ) (s : Stage) → HasEnded r → LeadsBy image base r None items taken s → ⊥
never_on image base r items taken (stage.Paused p) ends k = never_by image base r p ends k.at
never_on image base r items taken (stage.Answered told) ends k = k
never_on image base r items taken stage.Over ends k = k

pub whole_never_goes_on : (image : Image) (fuel : ℕ) (base : Stored) (q : Request) (items : List ReadItem) (taken : ℕ) (s : Stage)
    → LeadsBy image base (slice image fuel (content_of base) fuel (opened q)) None items taken s → ⊥
whole_never_goes_on image fuel base q items taken s k =
    never_on image base (slice image fuel (content_of base) fuel (opened q)) items taken s (whole_slices_end image fuel (content_of base) q fuel (omega arith)) k

always_by : (image : Image) (fuel : ℕ) (base : Stored) (q : Request) (o : Option Answered) (items : List ReadItem) (taken : ℕ) (s : Stage)
    → LeadsBy image base (slice image fuel (content_of base) fuel (opened q)) o items taken s → IsSome o
always_by image fuel base q None items taken s k = absurd (whole_never_goes_on image fuel base q items taken s k)
always_by image fuel base q (Some told) items taken s k = refl

-- so it is answered
pub always_ends : (image : Image) (fuel : ℕ) (base : Stored) (q : Request) (result : Result SliceEnd Memory) (s : Stage)
    → IfOk result (λ end. SliceLeads image base (slice image fuel (content_of base) fuel (opened q)) end s) → IfOk result (λ end. IsSome end.answered)
always_ends image fuel base q (Ok end) s k = always_by image fuel base q end.answered end.reads end.taken s k
always_ends image fuel base q (Err m) s k = tt

pub told_so : (image : Image) (fuel : ℕ) (base : Stored) (q : Request) (result : Result SliceEnd Memory) (s : Stage) (told : Answered) (spent : Spent)
    → LeadsAheadOrToUnit image → IfOk result (λ end. SliceLeads image base (slice image fuel (content_of base) fuel (opened q)) end s)
    → result ≡ Ok (record { answered = Some told; reads = map item_of spent.reads; taken = spent.taken })
    → IsAnswer base (machine_invocation image (content_of base) q fuel) told spent
told_so image fuel base q result s told spent ahead k is =
    whole_answers image fuel base q told (record { stage = stage.Answered told; reads = map item_of spent.reads; taken = spent.taken }) spent ahead
    (subst (λ r. IfOk r (λ end. SliceLeads image base (slice image fuel (content_of base) fuel (opened q)) end s)) is k) refl refl refl

-- where a run goes on it stands in its stage
pub stands_on : (image : Image) (base : Stored) (r : Run) (items : List ReadItem) (taken : ℕ) (s : Stage) → LeadsBy image base r None items taken s
    → RunRepresents image base r (record { stage = s; reads = items; taken = taken })
stands_on image base r items taken (stage.Paused p) k = k
stands_on image base r items taken (stage.Answered told) k = absurd k
stands_on image base r items taken stage.Over k = absurd k
