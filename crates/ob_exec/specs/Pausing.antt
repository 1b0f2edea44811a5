-- For which run of a request the code's run stands, on what a store holds (this project's own).
use Rattle.std.specs.Prelude.{◌≡◌, ℕ, List, map, Option, Some, None}
use Rattle.ob_heap_spec.specs.Worlds.{ReadItem, ReadSame}
use Rattle.ob_heap.specs.Contents.{Stored, content_of}
use Rattle.ob_heap.specs.Overlays.{AreChangesRead}
use Rattle.ob_invocation_spec.specs.Entries.{Entry, handle_uses}
use Rattle.ob_invocation_spec.specs.Replies.{invoked}
use Rattle.ob_invocation_spec.specs.Requests.{Request}
use Rattle.ob_code.specs.declared.image.Image.{Image}
use Rattle.ob_code_table.specs.ImageTables.{table_of_image}
use Rattle.ob_machine_steps.specs.Entries.{Phase}
use Rattle.ob_machine_meaning.specs.Meanings.{machine_invocation}
use Rattle.ob_machine_laws.specs.Laws.{SamePhase}
use Rattle.ob_request_run_laws.specs.Locality.{phase_onto}
use Rattle.ob_request_run_laws.specs.Held.{Held, laid_over}
use Rattle.ob_request_run_laws.specs.Runs.{opened, paused, answered, reads_of_run, taken_by_run, invoked_by}
use Rattle.ob_request_run_laws.specs.Runs as plain
use Rattle.ob_request_run_laws.specs.Slices.{entry_of, slices}
use Rattle.ob_machine.specs.Phases.{phase_of}
use Rattle.ob_wire.specs.Meanings.{request_of}
use Rattle.ob_wire.specs.declared.request.Request as wire
use Rattle.ob_wire.specs.declared.request.Op.{Op}
use Rattle.ob_wire.specs.declared.request.Op.TheVariants.{New, Call}
use Rattle.ob_exec_entries.specs.Entering.{use_of}
use Rattle.ob_exec_handles.specs.Coming.{ComesTo, IsInLimits}
use Rattle.ob_exec_handles.specs.declared.answered.Answered.{Answered}
use Rattle.ob_exec.specs.declared.stage.Paused.{Paused}
use Rattle.ob_exec.specs.declared.stage.Stage.{Stage}
use Rattle.ob_exec.specs.declared.stage.Stage.TheVariants as stage
use Rattle.ob_exec.specs.declared.stage.SliceEnd.{SliceEnd}
use Rattle.ob_exec.specs.declared.stage.State.{State}
use Rattle.ob_exec.specs.declared.runs.Run.{Run}
use Rattle.ob_exec.specs.declared.runs.SliceOutcome.{SliceOutcome}
use Rattle.ob_exec.specs.declared.runs.SliceOutcome.TheVariants as slice_outcome

-- The code's run is paused where a plain one is, on what a store holds: in the same place, with the same objects, and with the uses of
-- handles of what the request enters. What it has changed of the store's objects it has read.
pub record StandsPaused (image : Image) (base : Stored) (q : Request) (p : Phase) (h : Held) (s : Paused) : Type 0 where
  pub entry : Entry
  pub enters : entry_of (table_of_image image) (content_of base) q.who q.operation ≡ Some entry
  pub uses : map (use_of q.who) s.uses ≡ handle_uses (content_of base) entry
  pub given : s.given ≡ entry.given
  pub phase : SamePhase (phase_onto (laid_over (content_of base).objects h) p) (phase_of s.machine base.objects s.overlay)
  pub unread : AreChangesRead s.overlay

-- the code's run is as far as a plain one: paused there, or answered the same, with just what differs in the store
abbrev pub StandsAt : Image → Stored → plain.Run → Stage → Type 0
StandsAt image base (paused q reads p h) (stage.Paused s) = StandsPaused image base q p h s
StandsAt image base (answered a) (stage.Answered told) = ComesTo (invoked (invoked_by (content_of base) a)) base told.answer told.delta
StandsAt image base r s = ⊥

-- The code's run represents a plain one on what a store holds: it is as far, it has read the same items, in whatever order and however
-- often, and has taken as many units.
pub record RunRepresents (image : Image) (base : Stored) (r : plain.Run) (s : State) : Type 0 where
  pub at : StandsAt image base r s.stage
  pub reads : ReadSame (reads_of_run r) s.reads
  pub taken : s.taken ≡ taken_by_run r

-- A slice has led to an answer, or the code's run is paused in this stage, and it represents a plain one so.
abbrev pub LeadsBy : Image → Stored → plain.Run → Option Answered → List ReadItem → ℕ → Stage → Type 0
LeadsBy image base r (Some told) items taken s = RunRepresents image base r (record { stage = stage.Answered told; reads = items; taken = taken })
LeadsBy image base r None items taken (stage.Paused s) = RunRepresents image base r (record { stage = stage.Paused s; reads = items; taken = taken })
LeadsBy image base r None items taken s = ⊥

-- what a slice has led to, where it has ended so and left the run in this stage
abbrev pub SliceLeads : Image → Stored → plain.Run → SliceEnd → Stage → Type 0
SliceLeads image base r end s = LeadsBy image base r end.answered end.reads end.taken s

-- the run of a request that was opened on what a store holds, with so many units in all, once it was given slices of these units
abbrev pub run_of : Image → ℕ → Stored → List ℕ → wire.Request → plain.Run
run_of image fuel base given request = slices image fuel (content_of base) given (opened (request_of request))

-- The code's run of a request represents that run. The request doesn't go wrong there, and leaves no more objects than there may be.
pub record IsRunOn (image : Image) (fuel : ℕ) (base : Stored) (given : List ℕ) (request : wire.Request) (s : State) : Type 0 where
  pub stands : RunRepresents image base (run_of image fuel base given request) s
  pub limits : IsInLimits (machine_invocation image (content_of base) (request_of request) fuel)

-- the name for the handle on what a request gives, if it has one
abbrev pub into_of : Op → Option (List ℕ)
into_of (New contract args into) = into
into_of (Call on tx args into) = into
into_of op = None

-- What a slice leads to: the reply of the run's end and what differs in the store, once it has read and taken all; or the run, where it
-- needs a unit past the slice.
abbrev pub Leads : Image → Stored → plain.Run → Run → SliceOutcome → Type 0
Leads image base (paused q reads p h) run slice_outcome.Paused = RunRepresents image base (paused q reads p h) run.state
Leads image base (answered a) run (slice_outcome.Ended reply delta) =
    (reply.id ≡ Some run.request.id) × ComesTo (invoked (invoked_by (content_of base) a)) base reply.answer delta
    × ReadSame a.reads run.state.reads × (run.state.taken ≡ a.taken)
Leads image base r run outcome = ⊥
