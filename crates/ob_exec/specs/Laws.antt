-- What the laws of the code's runs say (this project's own).
use Rattle.std.specs.Prelude.{◌≡◌, ℕ, List, ⊤}
use Rattle.ob_heap_spec.specs.Contents.{Content}
use Rattle.ob_heap.specs.Contents.{Stored, content_of}
use Rattle.ob_rest_spec.specs.AtRest.{IsStoreAtRest}
use Rattle.ob_invocation_spec.specs.Requests.{Request}
use Rattle.ob_invocation_laws.specs.Laws.{KeepsStoreAtRest}
use Rattle.ob_code.specs.declared.image.Image.{Image}
use Rattle.ob_code_table.specs.ImageTables.{table_of_image}
use Rattle.ob_machine_meaning.specs.Meanings.{machine_invocation}
use Rattle.ob_machine_steps.specs.Measures.{LeadsAheadOrToUnit}
use Rattle.ob_request_run_laws.specs.Runs.{opened}
use Rattle.ob_request_run_laws.specs.Slices.{slice}
use Rattle.ob_request_run_laws.specs.Laws.{AgreeOn}
use Rattle.ob_wire.specs.Meanings.{request_of}
use Rattle.ob_exec.specs.Pausing.{RunRepresents, run_of}
use Rattle.ob_exec.specs.declared.stage.Stage.{Stage}
use Rattle.ob_exec.specs.declared.stage.Stage.TheVariants.{Paused, Answered, Over}
use Rattle.ob_exec.specs.declared.runs.Run.{Run}

-- a run is paused
abbrev pub IsPaused : Stage → Type 0
IsPaused (Paused s) = ⊤
IsPaused (Answered a) = ⊥
IsPaused Over = ⊥

-- A paused run represents the run of its request also on what another store holds that agrees with the first on all that the run has
-- read so far. On the first the request doesn't go wrong, and leaves it at rest.
abbrev pub PausedRunsStandElsewhere : Type 0
PausedRunsStandElsewhere =
    (image : Image) (fuel : ℕ) (base other : Stored) (given : List ℕ) (run : Run)
    → LeadsAheadOrToUnit image → IsStoreAtRest (table_of_image image) (content_of base)
    → KeepsStoreAtRest (table_of_image image) (machine_invocation image (content_of base) (request_of run.request) fuel)
    → IsPaused run.state.stage → AgreeOn run.state.reads (content_of base) (content_of other)
    → RunRepresents image base (run_of image fuel base given run.request) run.state
    → RunRepresents image other (run_of image fuel other given run.request) run.state

-- A first slice of no units changes nothing of what follows.
abbrev pub FirstSlicesMayBeEmpty : Type 0
FirstSlicesMayBeEmpty =
    (image : Image) (fuel : ℕ) (c : Content) (q : Request) (units : ℕ)
    → slice image fuel c units (slice image fuel c 0 (opened q)) ≡ slice image fuel c units (opened q)
