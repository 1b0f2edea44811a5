-- Emission keeps the meaning of a program: a run by Silica steps and by the machine (this project's own).
use Rattle.std.specs.Prelude.{◌≡◌, ℕ, List, Option, Some, ⊤}
use Rattle.ob_heap_spec.specs.Values.{Value}
use Rattle.ob_heap_spec.specs.Worlds.{World, Spent, SameWorld, SameSpent}
use Rattle.ob_silica_steps.specs.Configurations.{SilicaProgram, NextStep, HandleNote, goes, ended, aborted, stuck}
use Rattle.ob_silica_steps.specs.Starting.{first_notes, started_call, started_new}
use Rattle.ob_silica_steps.specs.Steps.{then_steps, steps}
use Rattle.ob_base.specs.declared.id.ContractId.{ContractId}
use Rattle.ob_base.specs.declared.id.TxId.{TxId}
use Rattle.ob_code.specs.declared.image.Image.{Image}
use Rattle.ob_machine_steps.specs.Configurations.{ended as run_ended, aborted as run_aborted}
use Rattle.ob_machine_steps.specs.Entries.{Phase, starting}
use Rattle.ob_machine_steps.specs.Outcomes.{entry_of_constructor, entry_of_transaction}
use Rattle.ob_machine_steps.specs.Runs.{over, after_steps}
use Rattle.ob_machine_steps.specs.Entries.{marked_world}
use Rattle.ob_coherent_spec.specs.Coherent.{Beginning, StepsSo}
use Rattle.ob_coherent_spec.specs.Remaining.{IsCheckedProgram}
use Rattle.ob_silica_steps.specs.Calling.{constructor_id}
use Rattle.ob_emit_spec.specs.EmittedImages.{image_of}

-- the image of a program
abbrev pub code_of : SilicaProgram → Image
code_of program = image_of program.table program.bodies

-- Where the Silica run has ended, so does the machine's after some steps: with the same result and the same world, in which the
-- same items were read, in whatever order; where it has aborted, the machine's aborts with the same cause, having taken as many
-- units and read the same items. Of a run that goes on, or is stuck, nothing is said.
abbrev pub EndsAlike : Image → Phase → NextStep → Type 0
EndsAlike image p (goes c) = ⊤
EndsAlike image p (ended result w) = (n : ℕ) × (v : World) × (after_steps image n p ≡ Some (over (run_ended result v))) × SameWorld w v
EndsAlike image p (aborted cause s) = (n : ℕ) × (t : Spent) × (after_steps image n p ≡ Some (over (run_aborted cause t))) × SameSpent s t
EndsAlike image p stuck = ⊤

-- Each call of an object from outside, whose run is coherent wherever it is, ends by the code as by the terms.
abbrev pub CallsEndAlike : Type 0
CallsEndAlike =
    (program : SilicaProgram) (contract : ContractId) (tx : TxId) (n : ℕ) (args : List Value) (handles : List HandleNote)
    (w : World) (entry : Option ℕ) (beginning : Beginning) → IsCheckedProgram program
    → ((k : ℕ) → StepsSo program.table entry beginning
    (then_steps (started_call program contract tx n args (first_notes program.table w.objects handles) w) (steps program k)))
    → (k : ℕ) → EndsAlike (code_of program)
    (starting (entry_of_transaction contract tx n args) (marked_world (code_of program) (entry_of_transaction contract tx n args) w))
    (then_steps (started_call program contract tx n args (first_notes program.table w.objects handles) w) (steps program k))

-- Each `new` from outside, whose run is coherent wherever it is, does so.
abbrev pub NewsEndAlike : Type 0
NewsEndAlike =
    (program : SilicaProgram) (contract : ContractId) (args : List Value) (handles : List HandleNote)
    (w : World) (entry : Option ℕ) (beginning : Beginning) → IsCheckedProgram program
    → ((k : ℕ) → StepsSo program.table entry beginning
    (then_steps (started_new program contract args (first_notes program.table w.objects handles) w) (steps program k)))
    → (k : ℕ) → EndsAlike (code_of program)
    (starting (entry_of_constructor contract args constructor_id) (marked_world (code_of program) (entry_of_constructor contract args constructor_id) w))
    (then_steps (started_new program contract args (first_notes program.table w.objects handles) w) (steps program k))
