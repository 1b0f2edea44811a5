-- How long the run of a request by sound code can last (this project's own).
use Rattle.std.specs.Prelude.{ℕ, ◌+◌, ◌*◌}
use Rattle.ob_heap_spec.specs.Contents.{Content}
use Rattle.ob_rest_spec.specs.AtRest.{IsStoreAtRest}
use Rattle.ob_invocation_spec.specs.Entries.{Entry}
use Rattle.ob_silica_steps.specs.Configurations.{SilicaProgram}
use Rattle.ob_coherent_spec.specs.Remaining.{IsCheckedProgram}
use Rattle.ob_soundness_laws.specs.Requests.{IsEntered}
use Rattle.ob_emit_spec.specs.EmittedImages.{image_of}
use Rattle.ob_machine_steps.specs.Entries.{started}
use Rattle.ob_machine_steps.specs.Measures.{longest}
use Rattle.ob_machine_meaning.specs.Meanings.{entry_of_request}
use Rattle.ob_machine_laws.specs.Laws.{IsOverAfter}

-- By the code of a program whose terms are well-formed and derive, the run of what a request enters in a store at rest is over after at
-- most (fuel + 2) * n steps, where n is the number of instructions of the longest body.
abbrev pub EnteredRunsEnd : Type 0
EnteredRunsEnd =
    (program : SilicaProgram) (content : Content) (fuel : ℕ) (e : Entry) → IsCheckedProgram program
    → IsStoreAtRest program.table content → IsEntered program.table content e
    → IsOverAfter (image_of program.table program.bodies) ((fuel + 2) * longest (image_of program.table program.bodies))
    (started (image_of program.table program.bodies) (entry_of_request content e) content.objects fuel)
