-- The run of what a request enters is over within its measure.
use Rattle.std.proofs.Common.{◌≡◌, ℕ, suc, ◌+◌, ◌*◌, subst, arith}
use Rattle.ob_coherent_spec.specs.Remaining.{IsCheckedProgram}
use Rattle.ob_heap_spec.specs.Contents.{Content}
use Rattle.ob_rest_spec.specs.AtRest.{IsStoreAtRest}
use Rattle.ob_invocation_spec.specs.Entries.{Entry}
use Rattle.ob_silica_steps.specs.Configurations.{SilicaProgram}
use Rattle.ob_soundness_laws.specs.Requests.{IsEntered}
use Rattle.ob_emit_correct.specs.Law.{code_of}
use Rattle.ob_machine_steps.specs.Entries.{entry_world, started}
use Rattle.ob_machine_steps.specs.Measures.{longest}
use Rattle.ob_machine_meaning.specs.Meanings.{entry_of_request}
use Rattle.ob_machine_laws.specs.Laws.{IsOverAfter}
use Rattle.ob_machine_laws.proofs.Ending.{entry_ends}
use Rattle.ob_request_run_laws.proofs.Enough.{entry_fuel}
use Rattle.ob_sound_code.proofs.Sound.{ahead, runs_sound}
use Rattle.ob_service_laws.proofs.Longest.{entered_longest}

pub entered_runs_end : (program : SilicaProgram) (content : Content) (fuel : ℕ) (e : Entry) → IsCheckedProgram program → IsStoreAtRest program.table content → IsEntered program.table content e
    → IsOverAfter (code_of program) ((fuel + 2) * longest (code_of program)) (started (code_of program) (entry_of_request content e) content.objects fuel)
entered_runs_end program content fuel e checked rests entered =
    let m = entry_of_request content e in
    let w = entry_world (code_of program) m content.objects fuel in
    let units : suc (suc w.fuel) ≡ fuel + 2 = omega (arith, entry_fuel (code_of program) m content.objects fuel) in
    subst (λ (n : ℕ). IsOverAfter (code_of program) (n * longest (code_of program)) (started (code_of program) m content.objects fuel)) units
    (entry_ends (code_of program) m w (ahead program checked) (entered_longest program checked content e rests entered)
    (runs_sound program checked content fuel e rests entered))
