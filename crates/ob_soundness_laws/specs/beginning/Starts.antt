-- How a run from outside begins: coherently, or it aborts (Coblenz et al., TOPLAS 42(3), 2020, "Silica"; the statements are
-- this project's own).
use Rattle.std.specs.Prelude.{◌≡◌, ℕ, ◌∷◌, Some, None}
use Rattle.ob_heap_spec.specs.Values.{reference}
use Rattle.ob_heap_spec.specs.Contents.{Content}
use Rattle.ob_silica_steps.specs.Configurations.{SilicaProgram, by_receiver, by_new}
use Rattle.ob_silica_steps.specs.Starting.{first_notes, started_call, started_new}
use Rattle.ob_invocation_spec.specs.Entries.{HandleUse, Entry, values_of}
use Rattle.ob_invocation_spec.specs.Entering.{entry_world}
use Rattle.ob_coherent_spec.specs.Coherent.{Beginning, StepsSo}
use Rattle.ob_soundness_laws.specs.Requests.{handles_in_run, entry_lock, beginning_of, started}

-- with what the call of an object from outside begins
abbrev pub call_beginning : Content → Entry → ℕ → Beginning
call_beginning content e n = record {
  contract = e.contract;
  tx = e.tx;
  how = by_receiver;
  from = 0;
  values = reference n ∷ values_of content e;
}

-- with what a `new` from outside begins
abbrev pub new_beginning : Content → Entry → Beginning
new_beginning content e =
    record { contract = e.contract; tx = e.tx; how = by_new; from = 1; values = values_of content e }

-- a call has a receiver, and its run on the object of that begins coherently, or aborts
abbrev pub CallStarts : SilicaProgram → Content → ℕ → Entry → Type 0
CallStarts program content fuel e =
    (u : HandleUse) × (e.receiver ≡ Some u)
    × StepsSo program.table (entry_lock e.receiver) (call_beginning content e u.handle.object)
    (started_call program e.contract e.tx u.handle.object (values_of content e)
    (first_notes program.table content.objects (handles_in_run content e)) (entry_world content fuel e))

-- a `new` has no receiver, and its run begins coherently, or aborts
abbrev pub NewStarts : SilicaProgram → Content → ℕ → Entry → Type 0
NewStarts program content fuel e =
    (e.receiver ≡ None)
    × StepsSo program.table None (new_beginning content e)
    (started_new program e.contract (values_of content e)
    (first_notes program.table content.objects (handles_in_run content e)) (entry_world content fuel e))

-- the run of a request begins coherently, or it aborts
abbrev pub RequestStarts : SilicaProgram → Content → ℕ → Entry → Type 0
RequestStarts program content fuel e =
    StepsSo program.table (entry_lock e.receiver) (beginning_of content e) (started program content fuel e)
