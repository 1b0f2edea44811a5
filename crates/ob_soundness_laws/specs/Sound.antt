-- What holds of each program that is accepted: permission soundness (Coblenz et al., TOPLAS 42(3), 2020, "Silica", preservation
-- and progress, and asset retention; requests and stores are this project's own).
use Rattle.std.specs.Prelude.{◌≡◌, ℕ, List, Option, All}
use Rattle.ob_table.specs.Tables.{ClassTable}
use Rattle.ob_table_spec.specs.WellFormed.{HasBodies}
use Rattle.ob_heap_spec.specs.Contents.{Content}
use Rattle.ob_silica.specs.Terms.{SilicaBody}
use Rattle.ob_silica_steps.specs.Configurations.{SilicaProgram, Configuration, goes}
use Rattle.ob_silica_steps.specs.Steps.{step, then_steps, steps}
use Rattle.ob_lower_correct.specs.Law.{IsLoweredProgram}
use Rattle.ob_rest_spec.specs.AtRest.{IsStoreAtRest, EachAssetHasOneOwner}
use Rattle.ob_invocation_spec.specs.Requests.{Request, HasLabels}
use Rattle.ob_invocation_spec.specs.Replies.{Invocation, invoked, goes_wrong}
use Rattle.ob_invocation_spec.specs.Entries.{Entry}
use Rattle.ob_invocation_spec.specs.SourceInvocation.{source_invocation}
use Rattle.ob_coherent_spec.specs.Remaining.{IsCheckedBody}
use Rattle.ob_coherent_spec.specs.Coherent.{Beginning, IsCoherent, StepsSo}
use Rattle.ob_invocation_laws.specs.Laws.{KeepsStoreAtRest}
use Rattle.ob_soundness_laws.specs.Requests.{entry_lock, beginning_of, started, IsEntered, MeetsStates}

-- a request comes to a reply, and in the store after it each asset that is marked neither as shared nor as disowned has exactly
-- one owner
abbrev pub LeavesOneOwner : ClassTable → Invocation → Type 0
LeavesOneOwner table (invoked i) = EachAssetHasOneOwner table i.content
LeavesOneOwner table goes_wrong = ⊥

-- A sound program. What is asked of each store is that it's at rest, as the empty store is.
pub record IsPermissionSound (program : SilicaProgram) : Type 0 where
  -- a step from a coherent configuration comes to a coherent one, to an end, or to an abort, and is never stuck
  pub steps_keep : (entry : Option ℕ) (beginning : Beginning) (c : Configuration) → IsCoherent program.table entry beginning c
      → StepsSo program.table entry beginning (step program c)
  -- and so is each configuration that is reached from what a request enters
  pub runs_keep : (content : Content) (fuel : ℕ) (e : Entry) (n : ℕ) → IsStoreAtRest program.table content
      → IsEntered program.table content e
      → StepsSo program.table (entry_lock e.receiver) (beginning_of content e)
      (then_steps (started program content fuel e) (steps program n))
  -- no request goes wrong, with any number of units, and each leaves the store at rest
  pub requests : (content : Content) (request : Request) (fuel : ℕ) → IsStoreAtRest program.table content → HasLabels request
      → KeepsStoreAtRest program.table (source_invocation program.table content request fuel)
  -- each stored asset that is marked neither as shared nor as disowned has exactly one owner
  pub assets : (content : Content) (request : Request) (fuel : ℕ) → IsStoreAtRest program.table content → HasLabels request
      → LeavesOneOwner program.table (source_invocation program.table content request fuel)
  -- no transaction meets an object that it owns outside its states
  pub states : (content : Content) (fuel : ℕ) (e : Entry) (n : ℕ) (c : Configuration) → IsStoreAtRest program.table content
      → IsEntered program.table content e → then_steps (started program content fuel e) (steps program n) ≡ goes c
      → MeetsStates program.table c

-- What a compiled program has: it's lowered, there is a body for each constructor and transaction, and the terms of each are
-- well-formed and derive. Such a program is sound.
abbrev pub CompiledProgramsAreSound : Type 0
CompiledProgramsAreSound =
    (table : ClassTable) (bodies : List SilicaBody) → IsLoweredProgram (record { table = table; bodies = bodies })
    → HasBodies table → All (IsCheckedBody table) bodies
    → IsPermissionSound (record { table = table; bodies = bodies })
