-- Lowering keeps the meaning of a program: an invocation by the source meaning and by Silica steps (this project's own).
use Rattle.std.specs.Prelude.{◌≡◌, ℕ, ◌≤◌, List, length, Option, IfSome, All}
use Rattle.ob_base.specs.declared.id.ContractId.{ContractId}
use Rattle.ob_base.specs.declared.id.TxId.{TxId}
use Rattle.ob_table.specs.Tables.{signature_of}
use Rattle.ob_table_spec.specs.Conditions.{IsClassTable}
use Rattle.ob_table_spec.specs.WellFormed.{IsWellFormed, constructor_at}
use Rattle.ob_heap_spec.specs.Values.{Value}
use Rattle.ob_heap_spec.specs.Worlds.{World, Spent, RunOutcome, gives, aborts, wrong, SameWorld, SameSpent}
use Rattle.ob_source_meaning.specs.Frames.{of_object, of_new}
use Rattle.ob_source_meaning.specs.Calls.{call_at}
use Rattle.ob_silica_steps.specs.Configurations.{SilicaProgram, HandleNote, NextStep, ended, aborted, stuck}
use Rattle.ob_silica_steps.specs.Steps.{then_steps, steps}
use Rattle.ob_silica_steps.specs.Starting.{first_notes, started_call, started_new}
use Rattle.ob_lower_spec.specs.BodyTerms.{AllLower}

-- a program whose class table meets the conditions and whose bodies may be lowered to its terms
pub record IsLoweredProgram (program : SilicaProgram) : Type 0 where
  pub table : IsClassTable program.table
  pub well_formed : All (IsWellFormed program.table) program.table.bodies
  pub lowered : AllLower program.table program.table.bodies program.bodies

-- After some steps the Silica run ends as the source meaning says: with the same result and the same world, in which
-- the same items were read, in whatever order; or it aborts with the same cause, having taken as many units and read the
-- same items; or, where the source meaning goes wrong, it reaches a configuration that has no step.
abbrev pub EndsAs : SilicaProgram → NextStep → RunOutcome (Option Value) → Type 0
EndsAs program next (gives result w) =
    (n : ℕ) × (v : World) × (then_steps next (steps program n) ≡ ended result v) × SameWorld w v
EndsAs program next (aborts cause s) =
    (n : ℕ) × (t : Spent) × (then_steps next (steps program n) ≡ aborted cause t) × SameSpent s t
EndsAs program next wrong = (n : ℕ) × (then_steps next (steps program n) ≡ stuck)

-- Each call of an object from outside, with as many arguments as there are parameters, ends by steps as by the source
-- meaning; of a transaction that isn't there, it goes wrong by both.
abbrev pub CallsKeepMeaning : Type 0
CallsKeepMeaning =
    (program : SilicaProgram) (contract : ContractId) (tx : TxId) (n : ℕ) (args : List Value) (handles : List HandleNote)
    (w : World) (depth : ℕ)
    → IsLoweredProgram program → w.fuel ≤ depth
    → IfSome (signature_of program.table contract tx) (λ s. length args ≡ length s.params)
    → EndsAs program (started_call program contract tx n args (first_notes program.table w.objects handles) w)
    (call_at program.table depth (of_object n contract tx) args w)

-- Each `new` from outside, with as many arguments as the constructor has parameters, ends by steps as by the source
-- meaning; of an interface, which has no constructor, it goes wrong by both.
abbrev pub NewsKeepMeaning : Type 0
NewsKeepMeaning =
    (program : SilicaProgram) (contract : ContractId) (args : List Value) (handles : List HandleNote) (w : World)
    (depth : ℕ)
    → IsLoweredProgram program → w.fuel ≤ depth
    → IfSome (constructor_at program.table contract) (λ s. length args ≡ length s.params)
    → EndsAs program (started_new program contract args (first_notes program.table w.objects handles) w)
    (call_at program.table depth (of_new contract) args w)
