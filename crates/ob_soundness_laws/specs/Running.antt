-- That the steps of a run keep to coherent configurations (Coblenz et al., TOPLAS 42(3), 2020, "Silica", preservation
-- and progress).
use Rattle.std.specs.Prelude.{◌≡◌, ℕ, ◌≤◌, true, [], length, Option, ⊤}
use Rattle.ob_base.specs.Limits.{most_objects}
use Rattle.ob_table.specs.Tables.{ClassTable}
use Rattle.ob_heap_spec.specs.Values.{Value}
use Rattle.ob_heap_spec.specs.Worlds.{World}
use Rattle.ob_silica_steps.specs.Cells.{Cell, value_in}
use Rattle.ob_silica_steps.specs.Configurations.{SilicaProgram, leaves, Configuration, NextStep, goes, ended, aborted, stuck}
use Rattle.ob_silica_steps.specs.Returning.{left_world}
use Rattle.ob_silica_steps.specs.Steps.{step}
use Rattle.ob_coherent_spec.specs.Remaining.{IsCheckedProgram}
use Rattle.ob_coherent_spec.specs.Counting.{nth_object}
use Rattle.ob_coherent_spec.specs.Coherent.{Beginning, outermost, IsLeaving, IsCoherent, StepsSo}

-- each step from a coherent configuration of a checked program comes to another one, to an end, or to an abort
abbrev pub StepsKeep : Type 0
StepsKeep =
    (program : SilicaProgram) (entry : Option ℕ) (beginning : Beginning) (c : Configuration) → IsCheckedProgram program
    → IsCoherent program.table entry beginning c → StepsSo program.table entry beginning (step program c)

-- What stays from one configuration of a run to a later one: objects aren't lost, keep their marks as shared, and are no more
-- than there may be; handles carry what they did; the outermost frame is share-entered if it was.
pub record StaysSo (c d : Configuration) : Type 0 where
  pub handles : d.notes.handles ≡ c.notes.handles
  pub share_entered : (outermost d.frame d.stack).share_entered ≡ (outermost c.frame c.stack).share_entered
  pub longer : length c.world.objects ≤ length d.world.objects
  pub shared : (n : ℕ) → (nth_object c.world.objects n).shared ≡ true → (nth_object d.world.objects n).shared ≡ true
  pub few : length c.world.objects ≤ most_objects → length d.world.objects ≤ most_objects

-- A step goes on so, or it ends the run of a frame that leaves, for which none waits; of an abort, and where there is no step,
-- nothing is said.
abbrev pub GoesOrEnds : Configuration → NextStep → Type 0
GoesOrEnds c (goes d) = StaysSo c d
GoesOrEnds c (ended result w) =
    (r : Option Cell) × (c.control ≡ leaves r []) × (c.stack ≡ []) × (result ≡ value_in r) × (w ≡ left_world c)
GoesOrEnds c (aborted cause s) = ⊤
GoesOrEnds c stuck = ⊤

-- How a run has ended that went on from a first configuration: its last configuration leaves, no frame waits for it, and what
-- stays along a run has stayed.
pub record EndsFrom (table : ClassTable) (entry : Option ℕ) (beginning : Beginning) (first : Configuration)
    (result : Option Value) (w : World) : Type 0 where
  pub last : Configuration
  pub leaving : IsLeaving table entry beginning last
  pub outer : leaving.outer ≡ []
  pub alone : last.stack ≡ []
  pub gives : result ≡ value_in leaving.result
  pub world : w ≡ left_world last
  pub stays : StaysSo first last
