-- Many steps: from a coherent configuration a run goes on, ends or aborts, and isn't stuck.
use Rattle.std.proofs.Common.{◌≢◌, ℕ, zero, suc, Option, subst}
use Rattle.ob_silica_steps.specs.Configurations.{SilicaProgram, Configuration, NextStep, goes, ended, aborted, stuck}
use Rattle.ob_silica_steps.specs.Steps.{step, then_steps, steps}
use Rattle.ob_coherent_spec.specs.Remaining.{IsCheckedProgram}
use Rattle.ob_coherent_spec.specs.Coherent.{Beginning, IsCoherent, StepsSo}
use Rattle.ob_soundness_laws.specs.Running.{StepsKeep}

module _ (keep : StepsKeep) (program : SilicaProgram) (checked : IsCheckedProgram program) (entry : Option ℕ)
    (beginning : Beginning) where
  -- what follows where a step has come to this
  after_step : (go : Configuration → NextStep)
      → ((c : Configuration) → IsCoherent program.table entry beginning c → StepsSo program.table entry beginning (go c))
      → (next : NextStep) → StepsSo program.table entry beginning next
      → StepsSo program.table entry beginning (then_steps next go)
  after_step go on (goes c) so = on c so
  after_step go on (ended result w) so = so
  after_step go on (aborted cause s) so = so
  after_step go on stuck so = so

  -- any number of steps from a coherent configuration
  pub steps_keep : (n : ℕ) (c : Configuration) → IsCoherent program.table entry beginning c
      → StepsSo program.table entry beginning (steps program n c)
  steps_keep zero c coherent = coherent
  steps_keep (suc n) c coherent =
      after_step (steps program n) (steps_keep n) (step program c) (keep program entry beginning c checked coherent)

  -- and after what a start or a step has come to
  pub then_keep : (n : ℕ) (next : NextStep) → StepsSo program.table entry beginning next
      → StepsSo program.table entry beginning (then_steps next (steps program n))
  then_keep n next so = after_step (steps program n) (steps_keep n) next so

  not_stuck : (next : NextStep) → StepsSo program.table entry beginning next → next ≢ stuck
  not_stuck next so e = subst (StepsSo program.table entry beginning) e so

  -- no number of steps gets stuck
  pub never_stuck : (n : ℕ) (next : NextStep) → StepsSo program.table entry beginning next
      → then_steps next (steps program n) ≢ stuck
  never_stuck n next so = not_stuck (then_steps next (steps program n)) (then_keep n next so)
