-- A run from a coherent configuration that ends has a last configuration that leaves.
use Rattle.std.proofs.Common.{◌≡◌, ℕ, zero, suc, [], Option, refl, sym, ap, ◌∙◌, arith}
use Rattle.ob_heap_spec.specs.Values.{Value}
use Rattle.ob_heap_spec.specs.Worlds.{World}
use Rattle.ob_silica_steps.specs.Cells.{Cell, value_in}
use Rattle.ob_silica_steps.specs.Configurations.{SilicaProgram, leaves, Configuration, NextStep, goes, ended, aborted, stuck}
use Rattle.ob_silica_steps.specs.Returning.{left_world}
use Rattle.ob_silica_steps.specs.Steps.{step, then_steps, steps}
use Rattle.ob_coherent_spec.specs.Remaining.{IsCheckedProgram}
use Rattle.ob_coherent_spec.specs.Coherent.{Beginning, IsCoherent, running, leaving, returning, StepsSo}
use Rattle.ob_soundness_laws.specs.Running.{StepsKeep, StaysSo, GoesOrEnds, EndsFrom}
use Rattle.ob_soundness_laws.proofs.Staying.{goes_or_ends}

pub stays_itself : (c : Configuration) → StaysSo c c
stays_itself c = record {
  handles = refl;
  share_entered = refl;
  longer = omega arith;
  shared = λ n e. e;
  few = λ e. e;
}

pub stays_then : (c d e : Configuration) → StaysSo c d → StaysSo d e → StaysSo c e
stays_then c d e a b = record {
  handles = b.handles ∙ a.handles;
  share_entered = b.share_entered ∙ a.share_entered;
  longer = omega (arith, a.longer, b.longer);
  shared = λ n s. b.shared n (a.shared n s);
  few = λ s. b.few (a.few s);
}

module _ (keep : StepsKeep) (program : SilicaProgram) (checked : IsCheckedProgram program) (entry : Option ℕ)
    (beginning : Beginning) (first : Configuration) (result : Option Value) (w : World) where
  -- where a configuration's step ends the run
  ends_here : (c : Configuration) → IsCoherent program.table entry beginning c → StaysSo first c
      → (r : Option Cell) → c.control ≡ leaves r [] → c.stack ≡ [] → result ≡ value_in r → w ≡ left_world c
      → EndsFrom program.table entry beginning first result w
  ends_here c (running k) stays r control alone gives world = absurd (let z = sym k.control ∙ control in cc)
  ends_here c (leaving k) stays r control alone gives world =
      let z : leaves k.result k.outer ≡ leaves r [] = sym k.control ∙ control in
      record {
        last = c;
        leaving = k;
        outer = cc;
        alone = alone;
        gives = gives ∙ ap value_in (let y : r ≡ k.result = cc in y);
        world = world;
        stays = stays;
      }
  ends_here c (returning k) stays r control alone gives world = absurd (let z = sym k.stack ∙ alone in cc)

  -- where the rest of the run ends it
  after_step : (c : Configuration) → IsCoherent program.table entry beginning c → StaysSo first c → (go : Configuration → NextStep)
      → ((d : Configuration) → IsCoherent program.table entry beginning d → StaysSo first d → go d ≡ ended result w
      → EndsFrom program.table entry beginning first result w)
      → (next : NextStep) → StepsSo program.table entry beginning next → GoesOrEnds c next
      → then_steps next go ≡ ended result w → EndsFrom program.table entry beginning first result w
  after_step c coherent stays go rest (goes d) so on e = rest d so (stays_then first c d stays on) e
  after_step c coherent stays go rest (ended r v) so on e =
      let same : result ≡ r = cc in let world : w ≡ v = cc in
      ends_here c coherent stays on.0 on.1 on.2 (same ∙ on.3) (world ∙ on.4)
  after_step c coherent stays go rest (aborted cause s) so on e = absurd cc
  after_step c coherent stays go rest stuck so on e = absurd so

  -- any number of steps
  pub run_ends : (n : ℕ) (c : Configuration) → IsCoherent program.table entry beginning c → StaysSo first c
      → steps program n c ≡ ended result w → EndsFrom program.table entry beginning first result w
  run_ends zero c coherent stays e = absurd cc
  run_ends (suc n) c coherent stays e = after_step c coherent stays (steps program n) (run_ends n) (step program c)
      (keep program entry beginning c checked coherent) (goes_or_ends program c) e
