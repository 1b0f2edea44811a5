-- How the code runs a slice (this project's own).
use Rattle.std.specs.Prelude.{◌≡◌, ◌≤◌, ℕ, nat_eq, Bool, true, false, ◌&&◌, List, Option, Some, None, option_map, Result, Ok, Err, ⊤}
use Rattle.ob_heap_spec.specs.Worlds.{spent}
use Rattle.ob_code.specs.declared.image.Image.{Image}
use Rattle.ob_heap.specs.declared.object.Object.{Object}
use Rattle.ob_heap.specs.Overlays.{Changes}
use Rattle.ob_heap.specs.Plain.{value_of}
use Rattle.ob_machine_steps.specs.Configurations.{ended, aborted}
use Rattle.ob_machine_steps.specs.Entries.{Phase, next_step}
use Rattle.ob_machine_steps.specs.Runs.{world_of as world_of_phase, Stop, paused, over, waits, pays, left_after, Slices, met_in, IsSoundIn}
use Rattle.ob_machine_laws.specs.Laws.{SamePhase, SameNext, SameStop}
use Rattle.ob_machine.specs.Phases.{phase_of, HasBegun}
use Rattle.ob_machine.specs.Shown.{cause_of, shown, told, world_of}
use Rattle.ob_machine.specs.declared.machine.Machine.{Machine}
use Rattle.ob_machine_parts.specs.declared.off.Off.{Off}
use Rattle.ob_machine_parts.specs.declared.off.Off.TheVariants.{Memory, NoStep}
use Rattle.ob_machine.specs.declared.progress.Progress.{Progress}
use Rattle.ob_machine.specs.declared.progress.Progress.TheVariants.{Finished, Aborted, Going}
use Rattle.ob_machine.specs.declared.slice.Turn.{Turn}
use Rattle.ob_machine.specs.declared.slice.Turn.TheVariants.{Waits, Made}

-- what a slice has left once it has paid, if it can
abbrev pub Pays : Option ℕ → Bool → ℕ → Type 0
Pays None paid units = (paid && nat_eq units 0) ≡ true
Pays (Some rest) paid units = ((paid && nat_eq units 0) ≡ false) × (rest ≡ left_after paid units)

-- where a slice stops, as the code tells it
abbrev pub stop_told : Machine → List Object → Changes → Progress → Stop
stop_told m base o Going = paused (phase_of m base o)
stop_told m base o (Finished result) = over (ended (option_map value_of result) (world_of m.run base o))
stop_told m base o (Aborted cause) = over (aborted (cause_of cause) (spent (world_of m.run base o)))

-- A slice of so many units stops so, up to the order of what was read, and how often.
pub record StopsSo (image : Image) (units : ℕ) (p : Phase) (s : Stop) : Type 0 where
  pub stop : Stop
  pub by : Slices image units p stop
  pub same : SameStop (Some stop) (Some s)

-- A slice of so many units comes to where the run has no next step.
pub record IsStuckIn (image : Image) (units : ℕ) (p : Phase) : Type 0 where
  pub steps : ℕ
  pub at : Phase
  pub met : met_in image steps units p ≡ Some at
  pub stuck : next_step image at ≡ None

-- what a slice comes to: it stops so, or comes to where the run has no next step
abbrev pub ComesTo : Image → ℕ → Phase → Option Stop → Type 0
ComesTo image units p (Some s) = StopsSo image units p s
ComesTo image units p None = IsStuckIn image units p

-- A slice that comes to where the run has no next step stops nowhere.
abbrev pub StuckSlicesNeverStop : Type 0
StuckSlicesNeverStop = (image : Image) (units : ℕ) (p : Phase) (s : Stop) → IsStuckIn image units p → ¬ (Slices image units p s)

-- A slice of as many units as the run has left stops where the run is over, unless it comes to where there is no next step.
abbrev pub WholeSlicesAreOver : Type 0
WholeSlicesAreOver = (image : Image) (units : ℕ) (p q : Phase) → (world_of_phase p).fuel ≤ units → ¬ (StopsSo image units p (paused q))

-- Of two runs that are the same but for what was read before, a slice of one goes on soundly where the same of the other does.
abbrev pub SoundAlike : Type 0
SoundAlike = (image : Image) (units : ℕ) (p q : Phase) → SamePhase p q → IsSoundIn image units p → IsSoundIn image units q

-- It stops where the other stops.
abbrev pub StopsAlike : Type 0
StopsAlike = (image : Image) (units : ℕ) (p q : Phase) (s : Stop) → SamePhase p q → StopsSo image units q s → StopsSo image units p s

-- It comes to where there is no next step if the other does.
abbrev pub StuckAlike : Type 0
StuckAlike = (image : Image) (units : ℕ) (p q : Phase) → SamePhase p q → IsStuckIn image units q → IsStuckIn image units p

-- The machine waits in a slice, or makes the next step, and the slice has so many units left.
abbrev pub TurnsSo : Image → ℕ → Phase → Turn → Machine → List Object → Changes → Type 0
TurnsSo image left p Waits m base o = (waits image left p ≡ true) × (phase_of m base o ≡ p)
TurnsSo image left p (Made progress rest) m base o =
    (waits image left p ≡ false) × (rest ≡ left_after (pays image p) left)
    × SameNext (next_step image p) (Some (told (shown m.run base o) progress)) × HasBegun m

-- the same where there may be no step, or no memory
abbrev pub Tries : Result Turn Off → Image → ℕ → Phase → Machine → List Object → Changes → Type 0
Tries (Ok turn) image left p m base o = TurnsSo image left p turn m base o
Tries (Err NoStep) image left p m base o = (waits image left p ≡ false) × (next_step image p ≡ None)
Tries (Err Memory) image left p m base o = ⊤
