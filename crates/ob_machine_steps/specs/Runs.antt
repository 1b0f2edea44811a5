-- Runs, whole and in slices of units (this project's own).
use Rattle.std.specs.Prelude.{◌≡◌, ℕ, zero, suc, ◌-◌, nat_eq, nat_lt, Bool, true, false, ◌&&◌, Option, Some, None, if◌then◌else◌, ⊤}
use Rattle.std.specs.Option.{option_map_or}
use Rattle.ob_heap_spec.specs.Worlds.{World}
use Rattle.ob_code.specs.declared.image.Image.{Image}
use Rattle.ob_code.specs.declared.instruction.Instruction.{Instruction}
use Rattle.ob_code.specs.declared.instruction.Instruction.TheVariants as instruction
use Rattle.ob_machine_steps.specs.Configurations.{End, Next, goes, stops}
use Rattle.ob_machine_steps.specs.Steps.{next_instruction}
use Rattle.ob_machine_steps.specs.Entries.{Phase, starting, running, next_step, HasStep}

-- Whole runs.

-- how far a run has come: it is paused here; it is over
pub data Stop : Type 0 where
  paused : Phase → Stop
  over : End → Stop

-- what follows a step, unless the run is over
abbrev pub after_step : Option Next → (Phase → Option Stop) → Option Stop
after_step None go = None
after_step (Some (goes c)) go = go (running c)
after_step (Some (stops end)) go = Some (over end)

-- how far a run has come after so many steps, or when it was over; where it had no next step there is none
abbrev pub after_steps : Image → ℕ → Phase → Option Stop
after_steps image zero p = Some (paused p)
after_steps image (suc n) p = after_step (next_step image p) (after_steps image n)

-- a run goes on no more: it is over, or had no next step
abbrev pub GoesNoFurther : Option Stop → Type 0
GoesNoFurther None = ⊤
GoesNoFurther (Some (paused p)) = ⊥
GoesNoFurther (Some (over end)) = ⊤

-- Units.

-- whether an instruction takes a unit
abbrev pub takes_unit : Instruction → Bool
takes_unit instruction.Unit = true
takes_unit (instruction.New k contract args) = true
takes_unit (instruction.Call k a contract tx args) = true
takes_unit (instruction.SelfCall k tx args) = true
takes_unit other = false

-- the world of a run
abbrev pub world_of : Phase → World
world_of (starting e w) = w
world_of (running c) = c.world

-- whether the next step of a run needs a unit
abbrev pub needs_unit : Image → Phase → Bool
needs_unit image (starting e w) = true
needs_unit image (running c) = option_map_or takes_unit (next_instruction image c) false

-- whether the next step of a run takes a unit: it needs one, and the run has one left
abbrev pub pays : Image → Phase → Bool
pays image p = needs_unit image p && nat_lt 0 (world_of p).fuel

-- whether a slice with so many units waits: the next step takes a unit, which the slice hasn't
abbrev pub waits : Image → ℕ → Phase → Bool
waits image units p = pays image p && nat_eq units 0

-- the units that a slice has after a step
abbrev pub left_after : Bool → ℕ → ℕ
left_after paid units = if paid then units - 1 else units

-- Slices.

-- where a slice of so many units stops, if it stops within so many steps: with the run, or where it waits
abbrev pub run_in : Image → ℕ → ℕ → Phase → Option Stop
run_in image zero units p = None
run_in image (suc n) units p =
    if waits image units p then Some (paused p)
    else after_step (next_step image p) (run_in image n (left_after (pays image p) units))

-- A slice of so many units stops so.
pub record Slices (image : Image) (units : ℕ) (p : Phase) (s : Stop) : Type 0 where
  pub steps : ℕ
  pub by : run_in image steps units p ≡ Some s

-- what is met after a step
abbrev pub met_after : Option Next → (Phase → Option Phase) → Option Phase
met_after None go = None
met_after (Some (goes c)) go = go (running c)
met_after (Some (stops end)) go = None

-- where a run is after so many steps of a slice, if the slice goes on from there
abbrev pub met_in : Image → ℕ → ℕ → Phase → Option Phase
met_in image zero units p = if waits image units p then None else Some p
met_in image (suc n) units p =
    if waits image units p then None
    else met_after (next_step image p) (met_in image n (left_after (pays image p) units))

-- Wherever a slice goes on, the run has a next step.
pub record IsSoundIn (image : Image) (units : ℕ) (p : Phase) : Type 0 where
  pub at : (n : ℕ) (q : Phase) → met_in image n units p ≡ Some q → HasStep image q
