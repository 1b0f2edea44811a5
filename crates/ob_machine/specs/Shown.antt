-- For which phase of a run the code's state stands (this project's own).
use Rattle.std.specs.Prelude.{List, map, reverse, Option, Some, None, option_map, ◌≡◌, Result, Ok, Err, ⊤}
use Rattle.ob_heap_spec.specs.Worlds.{World, AbortCause, by_revert, by_state, by_reentry, by_overflow, by_fuel, by_full}
use Rattle.ob_heap.specs.declared.object.Object.{Object}
use Rattle.ob_heap.specs.Plain.{value_of}
use Rattle.ob_heap.specs.Overlays.{Changes}
use Rattle.ob_machine_steps.specs.Configurations.{MachineFrame, Configuration, ended, Next, goes, stops, abort}
use Rattle.ob_machine_laws.specs.Laws.{SameNext}
use Rattle.ob_machine_parts.specs.Shown.{slots_of, tests_of, entered_of, world_with}
use Rattle.ob_machine_parts.specs.declared.off.Off.{Off}
use Rattle.ob_machine_parts.specs.declared.off.Off.TheVariants.{Memory, NoStep}
use Rattle.ob_machine.specs.declared.frame.Frame.{Frame}
use Rattle.ob_machine.specs.declared.run.Run.{Run}
use Rattle.ob_machine.specs.declared.progress.Cause.{Cause}
use Rattle.ob_machine.specs.declared.progress.Cause.TheVariants.{Revert, State, Reentry, Overflow, Fuel, Full}
use Rattle.ob_machine.specs.declared.progress.Progress.{Progress}
use Rattle.ob_machine.specs.declared.progress.Progress.TheVariants.{Finished, Aborted, Going}

-- Frames.

-- a frame
abbrev pub frame_of : Frame → MachineFrame
frame_of f = record {
  this = f.this.0;
  contract = f.contract;
  tx = f.tx;
  at = f.at;
  slots = slots_of f.slots;
  entered = entered_of f.entered;
  share_entered = f.share_entered;
  tests = tests_of f.tests;
  into = f.into;
}

-- frames that wait, the newest first
abbrev pub frames_of : List Frame → List MachineFrame
frames_of frames = reverse (map frame_of frames)

-- The world.

-- the world of a run on the objects of a store with the changes laid over them
abbrev pub world_of : Run → List Object → Changes → World
world_of m base o = world_with m.guard m.units base o

-- Runs.

-- the configuration for which a run stands
abbrev pub shown : Run → List Object → Changes → Configuration
shown m base o = record { top = frame_of m.top; below = frames_of m.below; world = world_of m base o }

-- Steps.

-- why a run aborts
abbrev pub cause_of : Cause → AbortCause
cause_of (Revert text) = by_revert text
cause_of (State id state) = by_state id.0 state
cause_of (Reentry id) = by_reentry id.0
cause_of (Overflow line) = by_overflow line
cause_of Fuel = by_fuel
cause_of Full = by_full

-- what the code tells of a step after which the machine represents this configuration
abbrev pub told : Configuration → Progress → Next
told c Going = goes c
told c (Finished result) = stops (ended (option_map value_of result) c.world)
told c (Aborted cause) = abort (cause_of cause) c.world

-- the code makes the step of the definition, after which the machine represents this configuration, up to the order of what was
-- read; or there is no step; or memory ran out
abbrev pub Tells : Result Progress Off → Option Next → Configuration → Type 0
Tells (Ok progress) spec c = SameNext spec (Some (told c progress))
Tells (Err NoStep) spec c = spec ≡ None
Tells (Err Memory) spec c = ⊤
