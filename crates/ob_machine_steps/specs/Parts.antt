-- What instructions do to parts of a configuration, one effect each (this project's own). Where there is none, there is no step.
use Rattle.std.specs.Prelude.{ℕ, zero, suc, ◌+◌, List, ◌∷◌, Option, Some}
use Rattle.ob_base.specs.Optional.{◌>>=◌}
use Rattle.ob_heap_spec.specs.Values.{Value}
use Rattle.ob_heap_spec.specs.Objects.{Object}
use Rattle.ob_heap_spec.specs.Contents.{object_at}
use Rattle.ob_heap_spec.specs.Worlds.{World, by_fuel, with_unit_taken}
use Rattle.ob_machine_steps.specs.Slots.{Slots, with_value_at}
use Rattle.ob_machine_steps.specs.Configurations.{MachineFrame, Configuration, Next, goes, abort}

-- the innermost frame goes on at this place
abbrev pub moved_to : ℕ → Configuration → Configuration
moved_to place c = record c { top = record c.top { at = place } }

-- the innermost frame goes on behind its instruction
abbrev pub moved_on : Configuration → Configuration
moved_on c = moved_to (c.top.at + 1) c

-- the innermost frame has these slots
abbrev pub with_slots : Slots → Configuration → Configuration
with_slots slots c = record c { top = record c.top { slots = slots } }

-- the world is this one
abbrev pub with_world : World → Configuration → Configuration
with_world w c = record c { world = w }

-- the step to the next instruction
abbrev pub goes_on : Configuration → Option Next
goes_on c = Some (goes (moved_on c))

-- the step to the instruction at a place
abbrev pub goes_to : ℕ → Configuration → Option Next
goes_to place c = Some (goes (moved_to place c))

-- a slot gets a value, and the next instruction follows
abbrev pub sets : ℕ → Value → Configuration → Option Next
sets k v c = with_value_at c.top.slots k v >>= λ slots. goes_on (with_slots slots c)

-- the object that is `this`
abbrev pub this_object : Configuration → Option Object
this_object c = object_at c.world.objects c.top.this

-- what follows where so many units are left, at least one, of which one is taken; where none is left the run aborts
abbrev pub with_units : ℕ → World → (World → Option Next) → Option Next
with_units zero w go = Some (abort by_fuel w)
with_units (suc n) w go = go (with_unit_taken w n)

-- a unit is taken
abbrev pub with_unit : World → (World → Option Next) → Option Next
with_unit w go = with_units w.fuel w go

-- the frames that wait while the innermost one calls: it goes on behind the call
abbrev pub waiting : Configuration → List MachineFrame
waiting c = (moved_on c).top ∷ c.below
