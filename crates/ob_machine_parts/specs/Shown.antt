-- What the code keeps of a run, as the definitions see it (this project's own).
use Rattle.std.specs.Prelude.{ℕ, Bool, if◌then◌else◌, List, [], ◌∷◌, ◌++◌, length, map, reverse, Option, option_map}
use Rattle.ob_base.specs.declared.id.ObjectId.{ObjectId}
use Rattle.ob_heap_spec.specs.Worlds.{World, ReadItem, object_item, next_item}
use Rattle.ob_heap.specs.declared.object.Object.{Object}
use Rattle.ob_heap.specs.declared.value.Value.{Value}
use Rattle.ob_heap.specs.Plain.{value_of}
use Rattle.ob_heap.specs.Overlays.{Changes, objects_over}
use Rattle.ob_machine_steps.specs.Slots.{Slots}
use Rattle.ob_machine_steps.specs.Configurations.{Entered, on_receiver, on_this, on_new}
use Rattle.ob_machine_parts.specs.Guards.{Guarded}
use Rattle.ob_machine_parts.specs.Units.{Metered}
use Rattle.ob_machine_parts.specs.declared.entered.EnteredBy.{EnteredBy}
use Rattle.ob_machine_parts.specs.declared.entered.EnteredBy.TheVariants.{Receiver, This, New}

-- Frames.

-- the number of an object
abbrev pub number_of : ObjectId → ℕ
number_of id = id.0

-- what slots hold
abbrev pub slots_of : List (Option Value) → Slots
slots_of slots = map (option_map value_of) slots

-- noted tests, the newest first, each with the object that it has locked
abbrev pub tests_of : List (Option ObjectId) → List (Option ℕ)
tests_of tests = reverse (map (option_map number_of) tests)

-- how a frame was entered
abbrev pub entered_of : EnteredBy → Entered
entered_of Receiver = on_receiver
entered_of This = on_this
entered_of New = on_new

-- The world.

-- whether it was read which number is the next, as a list
abbrev pub next_read : Bool → List ReadItem
next_read next = if next then next_item ∷ [] else []

-- what was read, each item once
abbrev pub reads_of : Changes → List ReadItem
reads_of o = next_read o.next ++ map object_item o.reads

-- the world of a run with these locks and units, on the objects of a store with the changes laid over them
abbrev pub world_with : Guarded → Metered → List Object → Changes → World
world_with g u base o = record {
  objects = objects_over base o;
  made = length o.made;
  locked = g.locked;
  progress = g.progress;
  fuel = u.fuel;
  taken = u.taken;
  reads = reads_of o;
}
