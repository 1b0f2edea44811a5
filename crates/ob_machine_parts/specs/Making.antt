-- How the code makes an object (this project's own).
use Rattle.std.specs.Prelude.{◌≡◌, ◌<◌, ◌≤◌, length, List, Option, Some, None}
use Rattle.ob_base.specs.Limits.{most_objects}
use Rattle.ob_base.specs.declared.id.ContractId.{ContractId}
use Rattle.ob_base.specs.declared.id.ObjectId.{ObjectId}
use Rattle.ob_heap_spec.specs.Objects.{unfinished}
use Rattle.ob_heap_spec.specs.Worlds.{with_read, next_item, make_object, SameWorld}
use Rattle.ob_heap.specs.declared.object.Object.{Object}
use Rattle.ob_heap.specs.Overlays.{Changes, objects_over}
use Rattle.ob_machine_parts.specs.Guards.{Guarded}
use Rattle.ob_machine_parts.specs.Shown.{world_with}
use Rattle.ob_machine_parts.specs.Units.{Metered}

-- An object was made, with the next number, or there are as many as there may be; which number is the next was read.
abbrev pub Makes : List Object → ContractId → Changes → Changes → Option ObjectId → Type 0
Makes base contract old new (Some id) =
    (length (objects_over base old) < most_objects)
    × (length (objects_over base old) ≡ id.0)
    × ((g : Guarded) (u : Metered) → SameWorld (make_object (with_read (world_with g u base old) next_item) (unfinished contract)) (world_with g u base new))
Makes base contract old new None =
    (most_objects ≤ length (objects_over base old))
    × ((g : Guarded) (u : Metered) → SameWorld (with_read (world_with g u base old) next_item) (world_with g u base new))
