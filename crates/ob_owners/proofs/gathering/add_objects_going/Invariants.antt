use Rattle.std.proofs.Common.{◌≡◌, ◌++◌, drop, map}
use Rattle.std.specs.Prelude.{flat_map}
use Rattle.ob_code_table.specs.ImageTables.{table_of_image}
use Rattle.ob_owners.specs.Owning.{owning_of, owning_by_object, objects_going}
use Rattle.ob_owners.proofs.gathering.add_objects_going.Given as goal

-- what is gathered, and the rest, are what all lead to
abbrev pub invariant-loop-change : goal.invariant-loop-change
invariant-loop-change l = map owning_of l.found.items ++ flat_map (owning_by_object (table_of_image l.code)) (objects_going l.content (drop l.change-index l.changes)) ≡ map owning_of l.fn.found.items ++ flat_map (owning_by_object (table_of_image l.code)) (objects_going l.content l.changes)
