use Rattle.std.proofs.Common.{◌≡◌, ◌++◌, drop, map}
use Rattle.std.specs.Prelude.{flat_map}
use Rattle.std.specs.List.{enumerate_from}
use Rattle.ob_heap.specs.Plain.{object_of}
use Rattle.ob_code_table.specs.ImageTables.{table_of_image}
use Rattle.ob_owners.specs.Owning.{owning_of, owning_by_object}
use Rattle.ob_owners.proofs.gathering.add_objects.Given as goal

-- what is gathered, and the rest, are what all lead to
abbrev pub invariant-loop-holder : goal.invariant-loop-holder
invariant-loop-holder l = map owning_of l.found.items ++ flat_map (owning_by_object (table_of_image l.code)) (enumerate_from l.holder (map object_of (drop l.holder l.objects))) ≡ map owning_of l.fn.found.items ++ flat_map (owning_by_object (table_of_image l.code)) (enumerate_from 0 (map object_of l.objects))
