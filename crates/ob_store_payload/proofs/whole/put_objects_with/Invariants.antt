use Rattle.std.proofs.Common.{◌≡◌, ◌++◌, drop}
use Rattle.ob_code_table.specs.ImageTables.{table_of_image}
use Rattle.ob_store_payload.specs.Whole.{objects_with}
use Rattle.ob_store_payload.proofs.whole.put_objects_with.Given as goal

-- the objects so far are written
abbrev pub invariant-loop-place : goal.invariant-loop-place
invariant-loop-place l =
    l.fn.out.items ++ objects_with (table_of_image l.code) 0 l.objects l.changes
    ≡ l.out.items ++ objects_with (table_of_image l.code) l.place (drop l.place l.objects) l.rest
