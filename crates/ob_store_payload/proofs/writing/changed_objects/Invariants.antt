use Rattle.std.proofs.Common.{map, take}
use Rattle.std.specs.Prelude.{not, filter}
use Rattle.ob_heap.specs.Contents.{content_of}
use Rattle.ob_code_table.specs.ImageTables.{table_of_image}
use Rattle.ob_store_laws.specs.Recorded.{object_change}
use Rattle.ob_store_spec.specs.Payloads.{object}
use Rattle.ob_store_spec.specs.Between.{is_stored_so}
use Rattle.ob_store_payload.specs.Rows.{AreRows}
use Rattle.ob_store_payload.proofs.writing.changed_objects.Given as goal

-- the rows of the objects so far
abbrev pub invariant-loop-entry : goal.invariant-loop-entry
invariant-loop-entry l =
    AreRows (object (table_of_image l.code)).bytes
    (filter (λ o. not (is_stored_so (table_of_image l.code) (content_of l.content).objects o)) (map (object_change (table_of_image l.code)) (take l.entry-index l.objects)))
    l.rows
