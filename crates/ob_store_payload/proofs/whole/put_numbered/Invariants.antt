use Rattle.std.proofs.Common.{◌≡◌, ◌++◌, map, drop}
use Rattle.ob_code_table.specs.ImageTables.{table_of_image}
use Rattle.ob_format_spec.specs.Combinators.{each_bytes}
use Rattle.ob_store_laws.specs.Recorded.{object_change}
use Rattle.ob_store_spec.specs.Payloads.{object}
use Rattle.ob_store_payload.proofs.whole.put_numbered.Given as goal

-- the objects so far are written
abbrev pub invariant-loop-entry : goal.invariant-loop-entry
invariant-loop-entry l =
    l.out.items ++ each_bytes (object (table_of_image l.code)).bytes (map (object_change (table_of_image l.code)) (drop l.entry-index l.objects))
    ≡ l.fn.out.items ++ each_bytes (object (table_of_image l.code)).bytes (map (object_change (table_of_image l.code)) l.objects)
