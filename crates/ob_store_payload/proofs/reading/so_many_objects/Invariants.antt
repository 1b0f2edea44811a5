use Rattle.std.proofs.Common.{◌≡◌, ◌-◌, map, All}
use Rattle.ob_format_spec.specs.Combinators.{read_times}
use Rattle.ob_format.proofs.Loops.{prefixed}
use Rattle.ob_heap.specs.Plain.{object_of}
use Rattle.ob_code_table.specs.ImageTables.{table_of_image}
use Rattle.ob_store_laws.specs.Recorded.{object_change}
use Rattle.ob_store_spec.specs.Payloads.{object}
use Rattle.ob_store_payload.specs.Values.{HasItsValues}
use Rattle.ob_store_payload.proofs.reading.so_many_objects.Given as goal

-- the objects so far were read, and have their values
abbrev pub invariant-objects : goal.invariant-objects
invariant-objects l =
    (prefixed (map (object_change (table_of_image l.code)) l.objects) (read_times (object (table_of_image l.code)).read (l.count - l.counter) l.rest)
    ≡ read_times (object (table_of_image l.code)).read l.count l.bytes)
    × All (λ e. HasItsValues (table_of_image l.code) (object_of e.1)) l.objects
