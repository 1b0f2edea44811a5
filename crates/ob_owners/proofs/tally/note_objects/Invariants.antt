use Rattle.std.proofs.Common.{◌≡◌, drop, map}
use Rattle.ob_heap.specs.Plain.{object_of}
use Rattle.ob_code_table.specs.ImageTables.{table_of_image}
use Rattle.ob_rest_spec.specs.References.{field_references}
use Rattle.ob_owners.specs.Noting.{holding_of_field, after_holdings}
use Rattle.ob_owners.proofs.NotingLemmas.{references_after}
use Rattle.ob_owners.proofs.tally.note_objects.Given as goal

-- the rest of the objects leads to where all of them lead
abbrev pub invariant-loop-object : goal.invariant-loop-object
invariant-loop-object l =
    after_holdings (map (holding_of_field (table_of_image l.code) (map object_of l.objects))
    (references_after (table_of_image l.code) l.object-index (drop l.object-index l.objects))) l.tallies
    ≡ after_holdings (map (holding_of_field (table_of_image l.code) (map object_of l.objects))
    (field_references (table_of_image l.code) (map object_of l.objects))) l.fn.tallies
