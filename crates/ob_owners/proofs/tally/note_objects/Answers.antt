use Rattle.std.proofs.Common.{◌∙◌, map}
use Rattle.ob_heap.specs.Plain.{object_of}
use Rattle.ob_code_table.specs.ImageTables.{table_of_image}
use Rattle.ob_owners.specs.Noting.{holding_of_field}
use Rattle.ob_owners.proofs.NotingLemmas.{objects_noted}
use Rattle.ob_owners.proofs.tally.note_objects.Goals as goal

pub loop-object-preserved : goal.loop-object-preserved
loop-object-preserved c =
    objects_noted (holding_of_field (table_of_image c.args.code.now) (map object_of c.args.objects.now)) (table_of_image c.args.code.now)
    c.args.objects.now c.loop-object.object-index c.object-item.result c.loop-object.tallies c.note_object.new.tallies c.loop-object-test.true
    c.object-item.is (c.note_object.ensures c.loop-object.object-index)
    ∙ c.loop-object.invariant
