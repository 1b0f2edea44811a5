use Rattle.std.proofs.Common.{rules, length, ◌<◌}
use Rattle.std.specs.Prelude.{not}
use Rattle.ob_heap.specs.Contents.{content_of}
use Rattle.ob_code_table.specs.ImageTables.{table_of_image}
use Rattle.ob_store_laws.specs.Recorded.{object_change}
use Rattle.ob_store_spec.specs.Payloads.{object}
use Rattle.ob_store_spec.specs.Between.{is_stored_so}
use Rattle.ob_store_payload.proofs.RowLemmas.{rows_step}
use Rattle.ob_store_payload.proofs.writing.changed_objects.Goals as goal

pub loop-entry-preserved : goal.loop-entry-preserved
loop-entry-preserved c =
    let table = table_of_image c.args.code.now in
    let less : c.loop-entry.entry-index < length c.args.objects.now = search rules in
    rows_step (object table).bytes (λ o. not (is_stored_so table (content_of c.args.content.now).objects o)) (object_change table)
    c.args.objects.now c.loop-entry.entry-index c.entry-item.result c.loop-entry.rows c.add_object.new.rows less c.entry-item.is c.loop-entry.invariant c.in_ok-add_object.ensures
