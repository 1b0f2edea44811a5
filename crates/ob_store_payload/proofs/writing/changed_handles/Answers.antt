use Rattle.std.proofs.Common.{rules, length, ◌<◌}
use Rattle.std.specs.Prelude.{not}
use Rattle.ob_heap.specs.Contents.{content_of}
use Rattle.ob_store_laws.specs.Recorded.{handle_change}
use Rattle.ob_store_spec.specs.Payloads.{handle}
use Rattle.ob_store_spec.specs.Between.{is_held_so}
use Rattle.ob_store_payload.proofs.RowLemmas.{rows_step}
use Rattle.ob_store_payload.proofs.writing.changed_handles.Goals as goal

pub loop-entry-preserved : goal.loop-entry-preserved
loop-entry-preserved c =
    let less : c.loop-entry.entry-index < length c.args.handles.now = search rules in
    rows_step handle.bytes (λ h. not (is_held_so (content_of c.args.content.now) h)) handle_change
    c.args.handles.now c.loop-entry.entry-index c.entry-item.result c.loop-entry.rows c.add_handle.new.rows less c.entry-item.is c.loop-entry.invariant c.in_ok-add_handle.ensures
