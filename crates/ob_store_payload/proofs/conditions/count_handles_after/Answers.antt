use Rattle.std.proofs.Common.{◌+◌, ◌<◌, length, rules, subst, sym}
use Rattle.ob_store_payload.proofs.TallyLemmas.{AreCounted, counted_first, counted_more}
use Rattle.ob_store_payload.proofs.conditions.count_handles_after.Goals as goal

pub loop-entry-init : goal.loop-entry-init
loop-entry-init c =
    subst (AreCounted c.args.content.now.handles c.args.handles.now 0) (sym c.count_handles-count.ensures.count)
    (counted_first c.args.content.now.handles c.args.handles.now c.count_handles-count.ensures.order c.requires.order)

pub loop-entry-preserved : goal.loop-entry-preserved
loop-entry-preserved c =
    let less : c.loop-entry.entry-index < length c.args.handles.now = search rules in
    subst (AreCounted c.args.content.now.handles c.args.handles.now (c.loop-entry.entry-index + 1)) (sym c.counted_with-count.ensures)
    (counted_more c.args.content.now.handles c.args.handles.now c.loop-entry.entry-index c.loop-entry.count c.entry-item.result c.handle-before.result less
    c.entry-item.is c.handle-before.ensures c.loop-entry.invariant)
