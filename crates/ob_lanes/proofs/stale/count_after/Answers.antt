use Rattle.std.proofs.Common.{◌+◌, ◌<◌, length, rules, arith, subst, sym}
use Rattle.ob_lanes.proofs.Counting.{AreCounted, counted_first, counted_more, counted_last}
use Rattle.ob_lanes.proofs.stale.count_after.Goals as goal

pub loop-entry-init : goal.loop-entry-init
loop-entry-init c = subst (AreCounted c.args.before.now.handles c.args.handles.now 0) (sym c.count_handles-count.ensures.count) (counted_first c.args.before.now.handles c.args.handles.now)

pub loop-entry-preserved : goal.loop-entry-preserved
loop-entry-preserved c =
    let less : c.loop-entry.entry-index < length c.args.handles.now = search rules in
    subst (AreCounted c.args.before.now.handles c.args.handles.now (c.loop-entry.entry-index + 1)) (sym c.counted_with-count.ensures)
    (counted_more c.args.before.now.handles c.args.handles.now c.loop-entry.entry-index c.loop-entry.count c.entry-item.result c.handle-old.result less
    c.entry-item.is c.handle-old.ensures c.loop-entry.invariant)

pub returns : goal.returns
returns c =
    counted_last c.args.before.now.handles c.args.handles.now c.loop-entry.entry-index c.loop-entry.count (omega arith) c.count_handles-count.ensures.order c.requires.order c.loop-entry.invariant
