use Rattle.ob_heap.specs.Blocks.{joined}
use Rattle.ob_store_payload.proofs.Courses.{delta_ordered, handles_whole}
use Rattle.ob_store_payload.proofs.whole.put_handles.Goals as goal

pub count_handles_after-count-requires-clause-order : goal.count_handles_after-count-requires-clause-order
count_handles_after-count-requires-clause-order c = delta_ordered c.args.changes.now c.requires

pub returns : goal.returns
returns c =
    handles_whole c.args.content.now.handles (joined c.handle_blocks.result.now) c.args.changes.now c.count_handles_after-count.result
    c.args.out.now.items c.put_u32.new.out.items c.put_handles_with.new.out.items c.count_handles.ensures.order c.requires c.handle_blocks.ensures
    c.count_handles_after-count.ensures c.in_ok-put_u32.ensures c.in_ok-put_handles_with.ensures
