use Rattle.std.proofs.Common.{◌<◌, ◌≤◌, [], length, rules}
use Rattle.ob_heap.specs.Blocks.{joined}
use Rattle.ob_store_payload.specs.Whole.{course}
use Rattle.ob_store_payload.proofs.Courses.{blocks_more, blocks_end}
use Rattle.ob_store_payload.proofs.whole.put_handles_with.Goals as goal

pub loop-block-preserved : goal.loop-block-preserved
loop-block-preserved c =
    let blocks = c.args.blocks.now in
    let less : c.loop-block.block-index < length blocks = search rules in
    blocks_more blocks c.loop-block.block-index c.block-item.result c.as_slice.result.now less c.block-item.is c.as_slice.ensures
    (course c.args.out.now.items (joined blocks) c.args.changes.now) c.loop-block.out.items c.put_some_handles.new.out.items c.loop-block.rest.now
    c.in_ok-rest.rest.now c.loop-block.invariant c.in_ok-rest.ensures

pub returns : goal.returns
returns c =
    let blocks = c.args.blocks.now in
    let all : length blocks ≤ c.loop-block.block-index = search rules in
    blocks_end blocks c.loop-block.block-index all (course c.args.out.now.items (joined blocks) c.args.changes.now) (course c.put_all_left.new.out.items [] [])
    c.loop-block.out.items c.loop-block.rest.now c.loop-block.invariant c.in_ok-put_all_left.ensures
