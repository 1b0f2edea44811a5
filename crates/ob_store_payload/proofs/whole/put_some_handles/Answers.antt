use Rattle.std.proofs.Common.{◌<◌, ◌≤◌, ◌++◌, length, rules}
use Rattle.ob_store_payload.specs.Whole.{course}
use Rattle.ob_store_payload.proofs.Courses.{handles_more, handles_end}
use Rattle.ob_store_payload.proofs.whole.put_some_handles.Goals as goal

pub loop-handle-preserved : goal.loop-handle-preserved
loop-handle-preserved c hs =
    let handles = c.args.handles.now in
    let less : c.loop-handle.handle-index < length handles = search rules in
    handles_more handles c.loop-handle.handle-index c.handle-item.result less c.handle-item.is (course c.args.out.now.items (handles ++ hs) c.args.changes.now)
    c.loop-handle.out.items c.put_next_handle.new.out.items c.loop-handle.rest.now c.in_ok-rest.rest.now hs (c.loop-handle.invariant hs) c.in_ok-rest.ensures

pub returns : goal.returns
returns c hs =
    let handles = c.args.handles.now in
    let all : length handles ≤ c.loop-handle.handle-index = search rules in
    handles_end handles c.loop-handle.handle-index all (course c.args.out.now.items (handles ++ hs) c.args.changes.now)
    c.loop-handle.out.items c.loop-handle.rest.now hs (c.loop-handle.invariant hs)
