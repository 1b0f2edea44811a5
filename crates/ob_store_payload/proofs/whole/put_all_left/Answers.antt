use Rattle.std.proofs.Common.{◌<◌, [], length, rules}
use Rattle.ob_store_payload.specs.Whole.{course}
use Rattle.ob_store_payload.proofs.Courses.{kept_left}
use Rattle.ob_store_payload.proofs.whole.put_all_left.Goals as goal

pub loop-change-preserved : goal.loop-change-preserved
loop-change-preserved c =
    let changes = c.args.changes.now in
    let less : c.loop-change.change-index < length changes = search rules in
    kept_left changes c.loop-change.change-index c.change-item.result less c.change-item.is (course c.args.out.now.items [] changes)
    c.loop-change.out.items c.put_left.new.out.items c.loop-change.invariant c.in_ok-put_left.ensures
