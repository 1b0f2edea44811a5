use Rattle.std.proofs.Common.{◌∙◌, ◌<◌, ◌∷◌, length, sym, rules}
use Rattle.ob_store_payload.specs.Whole.{course}
use Rattle.ob_store_payload.proofs.Courses.{kept_before, kept_same, kept_after}
use Rattle.ob_store_payload.proofs.whole.put_next_handle.Goals as goal

pub returns-in-Equal : goal.returns-in-Equal
returns-in-Equal c hs =
    let changes = c.args.changes.now in
    let h = c.args.handle.now in
    let less : c.loop-place.place < length changes = search rules in
    kept_same changes c.loop-place.place c.index-changes-place.result less c.index-changes-place.is (course c.args.out.now.items (h ∷ hs) changes)
    c.loop-place.out.items c.put_left-in-Equal.new.out.items h hs (c.loop-place.invariant hs) (sym c.order.ensures ∙ c.in-Equal.is)
    c.in_ok-put_left-in-Equal.ensures

pub returns-in-Greater : goal.returns-in-Greater
returns-in-Greater c hs =
    let changes = c.args.changes.now in
    let h = c.args.handle.now in
    let less : c.loop-place.place < length changes = search rules in
    kept_after changes c.loop-place.place c.index-changes-place.result less c.index-changes-place.is (course c.args.out.now.items (h ∷ hs) changes)
    c.loop-place.out.items c.put_handle.new.out.items h hs (c.loop-place.invariant hs) (sym c.order.ensures ∙ c.in-Greater.is)
    c.in_ok-put_handle-in-Greater.ensures

pub loop-place-preserved : goal.loop-place-preserved
loop-place-preserved c hs =
    let changes = c.args.changes.now in
    let h = c.args.handle.now in
    let less : c.loop-place.place < length changes = search rules in
    kept_before changes c.loop-place.place c.index-changes-place.result less c.index-changes-place.is (course c.args.out.now.items (h ∷ hs) changes)
    c.loop-place.out.items c.put_left.new.out.items h hs (c.loop-place.invariant hs) (sym c.order.ensures ∙ c.in-Less.is)
    c.in_ok-put_left-in-Less.ensures
