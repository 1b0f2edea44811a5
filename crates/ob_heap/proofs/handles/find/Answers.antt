use Rattle.std.proofs.Common.{◌∙◌, ◌≤◌, ap, sym, subst, length}
use Rattle.ob_heap.specs.Blocks.{joined}
use Rattle.ob_heap.specs.Contents.{handle_at, IsInOrder}
use Rattle.ob_heap_spec.specs.Contents.{HandleName}
use Rattle.ob_heap.proofs.BlocksLemmas.{order_at, find_at, no_blocks}
use Rattle.ob_heap.proofs.handles.find.Goals as goal

pub returns-then-place-blocks : goal.returns-then-place-blocks
returns-then-place-blocks c =
    let bs = c.args.blocks.now in
    let k : HandleName = record { who = c.args.who.now; name = c.args.name.now } in
    let none = no_blocks (c.args.who.now, c.args.name.now) bs (subst (λ p. length bs ≤ p) c.block_of-place.ensures c.if-place-blocks.true) in
    ap (λ cs. handle_at k (joined cs)) (sym none)

pub find-requires : goal.find-requires
find-requires c =
    subst IsInOrder (sym c.as_slice.ensures)
    (order_at (c.args.who.now, c.args.name.now) c.args.blocks.now c.block_of-place.result c.index-blocks-place.result
    (record { order = c.requires.order; filled = c.requires.filled; place = c.block_of-place.ensures; within = c.if-place-blocks.false; block = c.index-blocks-place.is }))

pub returns : goal.returns
returns c =
    let k : HandleName = record { who = c.args.who.now; name = c.args.name.now } in
    c.find.ensures ∙ ap (handle_at k) c.as_slice.ensures
    ∙ find_at (c.args.who.now, c.args.name.now) c.args.blocks.now c.block_of-place.result c.index-blocks-place.result
    (record { order = c.requires.order; filled = c.requires.filled; place = c.block_of-place.ensures; within = c.if-place-blocks.false; block = c.index-blocks-place.is })
