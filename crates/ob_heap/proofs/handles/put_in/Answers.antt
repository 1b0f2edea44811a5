use Rattle.std.proofs.Common.{◌∙◌, ◌<◌, ap, sym, subst, [], length, set}
use Rattle.std.proofs.lemmas.List.{get_or_default}
use Rattle.ob_heap.specs.Blocks.{block_size, joined}
use Rattle.ob_heap.proofs.BlocksLemmas.{order_at, put_at, filled_set, put_filled}
use Rattle.ob_heap.proofs.handles.put_in.Goals as goal

pub put-requires-clause-order : goal.put-requires-clause-order
put-requires-clause-order c =
    let bs = c.args.blocks.now.items in
    let x = c.index_mut.result.now in
    order_at c.args.name bs c.args.place x
    (record { order = c.requires.order; filled = c.requires.filled; place = c.requires.place.0; within = c.requires.place.1; block = c.index_mut.ensures.value })

pub put-requires-clause-room : goal.put-requires-clause-room
put-requires-clause-room c =
    let bs = c.args.blocks.now.items in
    let x = c.index_mut.result.now in
    subst (λ b. length b < block_size) (get_or_default bs c.args.place [] x c.requires.place.1 ∙ sym c.index_mut.ensures.value) c.requires.room

pub returns-clause-items : goal.returns-clause-items
returns-clause-items c =
    let bs = c.args.blocks.now.items in
    let x = c.index_mut.result.now in
    ap (λ b. joined (set bs c.args.place b)) c.put.ensures
    ∙ put_at c.args.name c.args.handle bs c.args.place x
    (record { order = c.requires.order; filled = c.requires.filled; place = c.requires.place.0; within = c.requires.place.1; block = c.index_mut.ensures.value })

pub returns-clause-filled : goal.returns-clause-filled
returns-clause-filled c =
    filled_set c.args.blocks.now.items c.args.place c.put.new.self c.requires.filled
    (subst (λ b. 0 < length b) (sym c.put.ensures) (put_filled c.args.name c.args.handle c.index_mut.result.now))
