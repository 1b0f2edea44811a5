use Rattle.std.proofs.Common.{◌≡◌, ◌+◌, ◌∙◌, ◌≤◌, suc, ap, sym, subst, [], length, set, arith}
use Rattle.std.specs.List.{insert}
use Rattle.std.proofs.lemmas.List.{get_or_default}
use Rattle.ob_heap.specs.Blocks.{block_size, joined, AreFilled}
use Rattle.ob_heap.proofs.BlocksLemmas.{order_at, put_at, insert_joined, filled_set, filled_insert}
use Rattle.ob_heap.proofs.handles.put_halving.Goals as goal

pub put_halving-requires-clause-order : goal.put_halving-requires-clause-order
put_halving-requires-clause-order c =
    let bs = c.args.blocks.now.items in
    let x = c.index_mut.result.now in
    order_at c.args.name bs c.args.place x
    (record { order = c.requires.order; filled = c.requires.filled; place = c.requires.place.0; within = c.requires.place.1; block = c.index_mut.ensures.value })

pub put_halving-requires-clause-full : goal.put_halving-requires-clause-full
put_halving-requires-clause-full c =
    let bs = c.args.blocks.now.items in
    let x = c.index_mut.result.now in
    subst (λ b. block_size ≤ length b) (get_or_default bs c.args.place [] x c.requires.place.1 ∙ sym c.index_mut.ensures.value) c.requires.full

pub returns-clause-items : goal.returns-clause-items
returns-clause-items c =
    let bs = c.args.blocks.now.items in
    let p = c.args.place in
    let x = c.index_mut.result.now in
    let lower = c.put_halving.new.self in
    let upper = c.put_halving.new.upper in
    let next : p + 1 ≡ suc p = omega arith in
    ap joined c.in-Ok.ensures.items ∙ ap (λ i. joined (insert (set bs p lower) i upper)) next ∙ insert_joined bs p lower upper c.requires.place.1
    ∙ ap (λ b. joined (set bs p b)) c.put_halving.ensures.items
    ∙ put_at c.args.name c.args.handle bs p x
    (record { order = c.requires.order; filled = c.requires.filled; place = c.requires.place.0; within = c.requires.place.1; block = c.index_mut.ensures.value })

pub returns-clause-filled : goal.returns-clause-filled
returns-clause-filled c =
    let bs = c.args.blocks.now.items in
    let p = c.args.place in
    let lower = c.put_halving.new.self in
    let upper = c.put_halving.new.upper in
    subst AreFilled (sym c.in-Ok.ensures.items)
    (filled_insert (set bs p lower) (p + 1) upper (filled_set bs p lower c.requires.filled c.put_halving.ensures.filled.0) c.put_halving.ensures.filled.1)
