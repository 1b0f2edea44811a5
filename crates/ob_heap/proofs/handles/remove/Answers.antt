use Rattle.std.proofs.Common.{rules, ◌≡◌, ◌<◌, ◌≤◌, ◌∙◌, true, false, ap, sym, subst, length, set}
use Rattle.ob_heap.specs.Blocks.{joined, block_place, AreFilled}
use Rattle.ob_heap.specs.Contents.{name_of}
use Rattle.ob_heap.specs.Deltas.{without_handle}
use Rattle.ob_heap.proofs.BlocksLemmas.{IsBlockOf, order_at, remove_at, remove_joined, filled_set, filled_remove, none_of, some_of, no_blocks}
use Rattle.ob_heap.proofs.handles.remove.Goals as goal

pub returns-then-place-len-clause-items : goal.returns-then-place-len-clause-items
returns-then-place-len-clause-items c =
    let bs = c.args.blocks.now.items in
    let n = c.args.name.now in
    let at : c.block_of-place.result ≡ block_place (name_of n) bs = c.block_of-place.ensures ∙ ap (block_place (name_of n)) c.as_slice.ensures.value in
    let len : c.len.result ≡ length bs = search rules in
    let none = no_blocks n bs (subst (λ p. length bs ≤ p) at (subst (λ m. m ≤ c.block_of-place.result) len c.if-place-len.true)) in
    ap joined none ∙ sym (ap (λ cs. without_handle n (joined cs)) none)

pub remove-requires : goal.remove-requires
remove-requires c =
    let bs = c.args.blocks.now.items in
    let n = c.args.name.now in
    let p = c.block_of-place.result in
    let x = c.index_mut-block.result.now in
    let at : p ≡ block_place (name_of n) bs = c.block_of-place.ensures ∙ ap (block_place (name_of n)) c.as_slice.ensures.value in
    let len : c.len.result ≡ length bs = search rules in
    let within : p < length bs = subst (λ m. p < m) len c.if-place-len.false in
    let of : IsBlockOf n bs p x = record { order = c.requires.order; filled = c.requires.filled; place = at; within = within; block = c.index_mut-block.ensures.value } in
    order_at n bs p x of

pub returns-then-is_empty-clause-items : goal.returns-then-is_empty-clause-items
returns-then-is_empty-clause-items c =
    let bs = c.args.blocks.now.items in
    let n = c.args.name.now in
    let p = c.block_of-place.result in
    let x = c.index_mut-block.result.now in
    let at : p ≡ block_place (name_of n) bs = c.block_of-place.ensures ∙ ap (block_place (name_of n)) c.as_slice.ensures.value in
    let len : c.len.result ≡ length bs = search rules in
    let within : p < length bs = subst (λ m. p < m) len c.if-place-len.false in
    let of : IsBlockOf n bs p x = record { order = c.requires.order; filled = c.requires.filled; place = at; within = within; block = c.index_mut-block.ensures.value } in
    let none = none_of c.remove.new.self (sym c.is_empty.ensures ∙ c.if-is_empty.true) in
    ap joined c.remove-emptied.ensures.items ∙ remove_joined bs p c.remove.new.self none within
    ∙ ap (λ b. joined (set bs p b)) c.remove.ensures ∙ remove_at n bs p x of

pub returns-then-is_empty-clause-filled : goal.returns-then-is_empty-clause-filled
returns-then-is_empty-clause-filled c =
    subst AreFilled (sym c.remove-emptied.ensures.items) (filled_remove c.args.blocks.now.items c.block_of-place.result c.remove.new.self c.requires.filled)

pub returns-else-is_empty-clause-items : goal.returns-else-is_empty-clause-items
returns-else-is_empty-clause-items c =
    let bs = c.args.blocks.now.items in
    let n = c.args.name.now in
    let p = c.block_of-place.result in
    let x = c.index_mut-block.result.now in
    let at : p ≡ block_place (name_of n) bs = c.block_of-place.ensures ∙ ap (block_place (name_of n)) c.as_slice.ensures.value in
    let len : c.len.result ≡ length bs = search rules in
    let within : p < length bs = subst (λ m. p < m) len c.if-place-len.false in
    let of : IsBlockOf n bs p x = record { order = c.requires.order; filled = c.requires.filled; place = at; within = within; block = c.index_mut-block.ensures.value } in
    ap (λ b. joined (set bs p b)) c.remove.ensures ∙ remove_at n bs p x of

pub returns-else-is_empty-clause-filled : goal.returns-else-is_empty-clause-filled
returns-else-is_empty-clause-filled c =
    filled_set c.args.blocks.now.items c.block_of-place.result c.remove.new.self c.requires.filled
    (some_of c.remove.new.self (sym c.is_empty.ensures ∙ c.if-is_empty.false))
