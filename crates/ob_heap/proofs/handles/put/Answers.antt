use Rattle.std.proofs.Common.{rules, ◌≡◌, ◌≤◌, ◌∙◌, ap, subst, length}
use Rattle.ob_heap.specs.Blocks.{block_place}
use Rattle.ob_heap.specs.Contents.{name_of}
use Rattle.ob_heap.proofs.BlocksLemmas.{no_blocks}
use Rattle.ob_heap.proofs.handles.put.Goals as goal

pub put_first-requires-clause-none : goal.put_first-requires-clause-none
put_first-requires-clause-none c =
    let bs = c.args.blocks.now.items in
    let n = c.args.name in
    let at : c.block_of-place.result ≡ block_place (name_of n) bs = c.block_of-place.ensures ∙ ap (block_place (name_of n)) c.as_slice.ensures.value in
    let len : c.len.result ≡ length bs = search rules in
    no_blocks n bs (subst (λ p. length bs ≤ p) at (subst (λ m. m ≤ c.block_of-place.result) len c.if-place-len.true))
