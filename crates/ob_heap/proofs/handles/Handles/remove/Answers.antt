use Rattle.std.proofs.Common.{◌≡◌, ◌<◌, ◌≤◌, ◌+◌, ◌^◌, ◌∙◌, ap, sym, subst, length, arith}
use Rattle.std.specs.Vec.{vec_len, vec_capacity}
use Rattle.ob_heap.specs.Blocks.{joined, AreBlocks}
use Rattle.ob_heap.specs.Contents.{IsInOrder}
use Rattle.ob_heap.specs.Deltas.{without_handle}
use Rattle.ob_heap.proofs.DeltasLemmas.{without_handle-le, without_handle_order}
use Rattle.ob_heap.proofs.handles.Handles.remove.Goals as goal

pub invariant_of-self : goal.invariant_of-self
invariant_of-self c =
    let bs = c.self.inside.blocks.items in
    let hs = joined bs in
    let n = c.args.name.now in
    let is = c.self.invariant.0 in
    let spare : c.self.inside.room ≤ vec_len c.self.inside.spare = c.self.invariant.1 in
    let places : vec_len c.self.inside.blocks + c.self.inside.room ≤ vec_capacity c.self.inside.blocks = c.self.invariant.2 in
    let bound : c.self.inside.count + c.self.inside.room < 2 ^ 64 = c.self.invariant.3 in
    let count : c.count_without-self-inside.result ≡ length (without_handle n hs) =
    c.count_without-self-inside.ensures ∙ ap (λ cs. length (without_handle n (joined cs))) c.as_slice.ensures.value in
    let less = without_handle-le n hs in
    let was : c.self.inside.count ≡ length hs = is.count in
    let len = c.remove.ensures.len in
    let capacity = c.remove.ensures.capacity in
    let blocks : AreBlocks c.remove.new.blocks.items c.count_without-self-inside.result = record {
      order = subst IsInOrder (sym c.remove.ensures.items) (without_handle_order n hs is.order);
      filled = c.remove.ensures.filled;
      count = count ∙ ap length (sym c.remove.ensures.items);
    } in
    (blocks, spare, omega arith, omega arith)
