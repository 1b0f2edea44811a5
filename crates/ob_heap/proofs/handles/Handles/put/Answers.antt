use Rattle.std.proofs.Common.{◌≡◌, ◌<◌, ◌≤◌, ◌+◌, ◌-◌, ◌^◌, ◌∙◌, ap, sym, subst, length, arith}
use Rattle.std.specs.Vec.{vec_len, vec_capacity}
use Rattle.ob_heap.specs.Blocks.{joined, AreBlocks}
use Rattle.ob_heap.specs.Contents.{IsInOrder}
use Rattle.ob_heap.specs.Deltas.{with_handle}
use Rattle.ob_heap.proofs.DeltasLemmas.{with_handle-le, with_handle_order}
use Rattle.ob_heap.proofs.handles.Handles.put.Goals as goal

pub invariant_of-self : goal.invariant_of-self
invariant_of-self c =
    let bs = c.self.inside.blocks.items in
    let hs = joined bs in
    let n = c.args.name in
    let h = c.args.handle in
    let is = c.self.invariant.0 in
    let room : 0 < c.self.inside.room = subst (λ v. 0 < v.room) (sym c.self.view_is) c.requires in
    let spare : c.self.inside.room ≤ vec_len c.self.inside.spare = c.self.invariant.1 in
    let places : vec_len c.self.inside.blocks + c.self.inside.room ≤ vec_capacity c.self.inside.blocks = c.self.invariant.2 in
    let bound : c.self.inside.count + c.self.inside.room < 2 ^ 64 = c.self.invariant.3 in
    let count : c.count_with-self-inside.result ≡ length (with_handle n h hs) =
    c.count_with-self-inside.ensures ∙ ap (λ cs. length (with_handle n h (joined cs))) c.as_slice.ensures.value in
    let more = with_handle-le n h hs in
    let was : c.self.inside.count ≡ length hs = is.count in
    let spares = c.put.ensures.spare in
    let len = c.put.ensures.len in
    let capacity = c.put.ensures.capacity in
    let blocks : AreBlocks c.put.new.blocks.items c.count_with-self-inside.result = record {
      order = subst IsInOrder (sym c.put.ensures.items) (with_handle_order n h hs is.order);
      filled = c.put.ensures.filled;
      count = count ∙ ap length (sym c.put.ensures.items);
    } in
    (blocks, omega arith, omega arith, omega arith)
