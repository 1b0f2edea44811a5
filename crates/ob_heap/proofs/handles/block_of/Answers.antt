use Rattle.std.proofs.Common.{◌+◌, ◌-◌, ◌/◌, ◌∙◌, ap, sym, true, false, arith}
use Rattle.ob_heap.specs.Blocks.{starts_after}
use Rattle.ob_heap_spec.specs.Contents.{HandleName}
use Rattle.ob_heap.proofs.BlocksLemmas.{block_place-le, before_place, after_place}
use Rattle.ob_heap.proofs.handles.block_of.Goals as goal

pub loop-high-init : goal.loop-high-init
loop-high-init c = record {
  low = omega arith;
  high = block_place-le (c.args.who.now, c.args.name.now) c.args.blocks.now;
  above = omega arith;
  within = omega arith;
}

pub loop-high-preserved-then-starts_after : goal.loop-high-preserved-then-starts_after
loop-high-preserved-then-starts_after c =
    let k : HandleName = record { who = c.args.who.now; name = c.args.name.now } in
    let a = c.loop-high.invariant.above in
    let w = c.loop-high.invariant.within in
    let t = c.loop-high-test.true in
    record {
      low = c.loop-high.invariant.low;
      high = after_place (c.args.who.now, c.args.name.now) c.args.blocks.now (c.loop-high.low + (c.loop-high.high - c.loop-high.low) / 2)
          c.index-blocks-middle.result (omega arith) (omega arith) c.index-blocks-middle.is
          (sym (ap (starts_after k) c.as_slice.ensures) ∙ sym c.starts_after.ensures ∙ c.if-starts_after.true);
      above = omega arith;
      within = omega arith;
    }

pub loop-high-preserved : goal.loop-high-preserved
loop-high-preserved c =
    let k : HandleName = record { who = c.args.who.now; name = c.args.name.now } in
    let a = c.loop-high.invariant.above in
    let w = c.loop-high.invariant.within in
    let t = c.loop-high-test.true in
    record {
      low = before_place (c.args.who.now, c.args.name.now) c.args.blocks.now (c.loop-high.low + (c.loop-high.high - c.loop-high.low) / 2)
          c.index-blocks-middle.result c.requires.order c.requires.filled (omega arith) c.index-blocks-middle.is
          (sym (ap (starts_after k) c.as_slice.ensures) ∙ sym c.starts_after.ensures ∙ c.if-starts_after.false);
      high = c.loop-high.invariant.high;
      above = omega arith;
      within = c.loop-high.invariant.within;
    }
