use Rattle.std.proofs.Common.{◌≤◌, ◌-◌, length}
use Rattle.ob_heap.specs.Blocks.{block_place}
use Rattle.ob_heap.proofs.handles.block_of.Given as goal

abbrev pub invariant-loop-high : goal.invariant-loop-high
invariant-loop-high l = record {
  low : l.low ≤ block_place (record { who = l.who; name = l.name }) l.blocks;
  high : block_place (record { who = l.who; name = l.name }) l.blocks ≤ l.high - 1;
  above : l.low ≤ l.high;
  within : l.high ≤ length l.blocks;
}

abbrev pub decreases-loop-high : goal.decreases-loop-high
decreases-loop-high l = l.high - l.low
