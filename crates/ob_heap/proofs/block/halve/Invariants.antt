use Rattle.std.proofs.Common.{◌≡◌, ◌+◌, ◌≤◌, ◌++◌, length}
use Rattle.std.specs.Vec.{vec_capacity}
use Rattle.ob_heap.specs.Blocks.{block_size}
use Rattle.ob_heap.proofs.block.halve.Given as goal

abbrev pub invariant-loop : goal.invariant-loop
invariant-loop l = record {
  items : l.lower.items ++ l.upper.items ≡ l.initial.lower.items;
  lower : length l.lower.items + l.counter ≡ block_size;
  upper : length l.upper.items ≡ l.counter;
  lower_capacity : vec_capacity l.initial.lower ≤ vec_capacity l.lower;
  upper_capacity : vec_capacity l.initial.upper ≤ vec_capacity l.upper;
}
