use Rattle.std.proofs.Common.{◌≤◌, ◌-◌, length}
use Rattle.ob_heap.specs.Contents.{place_of_name}
use Rattle.ob_heap.proofs.ordered.place_of.Given as goal

abbrev pub invariant-loop-low : goal.invariant-loop-low
invariant-loop-low l = record {
  low : l.low ≤ place_of_name (record { who = l.who; name = l.name }) l.handles;
  high : place_of_name (record { who = l.who; name = l.name }) l.handles ≤ l.high;
  within : l.high ≤ length l.handles;
}

abbrev pub decreases-loop-low : goal.decreases-loop-low
decreases-loop-low l = l.high - l.low
