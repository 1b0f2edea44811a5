use Rattle.std.proofs.Common.{◌≡◌, ◌+◌, ◌++◌, drop}
use Rattle.ob_heap.specs.Differences.{numbered_from}
use Rattle.ob_heap.proofs.overlay.add_made.Given as goal

abbrev pub invariant-loop-place : goal.invariant-loop-place
invariant-loop-place l = l.found ++ numbered_from (l.first + l.place) (drop l.place l.made) ≡ l.initial.found ++ numbered_from l.first l.made
