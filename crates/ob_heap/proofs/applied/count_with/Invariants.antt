use Rattle.std.proofs.Common.{◌≡◌, length, drop}
use Rattle.ob_heap.specs.Differences.{with_objects}
use Rattle.ob_heap.proofs.DeltasLemmas.{count_after}
use Rattle.ob_heap.proofs.applied.count_with.Given as goal

abbrev pub invariant-loop-change : goal.invariant-loop-change
invariant-loop-change l = count_after l.count (drop l.change-index l.changes) ≡ length (with_objects l.objects l.changes)
