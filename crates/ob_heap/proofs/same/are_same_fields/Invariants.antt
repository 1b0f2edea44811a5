use Rattle.std.proofs.Common.{◌≡◌, drop}
use Rattle.ob_heap.specs.Differences.{same_fields}
use Rattle.ob_heap.proofs.same.are_same_fields.Given as goal

abbrev pub invariant-loop-place : goal.invariant-loop-place
invariant-loop-place l = same_fields l.one l.other ≡ same_fields (drop l.place l.one) (drop l.place l.other)
