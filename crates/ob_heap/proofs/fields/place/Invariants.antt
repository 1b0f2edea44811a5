use Rattle.std.proofs.Common.{◌≡◌, ◌+◌, drop}
use Rattle.ob_heap.specs.Fields.{place_of}
use Rattle.ob_heap.proofs.fields.place.Given as goal

abbrev pub invariant-loop-place : goal.invariant-loop-place
invariant-loop-place l = place_of l.field l.items ≡ l.place + place_of l.field (drop l.place l.items)
