use Rattle.std.proofs.Common.{◌≡◌, drop}
use Rattle.ob_heap.specs.Fields.{value_at}
use Rattle.ob_heap.proofs.fields.find.Given as goal

abbrev pub invariant-loop-item : goal.invariant-loop-item
invariant-loop-item l = value_at l.field l.items ≡ value_at l.field (drop l.item-index l.items)
