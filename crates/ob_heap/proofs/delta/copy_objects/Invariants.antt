use Rattle.std.proofs.Common.{◌≡◌, take}
use Rattle.ob_heap.proofs.delta.copy_objects.Given as goal

abbrev pub invariant-loop-item : goal.invariant-loop-item
invariant-loop-item l = l.copies ≡ take l.item-index l.items
