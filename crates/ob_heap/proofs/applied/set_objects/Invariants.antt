use Rattle.std.proofs.Common.{◌≡◌, ◌≤◌}
use Rattle.std.specs.Vec.{vec_capacity}
use Rattle.std.specs.Vec.Iter.{into_iter_items}
use Rattle.ob_heap.specs.Differences.{with_objects}
use Rattle.ob_heap.proofs.applied.set_objects.Given as goal

abbrev pub invariant-loop-id : goal.invariant-loop-id
invariant-loop-id l = record {
  objects : with_objects l.objects.items (into_iter_items l.id-iterator) ≡ with_objects l.initial.objects.items (into_iter_items l.initial.id-iterator);
  capacity : vec_capacity l.initial.objects ≤ vec_capacity l.objects;
  can_next : (goal.iterator-loop-id).can_next l.id-iterator;
  is_finite : (goal.iterator-loop-id).is_finite l.id-iterator;
}
