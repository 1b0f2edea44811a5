use Rattle.std.proofs.Common.{◌≡◌, ◌≤◌, length}
use Rattle.std.specs.Vec.Iter.{into_iter_items}
use Rattle.ob_heap.specs.Deltas.{with_handles}
use Rattle.ob_heap.proofs.applied.change_handles.Given as goal

abbrev pub invariant-loop-name : goal.invariant-loop-name
invariant-loop-name l = record {
  handles : with_handles l.handles.handles (into_iter_items l.name-iterator) ≡ with_handles l.initial.handles.handles (into_iter_items l.initial.name-iterator);
  room : length (into_iter_items l.name-iterator) ≤ l.handles.room;
  can_next : (goal.iterator-loop-name).can_next l.name-iterator;
  is_finite : (goal.iterator-loop-name).is_finite l.name-iterator;
}
