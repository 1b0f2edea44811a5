-- The two parts of what differs in a store: objects and handles (this project's own).
use Rattle.std.specs.Prelude.{◌≡◌, List, map, length, All, AllPairs, Some, Option}
use Rattle.std.specs.declared.cmp.Ordering.TheVariants.{Less}
use Rattle.ob_base.specs.declared.id.ObjectId.{ObjectId}
use Rattle.ob_base.specs.declared.name.Label.{Label}
use Rattle.ob_heap_spec.specs.Objects.{Object as PlainObject}
use Rattle.ob_heap_spec.specs.Contents.{object_at}
use Rattle.ob_heap_spec.specs.Handles.{NamedHandle}
use Rattle.ob_heap.specs.declared.object.Object.{Object}
use Rattle.ob_heap.specs.declared.object.Handle.{Handle}
use Rattle.ob_heap.specs.Ascending.{IsAscending}
use Rattle.ob_heap.specs.Plain.{object_of}
use Rattle.ob_heap.specs.Contents.{name_of, named_of, handle_at}
use Rattle.ob_heap.specs.Deltas.{label_order, with_handles, AreNext}
use Rattle.ob_heap.specs.Differences.{with_objects}

-- These objects lead from those of a base to the ones after it, and are just what differs.
pub record ObjectsLead (base : List Object) (changes : List (ObjectId × Object)) (after : List PlainObject) : Type 0 where
  pub order : IsAscending (λ (e : ObjectId × Object). e.0.0) changes
  pub next : AreNext (length base) changes
  pub is : map object_of (with_objects base changes) ≡ after
  pub others : All (λ (e : ObjectId × Object). ¬ (object_at (map object_of base) e.0.0 ≡ Some (object_of e.1))) changes

-- These changes of handles lead from those of a base to the ones after it, and are just what differs.
pub record HandlesLead (base : List ((Label × Label) × Handle)) (changes : List ((Label × Label) × Option Handle)) (after : List NamedHandle) : Type 0 where
  pub order : AllPairs (λ (a b : (Label × Label) × Option Handle). label_order a.0 b.0 ≡ Less) changes
  pub is : map named_of (with_handles base changes) ≡ after
  pub others : All (λ (e : (Label × Label) × Option Handle). ¬ (handle_at (name_of e.0) base ≡ e.1)) changes
