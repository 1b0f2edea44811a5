-- The objects and the handles of a content after a delta, as they are written (this project's own).
use Rattle.std.specs.Prelude.{ℕ, suc, ◌≡◌, nat_eq, T, List, [], ◌∷◌, ◌++◌, map, fold, Option, Some, None, if◌then◌else◌}
use Rattle.std.specs.FinMap.Entries.{is_sorted}
use Rattle.ob_base.specs.declared.id.ObjectId.{ObjectId}
use Rattle.ob_base.specs.declared.name.Label.{Label}
use Rattle.ob_table.specs.Tables.{ClassTable}
use Rattle.ob_format_spec.specs.Combinators.{each_bytes}
use Rattle.ob_heap.specs.Contents.{named_of}
use Rattle.ob_heap.specs.Plain.{object_of}
use Rattle.ob_heap.specs.declared.object.Object.{Object}
use Rattle.ob_heap.specs.declared.object.Handle.{Handle as StoredHandle}
use Rattle.ob_heap_spec.specs.Contents.{HandleName, Handle, name_order}
use Rattle.ob_heap_spec.specs.Handles.{NamedHandle}
use Rattle.ob_store_laws.specs.Recorded.{object_change, handle_change}
use Rattle.ob_store_spec.specs.Payloads.{StoredObject, object, handle}
use Rattle.ob_store_spec.specs.Changes.{with_change}
use Rattle.ob_store_spec.specs.Between.{stored_object}

-- Objects, of which the first has this number, as a payload has them: those of a delta take the places of those of their numbers, or
-- stand behind them.
abbrev pub stored_with : ClassTable → ℕ → List Object → List (ObjectId × Object) → List StoredObject
stored_with table n [] es = map (object_change table) es
stored_with table n (o ∷ os) [] = stored_object table n (object_of o) ∷ stored_with table (suc n) os []
stored_with table n (o ∷ os) (e ∷ es) =
    if nat_eq e.0.0 n then object_change table e ∷ stored_with table (suc n) os es
    else stored_object table n (object_of o) ∷ stored_with table (suc n) os (e ∷ es)

-- their bytes
abbrev pub objects_with : ClassTable → ℕ → List Object → List (ObjectId × Object) → List ℕ
objects_with table n os es = each_bytes (object table).bytes (stored_with table n os es)

-- the bytes of handles that are there
abbrev pub handle_rows : List NamedHandle → List ℕ
handle_rows hs = each_bytes handle.bytes (map (λ h. (h.0, Some h.1)) hs)

-- the handle that a change leaves, if it leaves one
abbrev pub left_by : HandleName × Option Handle → List NamedHandle
left_by (name, None) = []
left_by (name, Some h) = (name, h) ∷ []

-- How far the handles after changes are written: the bytes so far, and the handles and the changes to come.
pub record Course : Type 0 where
  pub written : List ℕ
  pub handles : List NamedHandle
  pub changes : List (HandleName × Option Handle)

-- a handle with its name, as it is kept
abbrev pub KeptHandle : Type 0
KeptHandle = (Label × Label) × StoredHandle

-- a change of one, as it is kept
abbrev pub KeptChange : Type 0
KeptChange = (Label × Label) × Option StoredHandle

-- these bytes are written, and these handles and changes are to come
abbrev pub course : List ℕ → List KeptHandle → List KeptChange → Course
course bytes hs ds = record { written = bytes; handles = map named_of hs; changes = map handle_change ds }

-- what is to come stands in the order of the names
abbrev pub IsOrdered : Course → Type 0
IsOrdered c = T (is_sorted name_order c.handles) × T (is_sorted name_order c.changes)

-- the bytes once all is written
abbrev pub finished : Course → List ℕ
finished c = c.written ++ handle_rows (fold with_change c.handles c.changes)

-- from the one the writing goes on to the other: that is in order too, and comes to the same bytes
abbrev pub GoesOn : Course → Course → Type 0
GoesOn c d = IsOrdered c → IsOrdered d × (finished c ≡ finished d)
