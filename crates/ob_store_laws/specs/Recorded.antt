-- A delta, as a payload has it (this project's own).
use Rattle.std.specs.Prelude.{◌≤◌, ◌^◌, not, map, filter, length, All, Option, option_map}
use Rattle.ob_base.specs.Limits.{most_objects, most_handles}
use Rattle.ob_base.specs.declared.id.ObjectId.{ObjectId}
use Rattle.ob_base.specs.declared.name.Label.{Label}
use Rattle.ob_table.specs.Tables.{ClassTable}
use Rattle.ob_heap.specs.Contents.{Stored, content_of, name_of, named_of}
use Rattle.ob_heap.specs.Deltas.{IsDelta, with_handles}
use Rattle.ob_heap.specs.Differences.{with_objects}
use Rattle.ob_heap.specs.Plain.{object_of, handle_of}
use Rattle.ob_heap.specs.declared.delta.Delta.{Delta}
use Rattle.ob_heap.specs.declared.object.Object.{Object}
use Rattle.ob_heap.specs.declared.object.Handle.{Handle}
use Rattle.ob_heap_spec.specs.Contents.{HandleName, Handle as PlainHandle, Content, IsObject}
use Rattle.ob_store_spec.specs.Payloads.{StoredObject, Changes}
use Rattle.ob_store_spec.specs.Changes.{IsHandleChange}
use Rattle.ob_store_spec.specs.Between.{stored_object, is_stored_so, is_held_so}

-- an object of a delta
abbrev pub object_change : ClassTable → ObjectId × Object → StoredObject
object_change table e = stored_object table e.0.0 (object_of e.1)

-- a handle of a delta, or that there is none of its name
abbrev pub handle_change : (Label × Label) × Option Handle → HandleName × Option PlainHandle
handle_change e = (name_of e.0, option_map handle_of e.1)

-- the changes that a delta says
abbrev pub changes_of : ClassTable → Delta → Changes
changes_of table delta = record { objects = map (object_change table) delta.objects; handles = map handle_change delta.handles }

-- those of them that say something else than a content does
abbrev pub news_of : ClassTable → Stored → Delta → Changes
news_of table base delta = record {
  objects = filter (λ o. not (is_stored_so table (content_of base).objects o)) (changes_of table delta).objects;
  handles = filter (λ h. not (is_held_so (content_of base) h)) (changes_of table delta).handles;
}

-- the content after a delta
abbrev pub content_with : Stored → Delta → Content
content_with base delta = record {
  objects = map object_of (with_objects base.objects delta.objects);
  handles = map named_of (with_handles base.handles delta.handles);
}

-- payloads can tell the contracts of a class table from one another, and each state from none
pub record IsStorable (table : ClassTable) : Type 0 where
  pub contracts : length table.contracts ≤ 2 ^ 32
  pub states : All (λ c. length c.states ≤ 255) table.contracts

-- A delta of a content is one of a class table: each of its objects is one of the table on the objects after it, each handle's name is
-- two labels, and it is on one of those objects, if it is there; and then there are no more of both than there may be.
pub record IsDeltaOf (table : ClassTable) (base : Stored) (delta : Delta) : Type 0 where
  pub is_delta : IsDelta base delta
  pub objects : All (λ e. IsObject table (content_with base delta).objects (object_of e.1)) delta.objects
  pub handles : All (λ d. IsHandleChange (length (content_with base delta).objects) (handle_change d)) delta.handles
  pub few_objects : length (content_with base delta).objects ≤ most_objects
  pub few_handles : length (content_with base delta).handles ≤ most_handles
