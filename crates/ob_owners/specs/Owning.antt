-- The places that own objects (this project's own).
use Rattle.std.specs.Prelude.{ℕ, List, [], ◌∷◌, ◌++◌, map, flat_map, filter_map, slice_get, Option, option_map, if◌then◌else◌}
use Rattle.std.specs.List.{enumerate_from}
use Rattle.ob_base.specs.declared.id.ObjectId.{ObjectId}
use Rattle.ob_base.specs.declared.name.Label.{Label}
use Rattle.ob_table.specs.Tables.{ClassTable}
use Rattle.ob_heap.specs.declared.delta.Delta.{Delta}
use Rattle.ob_heap.specs.declared.object.Handle.{Handle as StoredHandle}
use Rattle.ob_heap.specs.declared.object.Object.{Object as StoredObject}
use Rattle.ob_heap.specs.Contents.{Stored, handle_at, name_of}
use Rattle.ob_heap.specs.Plain.{object_of, handle_of}
use Rattle.ob_heap_spec.specs.Contents.{HandleName, Handle, Content}
use Rattle.ob_heap_spec.specs.Objects.{Object}
use Rattle.ob_rest_spec.specs.Incoming.{StorePlace, stored_field, stored_handle, IncomingReference, owning_places}
use Rattle.ob_rest_spec.specs.Modes.{is_owned}
use Rattle.ob_rest_spec.specs.References.{FieldReference, references_of}
use Rattle.ob_owners.specs.declared.gathering.Owning.{Owning}
use Rattle.ob_owners.specs.Spots.{place_of}

-- a place that owns the object of a number
pub record OwningPlace : Type 0 where
  pub object : ℕ
  pub place : StorePlace

-- the same, as the code has it
abbrev pub owning_of : Owning → OwningPlace
owning_of o = record { object = o.object.0; place = place_of o.spot }

-- the place of a reference in a field, if it owns its object
abbrev pub owning_by_field : FieldReference → List OwningPlace
owning_by_field r = if is_owned r.perm.mode then record { object = r.object; place = stored_field r.holder r.field } ∷ [] else []

-- the place of a handle, if it owns its object
abbrev pub owning_by_handle : HandleName × Handle → List OwningPlace
owning_by_handle h = if is_owned h.1.mode then record { object = h.1.object; place = stored_handle h.0 } ∷ [] else []

-- the owning places in the fields of an object with its number
abbrev pub owning_by_object : ClassTable → ℕ × Object → List OwningPlace
owning_by_object table o = flat_map owning_by_field (references_of table o.0 o.1)

-- the owning places in the fields of these objects, each with its number, and then these handles
abbrev pub owning_in : ClassTable → List (ℕ × Object) → List (HandleName × Handle) → List OwningPlace
owning_in table objects handles = flat_map (owning_by_object table) objects ++ flat_map owning_by_handle handles

-- the owning places of a store, in the order of the incoming references
abbrev pub all_owning : ClassTable → Content → List OwningPlace
all_owning table content = owning_in table (enumerate_from 0 content.objects) content.handles

-- the owning places of the object of a number, in the order of the incoming references
abbrev pub places_owning : ClassTable → Content → ℕ → List StorePlace
places_owning table content n = map (λ (r : IncomingReference). r.place) (owning_places table content n)

-- the objects that a delta has, with their numbers
abbrev pub objects_coming : List (ObjectId × StoredObject) → List (ℕ × Object)
objects_coming es = map (λ (e : ObjectId × StoredObject). (e.0.0, object_of e.1)) es

-- the handles that a delta has, with their names
abbrev pub handles_coming : List ((Label × Label) × Option StoredHandle) → List (HandleName × Handle)
handles_coming ds = filter_map (λ (d : (Label × Label) × Option StoredHandle). option_map (λ h. (name_of d.0, handle_of h)) d.1) ds

-- the objects of a content that a delta replaces, with their numbers
abbrev pub objects_going : Stored → List (ObjectId × StoredObject) → List (ℕ × Object)
objects_going c es = filter_map (λ (e : ObjectId × StoredObject). option_map (λ o. (e.0.0, object_of o)) (slice_get c.objects e.0.0)) es

-- the handles of a content that a delta replaces or removes, with their names
abbrev pub handles_going : Stored → List ((Label × Label) × Option StoredHandle) → List (HandleName × Handle)
handles_going c ds =
    filter_map (λ (d : (Label × Label) × Option StoredHandle). option_map (λ h. (name_of d.0, handle_of h)) (handle_at (name_of d.0) c.handles)) ds

-- the owning places that come with a delta
abbrev pub coming_places : ClassTable → Delta → List OwningPlace
coming_places table d = owning_in table (objects_coming d.objects) (handles_coming d.handles)

-- the owning places of a content that go with a delta
abbrev pub going_places : ClassTable → Stored → Delta → List OwningPlace
going_places table c d = owning_in table (objects_going c d.objects) (handles_going c d.handles)
