-- An index of owners, and when it is one of a content (this project's own).
use Rattle.std.specs.Prelude.{◌≡◌, ℕ, ◌≤◌, List, [], length, slice_get, slice_index_or, Option}
use Rattle.ob_code.specs.declared.image.ContractCode.{ContractCode}
use Rattle.ob_code.specs.declared.image.Image.{Image}
use Rattle.ob_code_table.specs.ImageTables.{table_of_image}
use Rattle.ob_table.specs.Tables.{ClassTable}
use Rattle.ob_heap.specs.declared.delta.Delta.{Delta}
use Rattle.ob_heap.specs.Contents.{Stored, content_of}
use Rattle.ob_heap.specs.Deltas.{with_handles}
use Rattle.ob_heap.specs.Differences.{with_objects}
use Rattle.ob_heap_spec.specs.Contents.{Content}
use Rattle.ob_heap_spec.specs.Objects.{Object}
use Rattle.ob_rest_spec.specs.Incoming.{StorePlace}
use Rattle.ob_rest_spec.specs.References.{references_of}
use Rattle.ob_owners.specs.Owning.{OwningPlace, places_owning, coming_places, going_places}

-- The lists of an index, one for each object, and the image by whose declarations it goes; and of a change that is made ready, the
-- places that go and those that come.
pub record Indexed : Type 0 where
  pub declared : Image
  pub lists : List (List StorePlace)
  pub going : List OwningPlace
  pub coming : List OwningPlace

-- a contract of an image without its bodies
abbrev pub without_bodies : ContractCode → ContractCode
without_bodies c = record c { bodies = [] }

-- a class table says of references in fields what another one says
abbrev pub SameReferences : ClassTable → ClassTable → Type 0
SameReferences own table = (holder : ℕ) (o : Object) → references_of own holder o ≡ references_of table holder o

-- An index is that of a content of a class table: the list of each object has its owning places, in the order of the incoming
-- references.
pub record IsIndexOf (table : ClassTable) (content : Content) (v : Indexed) : Type 0 where
  pub references : SameReferences (table_of_image v.declared) table
  pub owning : (n : ℕ) → slice_index_or v.lists n [] ≡ places_owning table content n

-- the first place in the list of the object of a number
abbrev pub told_owner : Indexed → ℕ → Option StorePlace
told_owner v n = slice_get (slice_index_or v.lists n []) 0

-- a content with a delta
abbrev pub content_after : Stored → Delta → Content
content_after c d = content_of (record c { objects = with_objects c.objects d.objects; handles = with_handles c.handles d.handles })

-- An index is made ready for a delta of a content: it has the places that go with it and those that come with it, and a list for
-- each object that is there then.
pub record IsReadyFor (c : Stored) (d : Delta) (v : Indexed) : Type 0 where
  pub going : v.going ≡ going_places (table_of_image v.declared) c d
  pub coming : v.coming ≡ coming_places (table_of_image v.declared) d
  pub lists : length (with_objects c.objects d.objects) ≤ length v.lists
