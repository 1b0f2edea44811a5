-- The incoming references of an object: the places of a store that refer to it, and its owner (Coblenz et al., TOPLAS
-- 42(3), 2020, "Permissions"; their order is this project's own).
use Rattle.std.specs.Prelude.{ℕ, nat_eq, List, ◌++◌, map, filter, find, length, Option}
use Rattle.ob_base.specs.declared.permission.Mode.{Mode}
use Rattle.ob_table.specs.Tables.{ClassTable}
use Rattle.ob_heap_spec.specs.Objects.{Object}
use Rattle.ob_heap_spec.specs.Contents.{HandleName, Handle, Content}
use Rattle.ob_rest_spec.specs.Modes.{is_owned}
use Rattle.ob_rest_spec.specs.References.{FieldReference, field_references}

-- a place of a store: a field of an object, by their numbers, or a handle
pub data StorePlace : Type 0 where
  stored_field : ℕ → ℕ → StorePlace
  stored_handle : HandleName → StorePlace

-- an incoming reference of an object: the place, and how it holds the object
pub record IncomingReference : Type 0 where
  pub place : StorePlace
  pub mode : Mode

-- the reference in a field, as one that is incoming to its object: it holds it as the field is declared
abbrev pub incoming_by_field : FieldReference → IncomingReference
incoming_by_field r = record { place = stored_field r.holder r.field; mode = r.perm.mode }

-- a handle, as a reference that is incoming to its object
abbrev pub incoming_by_handle : HandleName × Handle → IncomingReference
incoming_by_handle h = record { place = stored_handle h.0; mode = h.1.mode }

-- the fields that refer to the object of a number
abbrev pub fields_onto : ClassTable → List Object → ℕ → List FieldReference
fields_onto table objects n = filter (λ r. nat_eq r.object n) (field_references table objects)

-- the handles on the object of a number
abbrev pub handles_onto : List (HandleName × Handle) → ℕ → List (HandleName × Handle)
handles_onto handles n = filter (λ h. nat_eq h.1.object n) handles

-- the incoming references of the object of a number: available fields by object and field, then handles by their names
abbrev pub incoming_references : ClassTable → Content → ℕ → List IncomingReference
incoming_references table content n =
    map incoming_by_field (fields_onto table content.objects n)
    ++ map incoming_by_handle (handles_onto content.handles n)

-- its owning places: the fields that are declared as its owner, and the Owned handles on it
abbrev pub owning_places : ClassTable → Content → ℕ → List IncomingReference
owning_places table content n = filter (λ r. is_owned r.mode) (incoming_references table content n)

-- its owner: the first of its owning places, if it has one
abbrev pub owner_of : ClassTable → Content → ℕ → Option IncomingReference
owner_of table content n = find (λ r. is_owned r.mode) (incoming_references table content n)

-- how many owning places it has
abbrev pub owners : ClassTable → Content → ℕ → ℕ
owners table content n = length (owning_places table content n)
