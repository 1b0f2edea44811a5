-- The change of a store that makes it one of a new program (this project's own).
use Rattle.std.specs.Prelude.{◌≡◌, List, [], map, Option, slice_get}
use Rattle.std.specs.Option.{option_and_then}
use Rattle.ob_base.specs.declared.id.ContractId.{ContractId}
use Rattle.ob_table.specs.Tables.{ClassTable, contract_named}
use Rattle.ob_heap.specs.declared.object.Object.{Object}
use Rattle.ob_heap.specs.declared.delta.Delta.{Delta}
use Rattle.ob_heap.specs.Contents.{Stored, content_of}
use Rattle.ob_heap.specs.Deltas.{IsDelta, with_handles}
use Rattle.ob_heap.specs.Differences.{numbered_from, with_objects}
use Rattle.ob_code.specs.declared.image.ContractCode.{ContractCode}
use Rattle.ob_upgrade_spec.specs.Upgraded.{or_else, namesake, upgraded}

-- for each of these contracts the new program's number of the one with its name
abbrev pub named_ids : ClassTable → List ContractCode → List (Option ContractId)
named_ids new cs = map (λ c. contract_named new.contracts c.name) cs

-- the number that a contract gets by such a list
abbrev pub renamed : List (Option ContractId) → ContractId → ContractId
renamed ids id = or_else (option_and_then (λ new. new) (slice_get ids id.0)) id

-- the object that an object becomes by such a list
abbrev pub renamed_object : List (Option ContractId) → Object → Object
renamed_object ids o = record o { contract = renamed ids o.contract }

-- an object, as one of the new program's contract of the same name
abbrev pub moved_object : ClassTable → ClassTable → Object → Object
moved_object old new o = record o { contract = namesake old new o.contract }

-- A change says of each object of a store, by its number, that it is one of the new program then, and of no handle anything. So the
-- store with the change holds the upgraded content.
pub record IsUpgrade (old new : ClassTable) (c : Stored) (d : Delta) : Type 0 where
  pub objects : d.objects ≡ numbered_from 0 (map (moved_object old new) c.objects)
  pub handles : d.handles ≡ []
  pub is_delta : IsDelta c d
  pub holds : content_of (record c { objects = with_objects c.objects d.objects; handles = with_handles c.handles d.handles })
      ≡ upgraded old new (content_of c)
