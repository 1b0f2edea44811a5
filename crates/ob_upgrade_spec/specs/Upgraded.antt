-- What becomes of a store that goes on with a new program (this project's own).
use Rattle.std.specs.Prelude.{◌≡◌, List, map, Option, Some, None}
use Rattle.std.specs.Option.{option_and_then}
use Rattle.ob_base.specs.declared.id.ContractId.{ContractId}
use Rattle.ob_table.specs.Tables.{ClassTable, contract_at, contract_named}
use Rattle.ob_heap_spec.specs.Objects.{Object}
use Rattle.ob_heap_spec.specs.Contents.{Content}

-- a number, or another one where there is none
abbrev pub or_else : Option ContractId → ContractId → ContractId
or_else (Some new) id = new
or_else None id = id

-- the new program's number of the contract with the name of an old one; where the programs match there always is one
abbrev pub namesake : ClassTable → ClassTable → ContractId → ContractId
namesake old new id = or_else (option_and_then (λ c. contract_named new.contracts c.name) (contract_at old id)) id

-- an object, as one of the new program's contract of the same name; its state, its fields and its marks stay
abbrev pub upgraded_object : ClassTable → ClassTable → Object → Object
upgraded_object old new o = record o { contract = namesake old new o.contract }

-- a store's content with each object as one of the new program; the handles stay
abbrev pub upgraded : ClassTable → ClassTable → Content → Content
upgraded old new content = record { objects = map (upgraded_object old new) content.objects; handles = content.handles }
