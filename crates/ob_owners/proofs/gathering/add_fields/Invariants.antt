use Rattle.std.proofs.Common.{◌≡◌, ◌++◌, drop, map}
use Rattle.std.specs.Prelude.{flat_map}
use Rattle.ob_heap.specs.Plain.{object_of}
use Rattle.ob_code_table.specs.ImageTables.{contract_of_code}
use Rattle.ob_owners.specs.Owning.{owning_of, owning_by_field}
use Rattle.ob_owners.specs.Referring.{references_by}
use Rattle.ob_owners.proofs.NotingLemmas.{references_from}
use Rattle.ob_owners.proofs.gathering.add_fields.Given as goal

-- what is gathered, and the rest of the fields, are what all fields lead to
abbrev pub invariant-loop-place : goal.invariant-loop-place
invariant-loop-place l =
    map owning_of l.found.items ++ flat_map owning_by_field (references_from (contract_of_code l.contract) l.holder (object_of l.object) l.place (drop l.place l.contract.fields))
    ≡ map owning_of l.fn.found.items ++ flat_map owning_by_field (references_by (contract_of_code l.contract) l.holder (object_of l.object))
