use Rattle.std.proofs.Common.{◌≡◌, drop, map}
use Rattle.std.specs.List.{list_all, enumerate_from}
use Rattle.ob_heap.specs.Plain.{object_of}
use Rattle.ob_code_table.specs.ImageTables.{contract_of_code, field_of_code}
use Rattle.ob_store_payload.specs.Conditions.{is_field_value}
use Rattle.ob_store_payload.proofs.conditions.are_field_values.Given as goal

-- the fields so far are such
abbrev pub invariant-loop-place : goal.invariant-loop-place
invariant-loop-place l =
    list_all (is_field_value l.count (contract_of_code l.contract) (object_of l.object)) (enumerate_from 0 (map field_of_code l.contract.fields))
    ≡ list_all (is_field_value l.count (contract_of_code l.contract) (object_of l.object)) (enumerate_from l.place (map field_of_code (drop l.place l.contract.fields)))
