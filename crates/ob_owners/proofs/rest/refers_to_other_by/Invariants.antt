use Rattle.std.proofs.Common.{◌≡◌, ℕ, not, drop, map}
use Rattle.std.specs.List.{list_any}
use Rattle.ob_heap.specs.Plain.{object_of}
use Rattle.ob_code_table.specs.ImageTables.{contract_of_code, table_of_image}
use Rattle.ob_rest_spec.specs.Failing.{refers_as_declared}
use Rattle.ob_owners.specs.Referring.{references_by}
use Rattle.ob_owners.proofs.NotingLemmas.{references_from}
use Rattle.ob_owners.proofs.rest.refers_to_other_by.Given as goal

-- none of the fields so far does
abbrev pub invariant-loop-place : goal.invariant-loop-place
invariant-loop-place l =
    (holder : ℕ)
    → list_any (λ r. not (refers_as_declared (table_of_image l.code) (map object_of l.objects) r))
    (references_by (contract_of_code l.contract) holder (object_of l.object))
    ≡ list_any (λ r. not (refers_as_declared (table_of_image l.code) (map object_of l.objects) r))
    (references_from (contract_of_code l.contract) holder (object_of l.object) l.place (drop l.place l.contract.fields))
