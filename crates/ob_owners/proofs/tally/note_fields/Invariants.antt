use Rattle.std.proofs.Common.{◌≡◌, ℕ, drop, map}
use Rattle.ob_heap.specs.Plain.{object_of}
use Rattle.ob_code_table.specs.ImageTables.{contract_of_code, table_of_image}
use Rattle.ob_owners.specs.Noting.{holding_of_field, after_holdings}
use Rattle.ob_owners.specs.Referring.{references_by}
use Rattle.ob_owners.proofs.NotingLemmas.{references_from}
use Rattle.ob_owners.proofs.tally.note_fields.Given as goal

-- the rest of the fields leads to where all of them lead
abbrev pub invariant-loop-place : goal.invariant-loop-place
invariant-loop-place l =
    (holder : ℕ)
    → after_holdings (map (holding_of_field (table_of_image l.code) (map object_of l.objects))
    (references_from (contract_of_code l.contract) holder (object_of l.object) l.place (drop l.place l.contract.fields))) l.tallies
    ≡ after_holdings (map (holding_of_field (table_of_image l.code) (map object_of l.objects))
    (references_by (contract_of_code l.contract) holder (object_of l.object))) l.fn.tallies
