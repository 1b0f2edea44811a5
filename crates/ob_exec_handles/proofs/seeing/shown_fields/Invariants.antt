use Rattle.std.proofs.Common.{◌≡◌, ◌++◌, map}
use Rattle.ob_heap.specs.Plain.{object_of}
use Rattle.ob_invocation_spec.specs.Showing.{shown_fields}
use Rattle.ob_code_table.specs.ImageTables.{contract_of_code}
use Rattle.ob_wire.specs.Meanings.{field_shown}
use Rattle.ob_exec_handles.proofs.ShowingLemmas.{shown_from}
use Rattle.ob_exec_handles.proofs.seeing.shown_fields.Given as goal

-- the fields so far and those of the rest are all
abbrev pub invariant-loop-place : goal.invariant-loop-place
invariant-loop-place l =
    l.fields ++ shown_from l.contract l.object l.place ≡ map field_shown (shown_fields (contract_of_code l.contract) (object_of l.object))
