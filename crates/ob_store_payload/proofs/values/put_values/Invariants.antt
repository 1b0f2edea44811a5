use Rattle.std.proofs.Common.{◌≡◌, ◌++◌, take}
use Rattle.ob_format_spec.specs.Combinators.{each_bytes}
use Rattle.ob_heap.specs.Plain.{object_of}
use Rattle.ob_code_table.specs.ImageTables.{contract_of_code}
use Rattle.ob_store_spec.specs.Payloads.{value}
use Rattle.ob_store_spec.specs.Between.{values_from}
use Rattle.ob_store_payload.proofs.values.put_values.Given as goal

-- the values of the fields so far
abbrev pub invariant-loop-place : goal.invariant-loop-place
invariant-loop-place l =
    l.out.items ≡ l.fn.out.items ++ each_bytes value.bytes (values_from 0 (take l.place (contract_of_code l.contract).fields) l.object.state (object_of l.object).fields)
