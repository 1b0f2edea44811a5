use Rattle.ob_format_spec.specs.Combinators.{read_times}
use Rattle.ob_code_table.specs.ImageTables.{contract_of_code}
use Rattle.ob_store_spec.specs.Payloads.{value}
use Rattle.ob_store_payload.proofs.FieldsRead.{left, AreRead}
use Rattle.ob_store_payload.proofs.reading.fields.Given as goal

-- the values of the fields so far were read
abbrev pub invariant-loop-place : goal.invariant-loop-place
invariant-loop-place l =
    AreRead (contract_of_code l.contract).fields l.state l.place l.kept l.rest (read_times value.read (left (contract_of_code l.contract).fields l.state 0) l.bytes)
