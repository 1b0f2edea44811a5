-- What is written of what differs (this project's own).
use Rattle.std.specs.Prelude.{ℕ, ◌≡◌, true, false, Option, Some, None, Vec}
use Rattle.std.specs.declared.alloc.Global.{Global}
use Rattle.ob_table.specs.Tables.{ClassTable}
use Rattle.ob_store_spec.specs.Payloads.{Changes, payload}
use Rattle.ob_store_spec.specs.Settling.{say_nothing}

-- the payload of changes, or none where they say nothing
abbrev pub IsPayload : ClassTable → Changes → Option (Vec ℕ Global) → Type 0
IsPayload table changes None = say_nothing changes ≡ true
IsPayload table changes (Some bytes) = (say_nothing changes ≡ false) × (bytes.items ≡ (payload table).bytes changes)
