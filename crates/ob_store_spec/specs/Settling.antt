-- What becomes of a store where a request leads to another content: its area gets a record of what differs; where that doesn't fit, the
-- store moves into its other area, as one record of the whole content; or there is no room for either (this project's own).
use Rattle.std.specs.Prelude.{ℕ, pos, ◌+ℤ◌, int_lt, Bool, true, false, ◌+◌, ◌&&◌, nat_le, nat_lt, List, [], ◌∷◌, length, Option, Some, None, Result, Ok, Err, if◌then◌else◌}
use Rattle.ob_heap_spec.specs.Contents.{Content}
use Rattle.ob_journal_spec.specs.Areas.{begun, with_payload, next_gate}
use Rattle.ob_journal_spec.specs.Lasting.{last_serial}
use Rattle.ob_store_spec.specs.Payloads.{Changes, payload}
use Rattle.ob_store_spec.specs.Between.{changes_between, all_of}
use Rattle.ob_store_spec.specs.Stores.{StoreProgram, StoreState}

-- whether there is nothing in a list
abbrev pub is_empty : {A : Type 0} → List A → Bool
is_empty [] = true
is_empty (x ∷ xs) = false

-- whether nothing differs
abbrev pub say_nothing : Changes → Bool
say_nothing changes = is_empty changes.objects && is_empty changes.handles

-- the payload that says what differs between two contents
abbrev pub payload_between : StoreProgram → Content → Content → List ℕ
payload_between program before after = (payload program.table).bytes (changes_between program.table before after)

-- the payload that says a whole content
abbrev pub payload_of_all : StoreProgram → Content → List ℕ
payload_of_all program content = (payload program.table).bytes (all_of program.table content)

-- how many bytes an area needs for a payload behind the records of a store, with the gate behind it
abbrev pub needed : StoreState → List ℕ → ℕ
needed s bytes = s.gate + 6 + length bytes

-- a store of another content, with a record of this payload
abbrev pub with_record : StoreState → List ℕ → Content → StoreState
with_record s bytes after = record { content = after; gate = s.gate + 5 + length bytes; serial = s.serial }

-- the offset of the gate behind an area's header and one record of this payload
abbrev pub gate_after_one : StoreProgram → List ℕ → ℕ
gate_after_one program bytes = next_gate (with_payload (begun program.image) bytes)

-- whether a store may move: it has a serial left, and its other area has room for a header, one record of this payload and the next gate
abbrev pub may_move : StoreProgram → ℕ → StoreState → List ℕ → Bool
may_move program size s bytes = int_lt s.serial last_serial && nat_lt (gate_after_one program bytes) size

-- a store that has moved, with one record of this payload
abbrev pub with_move : StoreProgram → StoreState → List ℕ → Content → StoreState
with_move program s bytes after = record { content = after; gate = gate_after_one program bytes; serial = s.serial +ℤ pos 1 }

-- What becomes of a store in areas of a size, where these bytes say what differs and those say all; or it lacks room: how much the
-- record of what differs needs, and how much there is.
abbrev pub recorded : StoreProgram → ℕ → StoreState → Content → List ℕ → List ℕ → Result StoreState (ℕ × ℕ)
recorded program size s after bytes all =
    if nat_le (needed s bytes) size then Ok (with_record s bytes after)
    else if may_move program size s all then Ok (with_move program s all after)
    else Err (needed s bytes, size)

-- What becomes of a store that is kept in areas of a size, or in memory, where there is always room. Where nothing differs there is no
-- record.
abbrev pub settled : StoreProgram → Option ℕ → StoreState → Content → Result StoreState (ℕ × ℕ)
settled program None s after = Ok (record s { content = after })
settled program (Some size) s after =
    if say_nothing (changes_between program.table s.content after) then Ok (record s { content = after })
    else recorded program size s after (payload_between program s.content after) (payload_of_all program after)
