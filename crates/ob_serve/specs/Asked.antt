-- What a line asks: a request, or a batch of them, or why it asks nothing (this project's own).
use Rattle.std.specs.Prelude.{ℕ, ◌<◌, ◌≤◌, nat_lt, List, length, Option, Some, None, Result, Ok, Err, if◌then◌else◌}
use Rattle.serde_json.specs.Data.{Data}
use Rattle.ob_base.specs.Limits.{longest_line}
use Rattle.ob_wire.specs.Reading.{incoming_in, value_of}
use Rattle.ob_wire.specs.Requests.{AsksIncoming, IsNoJson, AsksNothing, AsksWrongCount}
use Rattle.ob_wire.specs.declared.reading.WireError.{WireError}
use Rattle.ob_wire.specs.declared.reading.WireError.TheVariants as wire
use Rattle.ob_wire.specs.declared.refusal.Refusal.{Refusal}
use Rattle.ob_wire.specs.declared.refusal.Refusal.TheVariants.{LongLine, Json, Shape, BatchSize}
use Rattle.ob_wire.specs.declared.request.Incoming.{Incoming}

-- what a JSON value asks, or why it is refused
abbrev pub asked_if : Result Incoming WireError → Result Incoming Refusal
asked_if (Ok incoming) = Ok incoming
asked_if (Err wire.BatchSize) = Err BatchSize
asked_if (Err error) = Err Shape

-- what is asked by the JSON value of a line, if it has one
abbrev pub asked_by_value : Option Data → Result Incoming Refusal
asked_by_value None = Err Json
asked_by_value (Some value) = asked_if (incoming_in value)

-- What a line asks: a request, or a batch. Or it is refused, since it is too long, no JSON, JSON that is no request and no array of
-- requests, or an array of too few or too many.
abbrev pub asked_by : List ℕ → Result Incoming Refusal
asked_by line = if nat_lt longest_line (length line) then Err LongLine else asked_by_value (value_of line)

-- That is what a line asks, or why it asks nothing.
abbrev pub IsAskedBy : List ℕ → Result Incoming Refusal → Type 0
IsAskedBy line (Ok incoming) = (length line ≤ longest_line) × AsksIncoming line incoming
IsAskedBy line (Err LongLine) = longest_line < length line
IsAskedBy line (Err Json) = (length line ≤ longest_line) × IsNoJson line
IsAskedBy line (Err Shape) = (length line ≤ longest_line) × AsksNothing line
IsAskedBy line (Err BatchSize) = (length line ≤ longest_line) × AsksWrongCount line
IsAskedBy line (Err refusal) = ⊥
