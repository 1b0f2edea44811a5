-- What a line tells: the reply of whose JSON value (RFC 8259) it is a text.
use Rattle.std.specs.Prelude.{ℕ, ℤ, ◌≡◌, ◌^◌, ◌&&◌, Bool, true, false, not, nat_lt, List, [], ◌∷◌, Option, Some, None, IsTrue}
use Rattle.std.specs.List.{list_all}
use Rattle.std.specs.Str.{is_utf8}
use Rattle.std.specs.Ordering.{is_lt, nat_cmp}
use Rattle.std.specs.Cmp.Lexicographic.{slice_cmp}
use Rattle.serde_json.specs.Data.{Data}
use Rattle.ob_base.specs.Names.{is_label}
use Rattle.ob_base.specs.Numbers.{is_int}
use Rattle.ob_base.specs.declared.id.ObjectId.{ObjectId}
use Rattle.ob_wire.specs.Requests.{IsJson}
use Rattle.ob_wire.specs.Replies.{reply_json}
use Rattle.ob_wire.specs.declared.refusal.Refusal.{Refusal}
use Rattle.ob_wire.specs.declared.refusal.Refusal.TheVariants.{LongLine, Json, Shape, BatchSize}
use Rattle.ob_wire.specs.declared.reply.Reply.{Reply}
use Rattle.ob_wire.specs.declared.reply.Answer.{Answer}
use Rattle.ob_wire.specs.declared.reply.Answer.TheVariants as answer
use Rattle.ob_wire.specs.declared.reply.Outcome.{Outcome}
use Rattle.ob_wire.specs.declared.reply.Outcome.TheVariants as outcome
use Rattle.ob_wire.specs.declared.reply.Cause.{Cause}
use Rattle.ob_wire.specs.declared.reply.Cause.TheVariants as cause
use Rattle.ob_wire.specs.declared.reply.Shown.{Shown}
use Rattle.ob_wire.specs.declared.reply.ShownField.{ShownField}
use Rattle.ob_wire.specs.declared.reply.ShownValue.{ShownValue}
use Rattle.ob_wire.specs.declared.reply.ShownValue.TheVariants as shown
use Rattle.ob_client.specs.Sendable.{is_id}

-- a text, if there is one
abbrev pub is_text_if : Option (List ℕ) → Bool
is_text_if None = true
is_text_if (Some text) = is_utf8 text

-- the number of an object
abbrev pub is_object : ObjectId → Bool
is_object o = nat_lt o.0 (2 ^ 32)

-- what a field holds
abbrev pub is_value : ShownValue → Bool
is_value (shown.Int z) = is_int z
is_value (shown.Bool b) = true
is_value (shown.Text text) = is_utf8 text
is_value (shown.Object o) = is_object o

-- a field
abbrev pub is_field : ShownField → Bool
is_field f = is_utf8 f.name && is_value f.value

-- an object as it is shown
abbrev pub is_shown : Shown → Bool
is_shown s = is_object s.object && (is_utf8 s.contract && (is_text_if s.state && list_all is_field s.fields))

-- what a request gives
abbrev pub is_outcome : Outcome → Bool
is_outcome outcome.Nothing = true
is_outcome (outcome.Int z) = is_int z
is_outcome (outcome.Bool b) = true
is_outcome (outcome.Text text) = is_utf8 text
is_outcome (outcome.Object o) = is_object o
is_outcome (outcome.See s) = is_shown s
is_outcome (outcome.Handle who name) = is_label who && is_label name
is_outcome (outcome.Field o name) = is_object o && is_utf8 name

-- why a request was undone
abbrev pub is_cause : Cause → Bool
is_cause (cause.Revert text) = is_utf8 text
is_cause (cause.State o state) = is_object o && is_text_if state
is_cause (cause.Reentry o) = is_object o
is_cause (cause.Overflow line) = nat_lt line (2 ^ 32)
is_cause cause.Fuel = true
is_cause cause.Full = true
is_cause (cause.Room need size) = nat_lt need (2 ^ 64) && nat_lt size (2 ^ 64)

-- an answer
abbrev pub is_answer : Answer → Bool
is_answer (answer.Ok outcome) = is_outcome outcome
is_answer (answer.Abort cause) = is_cause cause
is_answer (answer.Refused refusal) = true

-- a name comes before those of all these fields, in the order of bytes
abbrev pub is_before : List ℕ → List ShownField → Bool
is_before name [] = true
is_before name (f ∷ fields) = is_lt (slice_cmp nat_cmp name f.name) && is_before name fields

-- fields stand in the order of the bytes of their names, each once
abbrev pub are_in_order : List ShownField → Bool
are_in_order [] = true
are_in_order (f ∷ fields) = is_before f.name fields && are_in_order fields

-- so do the fields of an object that is shown
abbrev pub is_in_order : Answer → Bool
is_in_order (answer.Ok (outcome.See s)) = are_in_order s.fields
is_in_order _ = true

-- the refusal of a line that has no request
abbrev pub is_of_line : Refusal → Bool
is_of_line LongLine = true
is_of_line Json = true
is_of_line Shape = true
is_of_line BatchSize = true
is_of_line _ = false

-- the answer to a line that has no request
abbrev pub has_no_request : Answer → Bool
has_no_request (answer.Refused refusal) = is_of_line refusal
has_no_request _ = false

-- the number that is repeated: none where the line has no request
abbrev pub is_id_of : Answer → Option ℤ → Bool
is_id_of a None = has_no_request a
is_id_of a (Some id) = not (has_no_request a) && is_id id

-- A reply that a line may tell: its names, texts and numbers are such, and it has the number of a request exactly where the line was one.
-- The fields of an object stand in the order of their names: a JSON object has no order, so that a line can't tell another.
abbrev pub is_reply : Reply → Bool
is_reply reply = is_id_of reply.answer reply.id && (is_answer reply.answer && is_in_order reply.answer)

-- A line is a JSON text of this reply's value.
pub record Tells (line : List ℕ) (reply : Reply) : Type 0 where
  pub json : IsJson line (reply_json reply)
  pub possible : IsTrue (is_reply reply)

-- A line is a JSON text of a value that is no reply's.
abbrev pub TellsNothing : List ℕ → Type 0
TellsNothing line = (value : Data) × IsJson line value × ((reply : Reply) → IsTrue (is_reply reply) → ¬ (value ≡ reply_json reply))
