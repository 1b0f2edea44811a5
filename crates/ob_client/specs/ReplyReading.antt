-- The reply that stands at the keys of a value, worked out. Whether the value has anything else isn't asked here: it is this reply's
-- only where it is its JSON value.
use Rattle.std.specs.Prelude.{ℕ, ℤ, ◌≡◌, ◌^◌, Bool, nat_eq, nat_lt, List, [], ◌∷◌, Option, Some, None, is_some, Result, Ok, Err, codes, IsTrue, if◌then◌else◌}
use Rattle.std.specs.Str.{is_utf8, bytes_eq}
use Rattle.serde_json.specs.Data.{Num, Data, null, boolean, number, string, array, object, Members, no_members, member}
use Rattle.serde_json.specs.Find.{get, at, as_bool, as_str, as_number, as_object, as_i64, as_u64}
use Rattle.ob_base.specs.Names.{is_label}
use Rattle.ob_base.specs.Numbers.{is_int}
use Rattle.ob_base.specs.Optional.{◌>>=◌, where_true}
use Rattle.ob_base.specs.declared.id.ObjectId.{ObjectId}
use Rattle.ob_wire.specs.Requests.{IsNoJson}
use Rattle.ob_wire.specs.Reading.{text_at}
use Rattle.ob_wire.specs.Replies.{reply_json}
use Rattle.ob_wire.specs.declared.reading.WireError.{WireError}
use Rattle.ob_wire.specs.declared.reading.WireError.TheVariants as wire
use Rattle.ob_wire.specs.declared.refusal.Refusal.{Refusal}
use Rattle.ob_wire.specs.declared.refusal.Refusal.TheVariants as refusal
use Rattle.ob_wire.specs.declared.reply.Reply.{Reply}
use Rattle.ob_wire.specs.declared.reply.Answer.{Answer}
use Rattle.ob_wire.specs.declared.reply.Answer.TheVariants as answer
use Rattle.ob_wire.specs.declared.reply.Outcome.{Outcome}
use Rattle.ob_wire.specs.declared.reply.Outcome.TheVariants as outcome
use Rattle.ob_wire.specs.declared.reply.Cause.{Cause}
use Rattle.ob_wire.specs.declared.reply.Cause.TheVariants as cause
use Rattle.ob_wire.specs.declared.reply.Shown.{Shown}
use Rattle.ob_wire.specs.declared.reply.ShownField.{ShownField}
use Rattle.ob_wire.specs.declared.reply.ShownValue.{ShownValue}
use Rattle.ob_wire.specs.declared.reply.ShownValue.TheVariants as shown
use Rattle.ob_client.specs.Told.{is_id_of, is_reply, Tells, TellsNothing}

-- bytes as a text
abbrev pub text_of : List ℕ → Option (List ℕ)
text_of text = where_true (is_utf8 text) text

-- a text
abbrev pub text_in : Option Data → Option (List ℕ)
text_in found = found >>= as_str >>= text_of

-- a string of 1 to 64 bytes
abbrev pub label_in : Option Data → Option (List ℕ)
label_in found = found >>= as_str >>= λ label. where_true (is_label label) label

-- a truth value
abbrev pub truth_in : Option Data → Option Bool
truth_in found = found >>= as_bool

-- a whole number of 64 bits with a sign
abbrev pub int_of : Num → Option ℤ
int_of n = as_i64 n >>= λ z. where_true (is_int z) z

-- a whole number of 64 bits without a sign
abbrev pub size_in : Option Data → Option ℕ
size_in found = found >>= as_number >>= as_u64 >>= λ n. where_true (nat_lt n (2 ^ 64)) n

-- a whole number of 32 bits without a sign
abbrev pub number_in : Option Data → Option ℕ
number_in found = size_in found >>= λ n. where_true (nat_lt n (2 ^ 32)) n

-- the number of an object
abbrev pub object_in : Option Data → Option ObjectId
object_in found = number_in found >>= λ n. Some (record { 0 = n })

-- a text, or none
abbrev pub text_if_in : Option Data → Option (Option (List ℕ))
text_if_in None = Some None
text_if_in (Some null) = Some None
text_if_in (Some value) = text_in (Some value) >>= λ text. Some (Some text)

-- what a field holds
abbrev pub value_in : Data → Option ShownValue
value_in null = None
value_in (boolean b) = Some (shown.Bool b)
value_in (number n) = int_of n >>= λ z. Some (shown.Int z)
value_in (string text) = text_of text >>= λ t. Some (shown.Text t)
value_in (array items) = None
value_in (object members) = object_in (get (codes "object") (object members)) >>= λ o. Some (shown.Object o)

-- a field
abbrev pub field_in : List ℕ → Data → Option ShownField
field_in name value = text_of name >>= λ n. value_in value >>= λ v. Some (record { name = n; value = v })

-- the fields that members are, in their order
abbrev pub fields_of : Members → Option (List ShownField)
fields_of no_members = Some []
fields_of (member name value members) = field_in name value >>= λ f. fields_of members >>= λ fields. Some (f ∷ fields)

-- the fields of an object
abbrev pub fields_in : Option Data → Option (List ShownField)
fields_in found = found >>= as_object >>= fields_of

-- an object as it is shown
abbrev pub shown_in : Data → Option Shown
shown_in value =
    object_in (get (codes "object") value) >>= λ o. text_in (get (codes "contract") value) >>= λ contract.
    text_if_in (get (codes "state") value) >>= λ state. truth_in (get (codes "shared") value) >>= λ marked.
    truth_in (get (codes "disowned") value) >>= λ disowned. fields_in (get (codes "fields") value) >>= λ fields.
    Some (record { object = o; contract = contract; state = state; shared = marked; disowned = disowned; fields = fields })

-- a handle, in a pair of its client and its name
abbrev pub handle_in : Data → Option Outcome
handle_in pair = label_in (at 0 pair) >>= λ who. label_in (at 1 pair) >>= λ name. Some (outcome.Handle who name)

-- a field of an object, in a pair of the object and its name
abbrev pub place_in : Data → Option Outcome
place_in pair = object_in (at 0 pair) >>= λ o. text_in (at 1 pair) >>= λ name. Some (outcome.Field o name)

-- an owning place, or else an object by its number
abbrev pub place_or_object : Data → Option Data → Option Data → Option Outcome
place_or_object value (Some pair) place = handle_in pair
place_or_object value None (Some pair) = place_in pair
place_or_object value None None = object_in (get (codes "object") value) >>= λ o. Some (outcome.Object o)

-- what an object tells
abbrev pub told_in : Data → Option Outcome
told_in value =
    if is_some (get (codes "contract") value) then (shown_in value >>= λ s. Some (outcome.See s))
    else place_or_object value (get (codes "handle") value) (get (codes "field") value)

-- what a request gives
abbrev pub outcome_in : Data → Option Outcome
outcome_in null = Some outcome.Nothing
outcome_in (boolean b) = Some (outcome.Bool b)
outcome_in (number n) = int_of n >>= λ z. Some (outcome.Int z)
outcome_in (string text) = text_of text >>= λ t. Some (outcome.Text t)
outcome_in (array items) = None
outcome_in (object members) = told_in (object members)

-- a state
abbrev pub state_in : Data → Option Cause
state_in value =
    object_in (get (codes "object") value) >>= λ o. text_if_in (get (codes "state") value) >>= λ state. Some (cause.State o state)

-- bytes that are needed, and that there are
abbrev pub room_in : Data → Option Cause
room_in value =
    size_in (get (codes "need") value) >>= λ need. size_in (get (codes "size") value) >>= λ size. Some (cause.Room need size)

-- why a request was undone, by the word for it
abbrev pub cause_named : List ℕ → Data → Option Cause
cause_named word value =
    if bytes_eq word (codes "revert") then (text_in (get (codes "text") value) >>= λ text. Some (cause.Revert text))
    else (if bytes_eq word (codes "state") then state_in value
    else (if bytes_eq word (codes "reentry") then (object_in (get (codes "object") value) >>= λ o. Some (cause.Reentry o))
    else (if bytes_eq word (codes "overflow") then (number_in (get (codes "line") value) >>= λ line. Some (cause.Overflow line))
    else (if bytes_eq word (codes "fuel") then Some cause.Fuel
    else (if bytes_eq word (codes "full") then Some cause.Full
    else (if bytes_eq word (codes "room") then room_in value else None))))))

-- why a request was undone
abbrev pub cause_in : Data → Option Cause
cause_in value = text_at (codes "abort") value >>= λ word. cause_named word value

-- the refusal of a number
abbrev pub refusal_numbered : ℕ → Option Refusal
refusal_numbered n =
    if nat_eq n 1 then Some refusal.LongLine
    else (if nat_eq n 2 then Some refusal.Json
    else (if nat_eq n 3 then Some refusal.Shape
    else (if nat_eq n 4 then Some refusal.BatchSize
    else (if nat_eq n 5 then Some refusal.NoHandle
    else (if nat_eq n 6 then Some refusal.NoContract
    else (if nat_eq n 7 then Some refusal.NotMain
    else (if nat_eq n 8 then Some refusal.NoTransaction
    else (if nat_eq n 9 then Some refusal.ArgCount
    else (if nat_eq n 10 then Some refusal.ArgKind
    else (if nat_eq n 11 then Some refusal.Permission
    else (if nat_eq n 12 then Some refusal.Repeated
    else (if nat_eq n 13 then Some refusal.IntoMissing
    else (if nat_eq n 14 then Some refusal.IntoNeedless
    else (if nat_eq n 15 then Some refusal.IntoTaken
    else (if nat_eq n 16 then Some refusal.HandlesFull else None)))))))))))))))

-- why a request wasn't begun
abbrev pub refused_in : Option Data → Option Answer
refused_in found = size_in found >>= refusal_numbered >>= λ r. Some (answer.Refused r)

-- how a request went, by what stands at the keys `ok` and `refused`
abbrev pub answer_by : Data → Option Data → Option Data → Option Answer
answer_by value (Some given) refused = outcome_in given >>= λ o. Some (answer.Ok o)
answer_by value None (Some refused) = refused_in (Some refused)
answer_by value None None = cause_in value >>= λ c. Some (answer.Abort c)

-- how a request went
abbrev pub answer_in : Data → Option Answer
answer_in value = answer_by value (get (codes "ok") value) (get (codes "refused") value)

-- the number that is repeated, or none
abbrev pub id_in : Option Data → Option (Option ℤ)
id_in (Some null) = Some None
id_in (Some (number n)) = as_i64 n >>= λ id. Some (Some id)
id_in _ = None

-- a reply
abbrev pub reply_in : Data → Option Reply
reply_in value =
    answer_in value >>= λ a. id_in (get (codes "id") value) >>= λ id. where_true (is_id_of a id) (record { id = id; answer = a })

-- a value tells this, or nothing; or memory ran out
abbrev pub IsToldBy : Result Reply WireError → Data → Type 0
IsToldBy (Ok reply) value = (value ≡ reply_json reply) × IsTrue (is_reply reply)
IsToldBy (Err wire.Json) value = ⊥
IsToldBy (Err wire.BatchSize) value = ⊥
IsToldBy (Err wire.Shape) value = (reply : Reply) → IsTrue (is_reply reply) → ¬ (value ≡ reply_json reply)
IsToldBy (Err wire.Memory) value = Unit {0}

-- a line is read: it tells this, or nothing, or has no value; or memory ran out
abbrev pub ReadsReply : Result Reply WireError → List ℕ → Type 0
ReadsReply (Ok reply) line = Tells line reply
ReadsReply (Err wire.Json) line = IsNoJson line
ReadsReply (Err wire.Shape) line = TellsNothing line
ReadsReply (Err wire.BatchSize) line = ⊥
ReadsReply (Err wire.Memory) line = Unit {0}
