-- The line of a reply: a JSON object (RFC 8259) with its keys in byte order and no space, and a newline.
use Rattle.std.specs.Prelude.{ℕ, ℤ, List, [], ◌∷◌, ◌++◌, Option, Some, None, codes}
use Rattle.serde_json.specs.Data.{Data, null, boolean, number, unsigned, string, array, object, no_items, item, Members, no_members, member, put}
use Rattle.serde_json.specs.Find.{of_integer}
use Rattle.serde_json.specs.Written.{compact_text}
use Rattle.ob_base.specs.declared.id.ObjectId.{ObjectId}
use Rattle.ob_wire.specs.Refusals.{number_of}
use Rattle.ob_wire.specs.declared.reply.Reply.{Reply}
use Rattle.ob_wire.specs.declared.reply.Answer.{Answer}
use Rattle.ob_wire.specs.declared.reply.Answer.TheVariants as answer
use Rattle.ob_wire.specs.declared.reply.Outcome.{Outcome}
use Rattle.ob_wire.specs.declared.reply.Outcome.TheVariants as outcome
use Rattle.ob_wire.specs.declared.reply.Cause.{Cause}
use Rattle.ob_wire.specs.declared.reply.Cause.TheVariants as cause
use Rattle.ob_wire.specs.declared.reply.Shown.{Shown}
use Rattle.ob_wire.specs.declared.reply.ShownField.{ShownField}
use Rattle.ob_wire.specs.declared.reply.ShownValue.{ShownValue}
use Rattle.ob_wire.specs.declared.reply.ShownValue.TheVariants as shown

-- the id, or `null`
abbrev pub id_json : Option ℤ → Data
id_json None = null
id_json (Some id) = number (of_integer id)

-- a text, or `null`
abbrev pub text_json : Option (List ℕ) → Data
text_json None = null
text_json (Some text) = string text

-- the number of an object
abbrev pub number_json : ObjectId → Data
number_json o = number (unsigned o.0)

-- an object by its number
abbrev pub object_json : ObjectId → Data
object_json o = object (member (codes "object") (number_json o) no_members)

-- what a field holds
abbrev pub value_json : ShownValue → Data
value_json (shown.Int n) = number (of_integer n)
value_json (shown.Bool b) = boolean b
value_json (shown.Text text) = string text
value_json (shown.Object o) = object_json o

-- these members, and the fields, each put at its place in the byte order of the names
abbrev pub with_fields : Members → List ShownField → Members
with_fields members [] = members
with_fields members (f ∷ fields) = with_fields (put f.name (value_json f.value) members) fields

-- an object as it is shown
abbrev pub shown_json : Shown → Data
shown_json s =
    object (member (codes "contract") (string s.contract) (member (codes "disowned") (boolean s.disowned)
    (member (codes "fields") (object (with_fields no_members s.fields)) (member (codes "object") (number_json s.object)
    (member (codes "shared") (boolean s.shared) (member (codes "state") (text_json s.state) no_members))))))

-- a pair
abbrev pub pair_json : Data → Data → Data
pair_json first second = array (item first (item second no_items))

-- what a request gives
abbrev pub outcome_json : Outcome → Data
outcome_json outcome.Nothing = null
outcome_json (outcome.Int n) = number (of_integer n)
outcome_json (outcome.Bool b) = boolean b
outcome_json (outcome.Text text) = string text
outcome_json (outcome.Object o) = object_json o
outcome_json (outcome.See s) = shown_json s
outcome_json (outcome.Handle who name) = object (member (codes "handle") (pair_json (string who) (string name)) no_members)
outcome_json (outcome.Field o name) = object (member (codes "field") (pair_json (number_json o) (string name)) no_members)

-- an abort by this word, with the id and what the cause tells
abbrev pub abort_with : List ℕ → Data → Members → Data
abort_with word id told = object (member (codes "abort") (string word) (member (codes "id") id told))

-- a request that was undone, with its id
abbrev pub abort_json : Data → Cause → Data
abort_json id (cause.Revert text) = abort_with (codes "revert") id (member (codes "text") (string text) no_members)
abort_json id (cause.State o None) = abort_with (codes "state") id (member (codes "object") (number_json o) no_members)
abort_json id (cause.State o (Some state)) =
    abort_with (codes "state") id (member (codes "object") (number_json o) (member (codes "state") (string state) no_members))
abort_json id (cause.Reentry o) = abort_with (codes "reentry") id (member (codes "object") (number_json o) no_members)
abort_json id (cause.Overflow line) = abort_with (codes "overflow") id (member (codes "line") (number (unsigned line)) no_members)
abort_json id cause.Fuel = abort_with (codes "fuel") id no_members
abort_json id cause.Full = abort_with (codes "full") id no_members
abort_json id (cause.Room need size) =
    abort_with (codes "room") id (member (codes "need") (number (unsigned need)) (member (codes "size") (number (unsigned size)) no_members))

-- what a request is answered with, by the kind of its answer
abbrev pub answer_json : Data → Answer → Data
answer_json id (answer.Ok outcome) = object (member (codes "id") id (member (codes "ok") (outcome_json outcome) no_members))
answer_json id (answer.Abort cause) = abort_json id cause
answer_json id (answer.Refused refusal) =
    object (member (codes "id") id (member (codes "refused") (number (unsigned (number_of refusal))) no_members))

-- the JSON value of a reply
abbrev pub reply_json : Reply → Data
reply_json reply = answer_json (id_json reply.id) reply.answer

-- the line of a reply
abbrev pub reply_line : Reply → List ℕ
reply_line reply = compact_text (reply_json reply) ++ codes "\n"
