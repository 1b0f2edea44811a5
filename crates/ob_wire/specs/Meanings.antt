-- Requests and replies as the meaning of an invocation has them.
use Rattle.std.specs.Prelude.{ℕ, ℤ, List, map, Option, Some, None, option_map}
use Rattle.ob_base.specs.declared.id.ObjectId.{ObjectId}
use Rattle.ob_heap_spec.specs.Values as values
use Rattle.ob_heap_spec.specs.Worlds as worlds
use Rattle.ob_invocation_spec.specs.Requests as asked
use Rattle.ob_invocation_spec.specs.Replies as told
use Rattle.ob_wire.specs.Refusals.{refusal_told}
use Rattle.ob_wire.specs.declared.request.Arg.{Arg}
use Rattle.ob_wire.specs.declared.request.Arg.TheVariants as arg
use Rattle.ob_wire.specs.declared.request.Request.{Request}
use Rattle.ob_wire.specs.declared.request.Op.{Op}
use Rattle.ob_wire.specs.declared.request.Op.TheVariants.{New, Call, Disown, Give, See, Owner}
use Rattle.ob_wire.specs.declared.reply.Answer.{Answer}
use Rattle.ob_wire.specs.declared.reply.Answer.TheVariants as answer
use Rattle.ob_wire.specs.declared.reply.Outcome.{Outcome}
use Rattle.ob_wire.specs.declared.reply.Outcome.TheVariants as outcome
use Rattle.ob_wire.specs.declared.reply.Cause.{Cause}
use Rattle.ob_wire.specs.declared.reply.Cause.TheVariants as cause
use Rattle.ob_wire.specs.declared.reply.Shown.{Shown}
use Rattle.ob_wire.specs.declared.reply.ShownField.{ShownField}
use Rattle.ob_wire.specs.declared.reply.ShownValue.{ShownValue}
use Rattle.ob_wire.specs.declared.reply.ShownValue.TheVariants as shown

-- an argument
abbrev pub argument_meant : Arg → asked.Argument
argument_meant (arg.Int z) = asked.int_argument z
argument_meant (arg.Bool b) = asked.bool_argument b
argument_meant (arg.Text text) = asked.text_argument text
argument_meant (arg.Handle name) = asked.handle_argument name
argument_meant arg.Other = asked.other_argument

-- what is asked
abbrev pub operation_of : Op → asked.Operation
operation_of (New contract args into) =
    asked.new_request (record { contract = contract; args = map argument_meant args; into = into })
operation_of (Call on tx args into) =
    asked.call_request (record { on = on; tx = tx; args = map argument_meant args; into = into })
operation_of (Disown on) = asked.disown_request on
operation_of (Give on to into mode) = asked.give_request (record { on = on; to = to; into = into; mode = mode })
operation_of (See on) = asked.see_request on
operation_of (Owner on) = asked.owner_request on

-- a request without its number
abbrev pub request_of : Request → asked.Request
request_of request = record { who = request.who; operation = operation_of request.op }

-- a value in a field that is shown
abbrev pub value_shown : values.Value → ShownValue
value_shown (values.int_value z) = shown.Int z
value_shown (values.bool_value b) = shown.Bool b
value_shown (values.text_value text) = shown.Text text
value_shown (values.reference n) = shown.Object (record { 0 = n })

-- a field that is shown
abbrev pub field_shown : (List ℕ × values.Value) → ShownField
field_shown f = record { name = f.0; value = value_shown f.1 }

-- an object that is shown
abbrev pub object_shown : told.ShownObject → Shown
object_shown o = record {
  object = record { 0 = o.object };
  contract = o.contract;
  state = o.state;
  shared = o.shared;
  disowned = o.disowned;
  fields = map field_shown o.fields;
}

-- a value that is given
abbrev pub value_given : values.Value → Outcome
value_given (values.int_value z) = outcome.Int z
value_given (values.bool_value b) = outcome.Bool b
value_given (values.text_value text) = outcome.Text text
value_given (values.reference n) = outcome.Object (record { 0 = n })

-- a place that is told
abbrev pub place_told : told.ShownPlace → Outcome
place_told (told.shown_field n name) = outcome.Field (record { 0 = n }) name
place_told (told.shown_handle h) = outcome.Handle h.who h.name

-- why a request was undone; the name of a state is told with that cause alone
abbrev pub cause_told : worlds.AbortCause → Option (List ℕ) → Cause
cause_told (worlds.by_revert text) state = cause.Revert text
cause_told (worlds.by_state n s) state = cause.State (record { 0 = n }) state
cause_told (worlds.by_reentry n) state = cause.Reentry (record { 0 = n })
cause_told (worlds.by_overflow line) state = cause.Overflow line
cause_told worlds.by_fuel state = cause.Fuel
cause_told worlds.by_full state = cause.Full

-- the answer that says what an invocation is answered
abbrev pub answer_of : told.Reply → Answer
answer_of told.ok_nothing = answer.Ok outcome.Nothing
answer_of (told.ok_value value) = answer.Ok (value_given value)
answer_of (told.ok_object n) = answer.Ok (outcome.Object (record { 0 = n }))
answer_of (told.ok_shown o) = answer.Ok (outcome.See (object_shown o))
answer_of (told.ok_place place) = answer.Ok (place_told place)
answer_of (told.refused refusal) = answer.Refused (refusal_told refusal)
answer_of (told.aborted cause state) = answer.Abort (cause_told cause state)
