-- The JSON value of a reply has no float.
use Rattle.std.proofs.Common.{◌≡◌, ℕ, ℤ, pos, negsuc, Bool, true, false, ◌||◌, List, [], ◌∷◌, Option, Some, None, Ordering, Less, Equal, Greater, refl}
use Rattle.std.specs.Ordering.{nat_cmp, match_ordering}
use Rattle.std.specs.Cmp.Lexicographic.{slice_cmp}
use Rattle.serde_json.specs.Data.{Data, Members, no_members, member, put}
use Rattle.serde_json.specs.Written.{has_float, members_have_float}
use Rattle.ob_wire.specs.Replies.{id_json, text_json, value_json, with_fields, shown_json, outcome_json, abort_json, answer_json, reply_json}
use Rattle.ob_wire.specs.declared.reply.Reply.{Reply}
use Rattle.ob_wire.specs.declared.reply.Answer.{Answer}
use Rattle.ob_wire.specs.declared.reply.Answer.TheVariants as answer
use Rattle.ob_wire.specs.declared.reply.Outcome.{Outcome}
use Rattle.ob_wire.specs.declared.reply.Outcome.TheVariants as outcome
use Rattle.ob_wire.specs.declared.reply.Cause.{Cause}
use Rattle.ob_wire.specs.declared.reply.Cause.TheVariants as cause
use Rattle.ob_wire.specs.declared.reply.Shown.{Shown}
use Rattle.ob_wire.specs.declared.reply.ShownField.{ShownField}
use Rattle.ob_wire.specs.declared.reply.ShownValue.{ShownValue}
use Rattle.ob_wire.specs.declared.reply.ShownValue.TheVariants as shown

id_whole : (id : Option ℤ) → has_float (id_json id) ≡ false
id_whole None = refl
id_whole (Some (pos n)) = refl
id_whole (Some (negsuc n)) = refl

text_whole : (text : Option (List ℕ)) → has_float (text_json text) ≡ false
text_whole None = refl
text_whole (Some text) = refl

value_whole : (value : ShownValue) → has_float (value_json value) ≡ false
value_whole (shown.Int (pos n)) = refl
value_whole (shown.Int (negsuc n)) = refl
value_whole (shown.Bool b) = refl
value_whole (shown.Text text) = refl
value_whole (shown.Object o) = refl

by_order : (o : Ordering) (a b d : Members) → members_have_float a ≡ false → members_have_float b ≡ false → members_have_float d ≡ false → members_have_float (match_ordering o a b d) ≡ false
by_order Less a b d x y z = x
by_order Equal a b d x y z = y
by_order Greater a b d x y z = z

neither : (a b : Bool) → a ≡ false → b ≡ false → (a || b) ≡ false
neither a b x y = rw (x, y) refl

both_whole : (a b : Bool) → (a || b) ≡ false → (a ≡ false) × (b ≡ false)
both_whole true b e = absurd cc
both_whole false b e = (refl, e)

put_whole : (key : List ℕ) (value : Data) (ms : Members) → has_float value ≡ false → members_have_float ms ≡ false → members_have_float (put key value ms) ≡ false
put_whole key value no_members whole all = neither _ _ whole refl
put_whole key value (member l other ms) whole all =
    let h = both_whole (has_float other) (members_have_float ms) all in
    by_order (slice_cmp nat_cmp key l) _ _ _ (neither _ _ whole all) (neither _ _ whole h.1) (neither _ _ h.0 (put_whole key value ms whole h.1))

fields_whole : (fields : List ShownField) (ms : Members) → members_have_float ms ≡ false → members_have_float (with_fields ms fields) ≡ false
fields_whole [] ms all = all
fields_whole (f ∷ fields) ms all = fields_whole fields (put f.name (value_json f.value) ms) (put_whole f.name (value_json f.value) ms (value_whole f.value) all)

shown_whole : (s : Shown) → has_float (shown_json s) ≡ false
shown_whole s = rw (fields_whole s.fields no_members refl, text_whole s.state) refl

outcome_whole : (outcome : Outcome) → has_float (outcome_json outcome) ≡ false
outcome_whole outcome.Nothing = refl
outcome_whole (outcome.Int (pos n)) = refl
outcome_whole (outcome.Int (negsuc n)) = refl
outcome_whole (outcome.Bool b) = refl
outcome_whole (outcome.Text text) = refl
outcome_whole (outcome.Object o) = refl
outcome_whole (outcome.See s) = shown_whole s
outcome_whole (outcome.Handle who name) = refl
outcome_whole (outcome.Field o name) = refl

abort_whole : (id : Data) (cause : Cause) → has_float id ≡ false → has_float (abort_json id cause) ≡ false
abort_whole id (cause.Revert text) whole = rw whole refl
abort_whole id (cause.State o None) whole = rw whole refl
abort_whole id (cause.State o (Some state)) whole = rw whole refl
abort_whole id (cause.Reentry o) whole = rw whole refl
abort_whole id (cause.Overflow line) whole = rw whole refl
abort_whole id cause.Fuel whole = rw whole refl
abort_whole id cause.Full whole = rw whole refl
abort_whole id (cause.Room need size) whole = rw whole refl

answer_whole : (id : Data) (a : Answer) → has_float id ≡ false → has_float (answer_json id a) ≡ false
answer_whole id (answer.Ok outcome) whole = rw (whole, outcome_whole outcome) refl
answer_whole id (answer.Abort cause) whole = abort_whole id cause whole
answer_whole id (answer.Refused n) whole = rw whole refl

pub is_whole : (reply : Reply) → has_float (reply_json reply) ≡ false
is_whole reply = answer_whole (id_json reply.id) reply.answer (id_whole reply.id)
