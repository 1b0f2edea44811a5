-- The JSON value of a reply is exact, so that its text is read as it.
use Rattle.std.proofs.Common.{◌≡◌, ℕ, ℤ, ◌<◌, ◌≤◌, ◌^◌, pos, negsuc, true, false, true≢false, ◌&&◌, List, [], ◌∷◌, Option, Some, None, refl, sym, arith}
use Rattle.std.specs.Prelude.{codes, nat_lt, not}
use Rattle.std.specs.List.{list_all}
use Rattle.std.specs.Str.{is_utf8}
use Rattle.std.proofs.lemmas.Bool.{ltb-true}
use Rattle.serde_json.specs.Data.{Data, number, Members, no_members, depth}
use Rattle.serde_json.proofs.OnLiterals.{serde_json_on_literals}
use Rattle.ob_base.proofs.OptionalLemmas.{both_true}
use Rattle.ob_wire.specs.Refusals.{number_of}
use Rattle.ob_wire.specs.Replies.{id_json, text_json, number_json, object_json, value_json, with_fields, shown_json, outcome_json, abort_json, answer_json, reply_json}
use Rattle.ob_wire.specs.declared.refusal.Refusal.{Refusal}
use Rattle.ob_wire.specs.declared.refusal.Refusal.TheVariants as refusal
use Rattle.ob_wire.specs.declared.reply.Reply.{Reply}
use Rattle.ob_wire.specs.declared.reply.Answer.{Answer}
use Rattle.ob_wire.specs.declared.reply.Answer.TheVariants as answer
use Rattle.ob_wire.specs.declared.reply.Outcome.{Outcome}
use Rattle.ob_wire.specs.declared.reply.Outcome.TheVariants as outcome
use Rattle.ob_wire.specs.declared.reply.Cause.{Cause}
use Rattle.ob_wire.specs.declared.reply.Cause.TheVariants as cause
use Rattle.ob_wire.specs.declared.reply.Shown.{Shown}
use Rattle.ob_wire.specs.declared.reply.ShownField.{ShownField}
use Rattle.ob_wire.specs.declared.reply.ShownValue.{ShownValue}
use Rattle.ob_wire.specs.declared.reply.ShownValue.TheVariants as shown
use Rattle.ob_base.specs.declared.id.ObjectId.{ObjectId}
use Rattle.ob_base.specs.Numbers.{is_int}
use Rattle.ob_base.specs.Names.{is_label}
use Rattle.ob_client.specs.Exact.{IsExact}
use Rattle.ob_client.specs.Sendable.{is_id}
use Rattle.serde_json.specs.Find.{of_integer}
use Rattle.ob_client.specs.Told.{is_text_if, is_object, is_value, is_field, is_shown, is_outcome, is_cause, is_answer, is_id_of, has_no_request}
use Rattle.ob_client.proofs.RequestLaws.{IsGood, AreGood, put_good, plain, label_exact}
use Rattle.ob_client.proofs.OrderLemmas.{fields_ordered, put_again}

-- ---- parts

int_whole : (z : ℤ) → is_int z ≡ true → IsGood (number (of_integer z))
int_whole (pos n) h = (omega (arith, ltb-true n (2 ^ 63) h), omega arith)
int_whole (negsuc n) h = (ltb-true n (2 ^ 63) h, omega arith)

number_whole : (o : ObjectId) → is_object o ≡ true → IsExact (number_json o)
number_whole o h = omega (arith, ltb-true o.0 (2 ^ 32) h)

object_good : (o : ObjectId) → is_object o ≡ true → IsGood (object_json o)
object_good o h = ((refl, (plain (codes "object") refl, number_whole o h, tt)), omega arith)

text_if_good : (text : Option (List ℕ)) → is_text_if text ≡ true → IsGood (text_json text)
text_if_good None h = (tt, omega arith)
text_if_good (Some text) h = (h, omega arith)

value_good : (v : ShownValue) → is_value v ≡ true → IsGood (value_json v)
value_good (shown.Int z) h = int_whole z h
value_good (shown.Bool b) h = (tt, omega arith)
value_good (shown.Text text) h = (h, omega arith)
value_good (shown.Object o) h = object_good o h

fields_good : (fields : List ShownField) (ms : Members) → list_all is_field fields ≡ true → AreGood ms → AreGood (with_fields ms fields)
fields_good [] ms h m = m
fields_good (f ∷ fields) ms h m =
    let parts = both_true (is_field f) (list_all is_field fields) h in
    let own = both_true (is_utf8 f.name) (is_value f.value) parts.0 in
    fields_good fields _ parts.1 (put_good f.name (value_json f.value) ms own.0 (value_good f.value own.1) m)

-- ---- answers

-- a value that is exact, and not deep
abbrev pub IsFine : ℕ → Data → Type 0
IsFine n value = IsExact value × (depth value ≤ n)

shown_fine : (s : Shown) → is_shown s ≡ true → IsFine 4 (shown_json s)
unfolding serde_json_on_literals
shown_fine s h =
    let a = both_true (is_object s.object) (is_utf8 s.contract && (is_text_if s.state && list_all is_field s.fields)) h in
    let b = both_true (is_utf8 s.contract) (is_text_if s.state && list_all is_field s.fields) a.1 in
    let e = both_true (is_text_if s.state) (list_all is_field s.fields) b.1 in
    let fields = fields_good s.fields no_members e.1 (tt, omega arith) in
    let state = text_if_good s.state e.0 in
    let ordered = put_again (with_fields no_members s.fields) (fields_ordered s.fields no_members tt) in
    ((refl, (plain (codes "contract") refl, b.0, (plain (codes "disowned") refl, tt, (plain (codes "fields") refl, (ordered, fields.0), (plain (codes "object") refl, number_whole s.object a.0, (plain (codes "shared") refl, tt, (plain (codes "state") refl, state.0, tt))))))), omega (arith, fields.1, state.1))

outcome_fine : (o : Outcome) → is_outcome o ≡ true → IsFine 4 (outcome_json o)
unfolding serde_json_on_literals
outcome_fine outcome.Nothing h = (tt, omega arith)
outcome_fine (outcome.Int z) h = let g = int_whole z h in (g.0, omega (arith, g.1))
outcome_fine (outcome.Bool b) h = (tt, omega arith)
outcome_fine (outcome.Text text) h = (h, omega arith)
outcome_fine (outcome.Object o) h = let g = object_good o h in (g.0, omega (arith, g.1))
outcome_fine (outcome.See s) h = shown_fine s h
outcome_fine (outcome.Handle who name) h =
    let parts = both_true (is_label who) (is_label name) h in
    ((refl, (plain (codes "handle") refl, (label_exact who parts.0, (label_exact name parts.1, tt)), tt)), omega arith)
outcome_fine (outcome.Field o name) h =
    let parts = both_true (is_object o) (is_utf8 name) h in
    ((refl, (plain (codes "field") refl, (number_whole o parts.0, (parts.1, tt)), tt)), omega arith)

abort_fine : (id : Data) (c : Cause) → IsFine 0 id → is_cause c ≡ true → IsFine 1 (abort_json id c)
unfolding serde_json_on_literals
abort_fine id (cause.Revert text) i h =
    ((refl, (plain (codes "abort") refl, plain (codes "revert") refl, (plain (codes "id") refl, i.0, (plain (codes "text") refl, h, tt)))), omega (arith, i.1))
abort_fine id (cause.State o None) i h =
    let parts = both_true (is_object o) true h in
    ((refl, (plain (codes "abort") refl, plain (codes "state") refl, (plain (codes "id") refl, i.0, (plain (codes "object") refl, number_whole o parts.0, tt)))), omega (arith, i.1))
abort_fine id (cause.State o (Some state)) i h =
    let parts = both_true (is_object o) (is_utf8 state) h in
    ((refl, (plain (codes "abort") refl, plain (codes "state") refl, (plain (codes "id") refl, i.0, (plain (codes "object") refl, number_whole o parts.0, (plain (codes "state") refl, parts.1, tt))))), omega (arith, i.1))
abort_fine id (cause.Reentry o) i h =
    ((refl, (plain (codes "abort") refl, plain (codes "reentry") refl, (plain (codes "id") refl, i.0, (plain (codes "object") refl, number_whole o h, tt)))), omega (arith, i.1))
abort_fine id (cause.Overflow line) i h =
    let small : line < 2 ^ 64 = omega (arith, ltb-true line (2 ^ 32) h) in
    ((refl, (plain (codes "abort") refl, plain (codes "overflow") refl, (plain (codes "id") refl, i.0, (plain (codes "line") refl, small, tt)))), omega (arith, i.1))
abort_fine id cause.Fuel i h =
    ((refl, (plain (codes "abort") refl, plain (codes "fuel") refl, (plain (codes "id") refl, i.0, tt))), omega (arith, i.1))
abort_fine id cause.Full i h =
    ((refl, (plain (codes "abort") refl, plain (codes "full") refl, (plain (codes "id") refl, i.0, tt))), omega (arith, i.1))
abort_fine id (cause.Room need size) i h =
    let parts = both_true (nat_lt need (2 ^ 64)) (nat_lt size (2 ^ 64)) h in
    ((refl, (plain (codes "abort") refl, plain (codes "room") refl, (plain (codes "id") refl, i.0, (plain (codes "need") refl, ltb-true need (2 ^ 64) parts.0, (plain (codes "size") refl, ltb-true size (2 ^ 64) parts.1, tt))))), omega (arith, i.1))

number_small : (r : Refusal) → number_of r < 2 ^ 64
number_small refusal.LongLine = omega arith
number_small refusal.Json = omega arith
number_small refusal.Shape = omega arith
number_small refusal.BatchSize = omega arith
number_small refusal.NoHandle = omega arith
number_small refusal.NoContract = omega arith
number_small refusal.NotMain = omega arith
number_small refusal.NoTransaction = omega arith
number_small refusal.ArgCount = omega arith
number_small refusal.ArgKind = omega arith
number_small refusal.Permission = omega arith
number_small refusal.Repeated = omega arith
number_small refusal.IntoMissing = omega arith
number_small refusal.IntoNeedless = omega arith
number_small refusal.IntoTaken = omega arith
number_small refusal.HandlesFull = omega arith

answer_fine : (id : Data) (a : Answer) → IsFine 0 id → is_answer a ≡ true → IsFine 5 (answer_json id a)
unfolding serde_json_on_literals
answer_fine id (answer.Ok o) i h =
    let g = outcome_fine o h in
    ((refl, (plain (codes "id") refl, i.0, (plain (codes "ok") refl, g.0, tt))), omega (arith, i.1, g.1))
answer_fine id (answer.Abort c) i h = let g = abort_fine id c i h in (g.0, omega (arith, g.1))
answer_fine id (answer.Refused r) i h =
    ((refl, (plain (codes "id") refl, i.0, (plain (codes "refused") refl, number_small r, tt))), omega (arith, i.1))

id_fine : (a : Answer) (id : Option ℤ) → is_id_of a id ≡ true → IsFine 0 (id_json id)
id_fine a None h = (tt, omega arith)
id_fine a (Some (pos n)) h =
    let parts = both_true (not (has_no_request a)) (is_id (pos n)) h in
    (omega (arith, ltb-true n (2 ^ 63) parts.1), omega arith)
id_fine a (Some (negsuc n)) h = absurd (true≢false (sym (both_true (not (has_no_request a)) false h).1))

-- the value of a reply whose parts are such
pub reply_fine : (r : Reply) → is_id_of r.answer r.id ≡ true → is_answer r.answer ≡ true → IsFine 5 (reply_json r)
reply_fine r i h = answer_fine (id_json r.id) r.answer (id_fine r.answer r.id i) h
