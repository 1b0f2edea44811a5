-- What is read at the keys of a reply's value is this reply; and what is read of any value is such as a reply's parts are.
use Rattle.std.proofs.Common.{◌≡◌, ℕ, ℤ, ◌^◌, pos, negsuc, Bool, true, false, ◌&&◌, List, [], ◌∷◌, Option, Some, None, Ordering, Less, refl, ap, ◌∙◌, subst, arith}
use Rattle.std.specs.Prelude.{codes, nat_lt, not, is_some, if◌then◌else◌, ⊤}
use Rattle.std.specs.List.{list_all}
use Rattle.std.specs.Str.{is_utf8, bytes_eq}
use Rattle.std.specs.Ordering.{nat_cmp, is_lt}
use Rattle.std.specs.Cmp.Lexicographic.{slice_cmp}
use Rattle.std.proofs.lemmas.Bool.{ltb-true, lt-ltb}
use Rattle.serde_json.specs.Data.{Num, Data, null, boolean, number, string, array, object, Members, no_members, member}
use Rattle.serde_json.specs.Find.{get, at, as_str, as_number, as_object, as_i64, as_u64, of_integer}
use Rattle.serde_json.proofs.OnLiterals.{serde_json_on_literals}
use Rattle.ob_base.specs.Names.{is_label}
use Rattle.ob_base.specs.Numbers.{is_int}
use Rattle.ob_base.specs.Optional.{◌>>=◌, where_true}
use Rattle.ob_base.specs.declared.id.ObjectId.{ObjectId}
use Rattle.ob_base.proofs.OptionalLemmas.{bind_some, where_some, both_true}
use Rattle.ob_wire.specs.Reading.{text_at}
use Rattle.ob_wire.specs.Replies.{id_json, text_json, number_json, value_json, with_fields, shown_json, outcome_json, abort_json, answer_json, reply_json}
use Rattle.ob_wire.specs.declared.refusal.Refusal.{Refusal}
use Rattle.ob_wire.specs.declared.refusal.Refusal.TheVariants as refusal
use Rattle.ob_wire.specs.declared.reply.Reply.{Reply}
use Rattle.ob_wire.specs.declared.reply.Answer.{Answer}
use Rattle.ob_wire.specs.declared.reply.Answer.TheVariants as answer
use Rattle.ob_wire.specs.declared.reply.Outcome.{Outcome}
use Rattle.ob_wire.specs.declared.reply.Outcome.TheVariants as outcome
use Rattle.ob_wire.specs.declared.reply.Cause.{Cause}
use Rattle.ob_wire.specs.declared.reply.Cause.TheVariants as cause
use Rattle.ob_wire.specs.declared.reply.Shown.{Shown}
use Rattle.ob_wire.specs.declared.reply.ShownField.{ShownField}
use Rattle.ob_wire.specs.declared.reply.ShownValue.{ShownValue}
use Rattle.ob_wire.specs.declared.reply.ShownValue.TheVariants as shown
use Rattle.ob_client.specs.Told.{is_text_if, is_object, is_value, is_field, is_shown, is_outcome, is_cause, is_answer, is_before, are_in_order, is_in_order, has_no_request, is_id_of, is_reply}
use Rattle.ob_client.specs.ReplyReading.{text_of, text_in, label_in, truth_in, int_of, size_in, number_in, object_in, text_if_in, value_in, field_in, fields_of, fields_in, shown_in, handle_in, place_in, place_or_object, told_in, outcome_in, state_in, room_in, cause_named, cause_in, refusal_numbered, refused_in, answer_by, answer_in, id_in, reply_in}
use Rattle.ob_client.proofs.OrderLemmas.{AllAfter, InOrder, listed, fields_listed, fields_ordered}

-- ---- the reply of a value is read of it

wider : (n : ℕ) → nat_lt n (2 ^ 32) ≡ true → nat_lt n (2 ^ 64) ≡ true
wider n h = lt-ltb n (2 ^ 64) (omega (arith, ltb-true n (2 ^ 32) h))

object_again : (o : ObjectId) → is_object o ≡ true → object_in (Some (number_json o)) ≡ Some o
object_again o h = rw (wider o.0 h, h) refl

int_again : (z : ℤ) → is_int z ≡ true → int_of (of_integer z) ≡ Some z
int_again (pos n) h =
    ap (λ (b : Bool). (if b then Some (pos n) else None) >>= λ z. where_true (is_int z) z) h ∙ ap (λ (b : Bool). where_true b (pos n)) h
int_again (negsuc n) h = rw h refl

text_if_again : (text : Option (List ℕ)) → is_text_if text ≡ true → text_if_in (Some (text_json text)) ≡ Some text
text_if_again None h = refl
text_if_again (Some text) h = rw h refl

value_again : (v : ShownValue) → is_value v ≡ true → value_in (value_json v) ≡ Some v
unfolding serde_json_on_literals
value_again (shown.Int z) h = rw (int_again z h) refl
value_again (shown.Bool b) h = refl
value_again (shown.Text text) h = rw h refl
value_again (shown.Object o) h = rw (object_again o h) refl

fields_again : (fields : List ShownField) → list_all is_field fields ≡ true → fields_of (listed fields) ≡ Some fields
fields_again [] h = refl
fields_again (f ∷ fields) h =
    let parts = both_true (is_field f) (list_all is_field fields) h in
    let own = both_true (is_utf8 f.name) (is_value f.value) parts.0 in
    rw (own.0, value_again f.value own.1, fields_again fields parts.1) refl

shown_again : (s : Shown) → is_shown s ≡ true → are_in_order s.fields ≡ true → outcome_in (shown_json s) ≡ Some (outcome.See s)
unfolding serde_json_on_literals
shown_again s h o =
    let a = both_true (is_object s.object) (is_utf8 s.contract && (is_text_if s.state && list_all is_field s.fields)) h in
    let b = both_true (is_utf8 s.contract) (is_text_if s.state && list_all is_field s.fields) a.1 in
    let e = both_true (is_text_if s.state) (list_all is_field s.fields) b.1 in
    rw (object_again s.object a.0, b.0, text_if_again s.state e.0, fields_listed s.fields o, fields_again s.fields e.1) refl

outcome_again : (o : Outcome) → is_outcome o ≡ true → is_in_order (answer.Ok o) ≡ true → outcome_in (outcome_json o) ≡ Some o
unfolding serde_json_on_literals
outcome_again outcome.Nothing h k = refl
outcome_again (outcome.Int z) h k = rw (int_again z h) refl
outcome_again (outcome.Bool b) h k = refl
outcome_again (outcome.Text text) h k = rw h refl
outcome_again (outcome.Object o) h k = rw (object_again o h) refl
outcome_again (outcome.See s) h k = shown_again s h k
outcome_again (outcome.Handle who name) h k = let parts = both_true (is_label who) (is_label name) h in rw (parts.0, parts.1) refl
outcome_again (outcome.Field o name) h k = let parts = both_true (is_object o) (is_utf8 name) h in rw (object_again o parts.0, parts.1) refl

cause_again : (id : Data) (c : Cause) → is_cause c ≡ true → answer_in (abort_json id c) ≡ Some (answer.Abort c)
unfolding serde_json_on_literals
cause_again id (cause.Revert text) h = rw h refl
cause_again id (cause.State o None) h = rw (object_again o (both_true (is_object o) true h).0) refl
cause_again id (cause.State o (Some state)) h =
    let parts = both_true (is_object o) (is_utf8 state) h in rw (object_again o parts.0, parts.1) refl
cause_again id (cause.Reentry o) h = rw (object_again o h) refl
cause_again id (cause.Overflow line) h = rw (wider line h, h) refl
cause_again id cause.Fuel h = refl
cause_again id cause.Full h = refl
cause_again id (cause.Room need size) h =
    let parts = both_true (nat_lt need (2 ^ 64)) (nat_lt size (2 ^ 64)) h in rw (parts.0, parts.1) refl

refused_again : (id : Data) (r : Refusal) → answer_in (answer_json id (answer.Refused r)) ≡ Some (answer.Refused r)
unfolding serde_json_on_literals
refused_again id refusal.LongLine = refl
refused_again id refusal.Json = refl
refused_again id refusal.Shape = refl
refused_again id refusal.BatchSize = refl
refused_again id refusal.NoHandle = refl
refused_again id refusal.NoContract = refl
refused_again id refusal.NotMain = refl
refused_again id refusal.NoTransaction = refl
refused_again id refusal.ArgCount = refl
refused_again id refusal.ArgKind = refl
refused_again id refusal.Permission = refl
refused_again id refusal.Repeated = refl
refused_again id refusal.IntoMissing = refl
refused_again id refusal.IntoNeedless = refl
refused_again id refusal.IntoTaken = refl
refused_again id refusal.HandlesFull = refl

answer_again : (id : Data) (a : Answer) → is_answer a ≡ true → is_in_order a ≡ true → answer_in (answer_json id a) ≡ Some a
unfolding serde_json_on_literals
answer_again id (answer.Ok o) h k = rw (outcome_again o h k) refl
answer_again id (answer.Abort c) h k = cause_again id c h
answer_again id (answer.Refused r) h k = refused_again id r

id_there : (id : Data) (a : Answer) → get (codes "id") (answer_json id a) ≡ Some id
unfolding serde_json_on_literals
id_there id (answer.Ok o) = refl
id_there id (answer.Abort (cause.Revert text)) = refl
id_there id (answer.Abort (cause.State o None)) = refl
id_there id (answer.Abort (cause.State o (Some state))) = refl
id_there id (answer.Abort (cause.Reentry o)) = refl
id_there id (answer.Abort (cause.Overflow line)) = refl
id_there id (answer.Abort cause.Fuel) = refl
id_there id (answer.Abort cause.Full) = refl
id_there id (answer.Abort (cause.Room need size)) = refl
id_there id (answer.Refused r) = refl

id_again : (a : Answer) (id : Option ℤ) → is_id_of a id ≡ true → id_in (Some (id_json id)) ≡ Some id
id_again a None h = refl
id_again a (Some (pos n)) h = rw (both_true (not (has_no_request a)) (nat_lt n (2 ^ 63)) h).1 refl
id_again a (Some (negsuc n)) h = refl

pub reply_again : (r : Reply) → is_reply r ≡ true → reply_in (reply_json r) ≡ Some r
reply_again r h =
    let a = both_true (is_id_of r.answer r.id) (is_answer r.answer && is_in_order r.answer) h in
    let b = both_true (is_answer r.answer) (is_in_order r.answer) a.1 in
    rw (answer_again (id_json r.id) r.answer b.0 b.1, id_there (id_json r.id) r.answer, id_again r.answer r.id a.0, a.0) refl

-- ---- what is read has its form

abbrev Holds : {A : Type 0} → (A → Type 0) → Option A → Type 0
Holds P None = ⊤
Holds P (Some x) = P x

anything : {A : Type 0} (o : Option A) → Holds (λ _. ⊤) o
anything None = tt
anything (Some x) = tt

-- what follows a value holds where it follows of what that value is
after : {A B : Type 0} (P : A → Type 0) (Q : B → Type 0) (o : Option A) (f : A → Option B) → Holds P o → ((x : A) → P x → Holds Q (f x)) → Holds Q (o >>= f)
after P Q None f h g = tt
after P Q (Some x) f h g = g x h

tested : {A : Type 0} (test : A → Bool) (x : A) → Holds (λ y. test y ≡ true) (where_true (test x) x)
tested test x = go (test x) refl
  where
    go : (b : Bool) → test x ≡ b → Holds (λ y. test y ≡ true) (where_true b x)
    go true e = e
    go false e = tt

both : (a b : Bool) → a ≡ true → b ≡ true → (a && b) ≡ true
both a b x y = rw (x, y) refl

text_form : (text : List ℕ) → Holds (λ t. is_utf8 t ≡ true) (text_of text)
text_form text = tested is_utf8 text

text_holds : (found : Option Data) → Holds (λ t. is_utf8 t ≡ true) (text_in found)
text_holds found = after (λ _. ⊤) (λ t. is_utf8 t ≡ true) (found >>= as_str) text_of (anything (found >>= as_str)) (λ t _. text_form t)

label_holds : (found : Option Data) → Holds (λ l. is_label l ≡ true) (label_in found)
label_holds found =
    after (λ _. ⊤) (λ l. is_label l ≡ true) (found >>= as_str) (λ l. where_true (is_label l) l) (anything (found >>= as_str)) (λ l _. tested is_label l)

int_holds : (n : Num) → Holds (λ z. is_int z ≡ true) (int_of n)
int_holds n = after (λ _. ⊤) (λ z. is_int z ≡ true) (as_i64 n) (λ z. where_true (is_int z) z) (anything (as_i64 n)) (λ z _. tested is_int z)

size_holds : (found : Option Data) → Holds (λ n. nat_lt n (2 ^ 64) ≡ true) (size_in found)
size_holds found =
    after (λ _. ⊤) (λ n. nat_lt n (2 ^ 64) ≡ true) (found >>= as_number >>= as_u64) (λ n. where_true (nat_lt n (2 ^ 64)) n) (anything (found >>= as_number >>= as_u64))
    (λ n _. tested (λ m. nat_lt m (2 ^ 64)) n)

number_holds : (found : Option Data) → Holds (λ n. nat_lt n (2 ^ 32) ≡ true) (number_in found)
number_holds found =
    after (λ _. ⊤) (λ n. nat_lt n (2 ^ 32) ≡ true) (size_in found) (λ n. where_true (nat_lt n (2 ^ 32)) n) (anything (size_in found))
    (λ n _. tested (λ m. nat_lt m (2 ^ 32)) n)

object_holds : (found : Option Data) → Holds (λ o. is_object o ≡ true) (object_in found)
object_holds found =
    after (λ n. nat_lt n (2 ^ 32) ≡ true) (λ o. is_object o ≡ true) (number_in found) (λ n. Some (record { 0 = n })) (number_holds found) (λ n h. h)

some_text : (found : Option Data) → Holds (λ t. is_text_if t ≡ true) (text_in found >>= λ text. Some (Some text))
some_text found = after (λ t. is_utf8 t ≡ true) (λ t. is_text_if t ≡ true) (text_in found) (λ text. Some (Some text)) (text_holds found) (λ t h. h)

text_if_holds : (found : Option Data) → Holds (λ t. is_text_if t ≡ true) (text_if_in found)
text_if_holds None = refl
text_if_holds (Some null) = refl
text_if_holds (Some (boolean b)) = some_text (Some (boolean b))
text_if_holds (Some (number n)) = some_text (Some (number n))
text_if_holds (Some (string s)) = some_text (Some (string s))
text_if_holds (Some (array ds)) = some_text (Some (array ds))
text_if_holds (Some (object ms)) = some_text (Some (object ms))

value_holds : (d : Data) → Holds (λ v. is_value v ≡ true) (value_in d)
value_holds null = tt
value_holds (boolean b) = refl
value_holds (number n) =
    after (λ z. is_int z ≡ true) (λ v. is_value v ≡ true) (int_of n) (λ z. Some (shown.Int z)) (int_holds n) (λ z h. h)
value_holds (string text) =
    after (λ t. is_utf8 t ≡ true) (λ v. is_value v ≡ true) (text_of text) (λ t. Some (shown.Text t)) (text_form text) (λ t h. h)
value_holds (array ds) = tt
value_holds (object ms) =
    after (λ o. is_object o ≡ true) (λ v. is_value v ≡ true) (object_in (get (codes "object") (object ms))) (λ o. Some (shown.Object o))
    (object_holds (get (codes "object") (object ms))) (λ o h. h)

field_holds : (name : List ℕ) (d : Data) → Holds (λ f. is_field f ≡ true) (field_in name d)
field_holds name d =
    after (λ t. is_utf8 t ≡ true) (λ f. is_field f ≡ true) (text_of name) (λ n. value_in d >>= λ v. Some (record { name = n; value = v })) (text_form name)
    (λ n h. after (λ v. is_value v ≡ true) (λ f. is_field f ≡ true) (value_in d) (λ v. Some (record { name = n; value = v })) (value_holds d)
    (λ v k. both (is_utf8 n) (is_value v) h k))

fields_hold : (ms : Members) → Holds (λ fs. list_all is_field fs ≡ true) (fields_of ms)
fields_hold no_members = refl
fields_hold (member name d ms) =
    after (λ f. is_field f ≡ true) (λ fs. list_all is_field fs ≡ true) (field_in name d) (λ f. fields_of ms >>= λ fs. Some (f ∷ fs)) (field_holds name d)
    (λ f h. after (λ fs. list_all is_field fs ≡ true) (λ fs. list_all is_field fs ≡ true) (fields_of ms) (λ fs. Some (f ∷ fs)) (fields_hold ms)
    (λ fs k. both (is_field f) (list_all is_field fs) h k))

fields_in_hold : (found : Option Data) → Holds (λ fs. list_all is_field fs ≡ true) (fields_in found)
fields_in_hold found =
    after (λ _. ⊤) (λ fs. list_all is_field fs ≡ true) (found >>= as_object) fields_of (anything (found >>= as_object)) (λ ms _. fields_hold ms)

shown_holds : (d : Data) → Holds (λ s. is_shown s ≡ true) (shown_in d)
shown_holds d =
    after (λ o. is_object o ≡ true) (λ s. is_shown s ≡ true) (object_in (get (codes "object") d)) _ (object_holds (get (codes "object") d)) (λ o a.
    after (λ t. is_utf8 t ≡ true) (λ s. is_shown s ≡ true) (text_in (get (codes "contract") d)) _ (text_holds (get (codes "contract") d)) (λ contract b.
    after (λ t. is_text_if t ≡ true) (λ s. is_shown s ≡ true) (text_if_in (get (codes "state") d)) _ (text_if_holds (get (codes "state") d)) (λ state e.
    after (λ _. ⊤) (λ s. is_shown s ≡ true) (truth_in (get (codes "shared") d)) _ (anything (truth_in (get (codes "shared") d))) (λ marked _.
    after (λ _. ⊤) (λ s. is_shown s ≡ true) (truth_in (get (codes "disowned") d)) _ (anything (truth_in (get (codes "disowned") d))) (λ disowned _.
    after (λ fs. list_all is_field fs ≡ true) (λ s. is_shown s ≡ true) (fields_in (get (codes "fields") d)) _ (fields_in_hold (get (codes "fields") d)) (λ fields g.
    both (is_object o) _ a (both (is_utf8 contract) _ b (both (is_text_if state) _ e g))))))))

handle_holds : (d : Data) → Holds (λ o. is_outcome o ≡ true) (handle_in d)
handle_holds d =
    after (λ l. is_label l ≡ true) (λ o. is_outcome o ≡ true) (label_in (at 0 d)) _ (label_holds (at 0 d)) (λ who a.
    after (λ l. is_label l ≡ true) (λ o. is_outcome o ≡ true) (label_in (at 1 d)) _ (label_holds (at 1 d)) (λ name b.
    both (is_label who) (is_label name) a b))

place_holds : (d : Data) → Holds (λ o. is_outcome o ≡ true) (place_in d)
place_holds d =
    after (λ o. is_object o ≡ true) (λ o. is_outcome o ≡ true) (object_in (at 0 d)) _ (object_holds (at 0 d)) (λ o a.
    after (λ t. is_utf8 t ≡ true) (λ o. is_outcome o ≡ true) (text_in (at 1 d)) _ (text_holds (at 1 d)) (λ name b.
    both (is_object o) (is_utf8 name) a b))

one_holds : (d : Data) (handle place : Option Data) → Holds (λ o. is_outcome o ≡ true) (place_or_object d handle place)
one_holds d (Some pair) place = handle_holds pair
one_holds d None (Some pair) = place_holds pair
one_holds d None None =
    after (λ o. is_object o ≡ true) (λ o. is_outcome o ≡ true) (object_in (get (codes "object") d)) _ (object_holds (get (codes "object") d)) (λ o h. h)

either : {A : Type 0} (P : A → Type 0) (b : Bool) (x y : Option A) → Holds P x → Holds P y → Holds P (if b then x else y)
either P true x y h k = h
either P false x y h k = k

told_holds : (d : Data) → Holds (λ o. is_outcome o ≡ true) (told_in d)
told_holds d =
    either (λ o. is_outcome o ≡ true) (is_some (get (codes "contract") d)) _ _
    (after (λ s. is_shown s ≡ true) (λ o. is_outcome o ≡ true) (shown_in d) _ (shown_holds d) (λ s h. h))
    (one_holds d (get (codes "handle") d) (get (codes "field") d))

outcome_holds : (d : Data) → Holds (λ o. is_outcome o ≡ true) (outcome_in d)
outcome_holds null = refl
outcome_holds (boolean b) = refl
outcome_holds (number n) = after (λ z. is_int z ≡ true) (λ o. is_outcome o ≡ true) (int_of n) _ (int_holds n) (λ z h. h)
outcome_holds (string text) = after (λ t. is_utf8 t ≡ true) (λ o. is_outcome o ≡ true) (text_of text) _ (text_form text) (λ t h. h)
outcome_holds (array ds) = tt
outcome_holds (object ms) = told_holds (object ms)

state_holds : (d : Data) → Holds (λ c. is_cause c ≡ true) (state_in d)
state_holds d =
    after (λ o. is_object o ≡ true) (λ c. is_cause c ≡ true) (object_in (get (codes "object") d)) _ (object_holds (get (codes "object") d)) (λ o a.
    after (λ t. is_text_if t ≡ true) (λ c. is_cause c ≡ true) (text_if_in (get (codes "state") d)) _ (text_if_holds (get (codes "state") d)) (λ state b.
    both (is_object o) (is_text_if state) a b))

room_holds : (d : Data) → Holds (λ c. is_cause c ≡ true) (room_in d)
room_holds d =
    after (λ n. nat_lt n (2 ^ 64) ≡ true) (λ c. is_cause c ≡ true) (size_in (get (codes "need") d)) _ (size_holds (get (codes "need") d)) (λ need a.
    after (λ n. nat_lt n (2 ^ 64) ≡ true) (λ c. is_cause c ≡ true) (size_in (get (codes "size") d)) _ (size_holds (get (codes "size") d)) (λ size b.
    both (nat_lt need (2 ^ 64)) (nat_lt size (2 ^ 64)) a b))

cause_holds : (word : List ℕ) (d : Data) → Holds (λ c. is_cause c ≡ true) (cause_named word d)
cause_holds word d =
    either P (bytes_eq word (codes "revert")) _ _
    (after (λ t. is_utf8 t ≡ true) P (text_in (get (codes "text") d)) _ (text_holds (get (codes "text") d)) (λ t h. h))
    (either P (bytes_eq word (codes "state")) _ _ (state_holds d)
    (either P (bytes_eq word (codes "reentry")) _ _
    (after (λ o. is_object o ≡ true) P (object_in (get (codes "object") d)) _ (object_holds (get (codes "object") d)) (λ o h. h))
    (either P (bytes_eq word (codes "overflow")) _ _
    (after (λ n. nat_lt n (2 ^ 32) ≡ true) P (number_in (get (codes "line") d)) _ (number_holds (get (codes "line") d)) (λ n h. h))
    (either P (bytes_eq word (codes "fuel")) _ _ refl
    (either P (bytes_eq word (codes "full")) _ _ refl
    (either P (bytes_eq word (codes "room")) _ _ (room_holds d) tt))))))
  where
    P : Cause → Type 0
    P c = is_cause c ≡ true

refused_holds : (found : Option Data) → Holds (λ a. is_answer a ≡ true) (refused_in found)
refused_holds found =
    after (λ _. ⊤) (λ a. is_answer a ≡ true) (size_in found >>= refusal_numbered) _ (anything (size_in found >>= refusal_numbered)) (λ r _. refl)

answer_by_holds : (d : Data) (given refused : Option Data) → Holds (λ a. is_answer a ≡ true) (answer_by d given refused)
answer_by_holds d (Some given) refused =
    after (λ o. is_outcome o ≡ true) (λ a. is_answer a ≡ true) (outcome_in given) _ (outcome_holds given) (λ o h. h)
answer_by_holds d None (Some refused) = refused_holds (Some refused)
answer_by_holds d None None =
    after (λ c. is_cause c ≡ true) (λ a. is_answer a ≡ true) (cause_in d) _
    (after (λ _. ⊤) (λ c. is_cause c ≡ true) (text_at (codes "abort") d) _ (anything (text_at (codes "abort") d)) (λ word _. cause_holds word d)) (λ c h. h)

answer_holds : (d : Data) → Holds (λ a. is_answer a ≡ true) (answer_in d)
answer_holds d = answer_by_holds d (get (codes "ok") d) (get (codes "refused") d)

-- the number and the answer of what is read
abbrev pub IsFormed : Reply → Type 0
IsFormed r = (is_id_of r.answer r.id ≡ true) × (is_answer r.answer ≡ true)

holds_of : {A : Type 0} (P : A → Type 0) (o : Option A) (x : A) → Holds P o → o ≡ Some x → P x
holds_of P o x h e = subst (Holds P) e h

pub reply_formed : (d : Data) (r : Reply) → reply_in d ≡ Some r → IsFormed r
reply_formed d r e =
    let a = bind_some (answer_in d) _ r e in
    let i = bind_some (id_in (get (codes "id") d)) _ r a.2 in
    let w = where_some (is_id_of a.0 i.0) (record { id = i.0; answer = a.0 }) r i.2 in
    let good : is_answer a.0 ≡ true = holds_of (λ x. is_answer x ≡ true) (answer_in d) a.0 (answer_holds d) a.1 in
    subst IsFormed w.1 (w.0, good)

-- ---- its fields stand in order

field_named : (name : List ℕ) (d : Data) → Holds (λ f. f.name ≡ name) (field_in name d)
field_named name d =
    after (λ t. t ≡ name) (λ f. f.name ≡ name) (text_of name) _ (named (is_utf8 name))
    (λ n h. after (λ _. ⊤) (λ f. f.name ≡ name) (value_in d) _ (anything (value_in d)) (λ v _. h))
  where
    named : (b : Bool) → Holds (λ t. t ≡ name) (where_true b name)
    named true = refl
    named false = tt

less : (o : Ordering) → o ≡ Less → is_lt o ≡ true
less o e = ap is_lt e

before_all : (k : List ℕ) (ms : Members) → AllAfter k ms → Holds (λ fs. is_before k fs ≡ true) (fields_of ms)
before_all k no_members h = refl
before_all k (member name d ms) h =
    after (λ f. f.name ≡ name) (λ fs. is_before k fs ≡ true) (field_in name d) _ (field_named name d)
    (λ f e. after (λ fs. is_before k fs ≡ true) (λ fs. is_before k fs ≡ true) (fields_of ms) _ (before_all k ms h.1)
    (λ fs g. both (is_lt (slice_cmp nat_cmp k f.name)) (is_before k fs) (less _ (ap (slice_cmp nat_cmp k) e ∙ h.0)) g))

in_order_too : (ms : Members) → InOrder ms → Holds (λ fs. are_in_order fs ≡ true) (fields_of ms)
in_order_too no_members h = refl
in_order_too (member name d ms) h =
    after (λ f. f.name ≡ name) (λ fs. are_in_order fs ≡ true) (field_in name d) _ (field_named name d)
    (λ f e. next f (fields_of ms) e (before_all name ms h.0) (in_order_too ms h.1))
  where
    next : (f : ShownField) (o : Option (List ShownField)) → f.name ≡ name → Holds (λ fs. is_before name fs ≡ true) o
        → Holds (λ fs. are_in_order fs ≡ true) o → Holds (λ fs. are_in_order fs ≡ true) (o >>= λ fs. Some (f ∷ fs))
    next f None e b g = tt
    next f (Some fs) e b g = both (is_before f.name fs) (are_in_order fs) (ap (λ (n : List ℕ). is_before n fs) e ∙ b) g

shown_in_order : (id : Data) (s : Shown) → Holds (λ a. is_in_order a ≡ true) (answer_in (answer_json id (answer.Ok (outcome.See s))))
unfolding serde_json_on_literals
shown_in_order id s =
    after (λ o. is_in_order (answer.Ok o) ≡ true) (λ a. is_in_order a ≡ true) (outcome_in (shown_json s)) _
    (after (λ t. are_in_order t.fields ≡ true) (λ o. is_in_order (answer.Ok o) ≡ true) (shown_in (shown_json s)) _
    (after (λ _. ⊤) P (object_in (Some (number_json s.object))) _ (anything (object_in (Some (number_json s.object)))) (λ o _.
    after (λ _. ⊤) P (text_in (Some (string s.contract))) _ (anything (text_in (Some (string s.contract)))) (λ contract _.
    after (λ _. ⊤) P (text_if_in (Some (text_json s.state))) _ (anything (text_if_in (Some (text_json s.state)))) (λ state _.
    after (λ fs. are_in_order fs ≡ true) P (fields_of (with_fields no_members s.fields)) _
    (in_order_too (with_fields no_members s.fields) (fields_ordered s.fields no_members tt)) (λ fields g. g)))))
    (λ t h. h)) (λ o h. h)
  where
    P : Shown → Type 0
    P t = are_in_order t.fields ≡ true

answer_in_order : (id : Data) (a : Answer) → answer_in (answer_json id a) ≡ Some a → is_in_order a ≡ true
answer_in_order id (answer.Ok outcome.Nothing) e = refl
answer_in_order id (answer.Ok (outcome.Int z)) e = refl
answer_in_order id (answer.Ok (outcome.Bool b)) e = refl
answer_in_order id (answer.Ok (outcome.Text text)) e = refl
answer_in_order id (answer.Ok (outcome.Object o)) e = refl
answer_in_order id (answer.Ok (outcome.See s)) e =
    holds_of (λ a. is_in_order a ≡ true) _ (answer.Ok (outcome.See s)) (shown_in_order id s) e
answer_in_order id (answer.Ok (outcome.Handle who name)) e = refl
answer_in_order id (answer.Ok (outcome.Field o name)) e = refl
answer_in_order id (answer.Abort c) e = refl
answer_in_order id (answer.Refused r) e = refl

-- what is read of its value is a reply
pub reply_possible : (r : Reply) → reply_in (reply_json r) ≡ Some r → is_reply r ≡ true
reply_possible r e =
    let a = bind_some (answer_in (reply_json r)) _ r e in
    let i = bind_some (id_in (get (codes "id") (reply_json r))) _ r a.2 in
    let w = where_some (is_id_of a.0 i.0) (record { id = i.0; answer = a.0 }) r i.2 in
    let formed = reply_formed (reply_json r) r e in
    let ordered = answer_in_order (id_json r.id) r.answer (a.1 ∙ ap (λ (x : Reply). Some x.answer) w.1) in
    both (is_id_of r.answer r.id) _ formed.0 (both (is_answer r.answer) (is_in_order r.answer) formed.1 ordered)
