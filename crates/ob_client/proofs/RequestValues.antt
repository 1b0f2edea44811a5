-- The values of arguments, one after another; the JSON value of a request has no float.
use Rattle.std.proofs.Common.{◌≡◌, ℕ, ℤ, ◌+◌, ◌<◌, ◌≤◌, pos, negsuc, true, false, List, [], ◌∷◌, ◌++◌, length, drop, get_or, Some, None, refl, sym, ◌∙◌, ap}
use Rattle.std.specs.Prelude.{codes, nat_le}
use Rattle.std.specs.Str.{IsUtf8, is_utf8}
use Rattle.std.proofs.lemmas.Str.{IsUtf8-from_is_utf8}
use Rattle.std.proofs.lemmas.List.{drop_all, drop_more}
use Rattle.serde_json.specs.Data.{Num, Data, number, object, Items, no_items, item, Members, no_members}
use Rattle.serde_json.specs.Find.{is_float, of_integer}
use Rattle.ob_wire.specs.Requests.{word_of}
use Rattle.serde_json.specs.View.{view, items_view}
use Rattle.serde_json.specs.Written.{has_float, items_have_float}
use Rattle.serde_json.specs.declared.value.Value.{Value}
use Rattle.serde_json.proofs.OnLiterals.{serde_json_on_literals}
use Rattle.ob_base.specs.Names.{is_text}
use Rattle.ob_base.specs.Limits.{longest_string}
use Rattle.ob_base.proofs.OptionalLemmas.{both_true}
use Rattle.ob_wire.specs.declared.request.Arg.{Arg}
use Rattle.ob_wire.specs.declared.request.Arg.TheVariants as arg
use Rattle.ob_wire.specs.declared.request.Request.{Request}
use Rattle.ob_wire.specs.declared.request.Op.{Op}
use Rattle.ob_wire.specs.declared.request.Op.TheVariants.{New, Call, Disown, Give, See, Owner}
use Rattle.ob_client.specs.RequestLines.{argument_json, arguments_json, text_pair, op_pairs, with_pairs, request_json}

-- a text is UTF-8
pub text_is_utf8 : (bytes : List ℕ) → is_text bytes ≡ true → IsUtf8 bytes
text_is_utf8 bytes is = IsUtf8-from_is_utf8 bytes (both_true (nat_le (length bytes) longest_string) (is_utf8 bytes) is).1

-- ---- values, and more items

abbrev pub items_before : List Value → Items → Items
items_before [] more = more
items_before (v ∷ values) more = item (view v) (items_before values more)

ended : (values : List Value) → items_before values no_items ≡ items_view values
ended [] = refl
ended (v ∷ values) = ap (item (view v)) (ended values)

-- the values are all where no argument is left
pub none_left : (values : List Value) (args : List Arg) (i : ℕ) (all : Items) → length args ≤ i
    → items_before values (arguments_json (drop i args)) ≡ all → items_view values ≡ all
none_left values args i all over so_far =
    sym (ended values) ∙ sym (ap (λ (xs : List Arg). items_before values (arguments_json xs)) (drop_all i args over)) ∙ so_far

pushed : (values : List Value) (v : Value) (more : Items) → items_before (values ++ v ∷ []) more ≡ items_before values (item (view v) more)
pushed [] v more = refl
pushed (w ∷ values) v more = ap (item (view w)) (pushed values v more)

-- one more argument
pub goes_on : (values : List Value) (args : List Arg) (i : ℕ) (a : Arg) (v : Value) (all : Items) → i < length args → a ≡ get_or args i a
    → view v ≡ argument_json a → items_before values (arguments_json (drop i args)) ≡ all
    → items_before (values ++ v ∷ []) (arguments_json (drop (i + 1) args)) ≡ all
goes_on values args i a v all lt at is so_far =
    let one : drop i args ≡ a ∷ drop (i + 1) args = drop_more args i a lt ∙ ap (λ (x : Arg). x ∷ drop (i + 1) args) (sym at) in
    pushed values v (arguments_json (drop (i + 1) args))
    ∙ ap (λ (d : Data). items_before values (item d (arguments_json (drop (i + 1) args)))) is
    ∙ sym (ap (λ (xs : List Arg). items_before values (arguments_json xs)) one) ∙ so_far

-- ---- no floats

arguments_whole : (args : List Arg) → items_have_float (arguments_json args) ≡ false
arguments_whole [] = refl
arguments_whole (arg.Int (pos n) ∷ args) = arguments_whole args
arguments_whole (arg.Int (negsuc n) ∷ args) = arguments_whole args
arguments_whole (arg.Bool b ∷ args) = arguments_whole args
arguments_whole (arg.Text text ∷ args) = arguments_whole args
arguments_whole (arg.Handle name ∷ args) = arguments_whole args
arguments_whole (arg.Other ∷ args) = arguments_whole args

-- the members of a request with this number
abbrev members_with : Num → List ℕ → Op → Members
members_with n who op =
    with_pairs no_members (((codes "id", number n) ∷ text_pair (codes "op") (word_of op) ∷ text_pair (codes "who") who ∷ []) ++ op_pairs op)

value_whole : (n : Num) (who : List ℕ) (op : Op) → is_float n ≡ false → has_float (object (members_with n who op)) ≡ false
unfolding serde_json_on_literals
value_whole n who (New contract [] None) h = rw h refl
value_whole n who (New contract [] (Some into)) h = rw h refl
value_whole n who (New contract (a ∷ args) None) h = rw (h, arguments_whole (a ∷ args)) refl
value_whole n who (New contract (a ∷ args) (Some into)) h = rw (h, arguments_whole (a ∷ args)) refl
value_whole n who (Call on tx [] None) h = rw h refl
value_whole n who (Call on tx [] (Some into)) h = rw h refl
value_whole n who (Call on tx (a ∷ args) None) h = rw (h, arguments_whole (a ∷ args)) refl
value_whole n who (Call on tx (a ∷ args) (Some into)) h = rw (h, arguments_whole (a ∷ args)) refl
value_whole n who (Disown on) h = rw h refl
value_whole n who (Give on to into mode) h = rw h refl
value_whole n who (See on) h = rw h refl
value_whole n who (Owner on) h = rw h refl

whole_id : (id : ℤ) → is_float (of_integer id) ≡ false
whole_id (pos n) = refl
whole_id (negsuc n) = refl

pub request_whole : (r : Request) → has_float (request_json r) ≡ false
request_whole r = value_whole (of_integer r.id) r.who r.op (whole_id r.id)
