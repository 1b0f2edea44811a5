-- What a line asks is worked out, and the names in it are labels.
use Rattle.std.proofs.Common.{◌≡◌, ℕ, zero, suc, subst, ℤ, ◌<◌, ◌≤◌, Bool, true, false, ◌&&◌, List, [], ◌∷◌, ◌++◌, length, map, Option, Some, None, refl, ◌∙◌, ap, arith}
use Rattle.std.specs.Prelude.{Result, Ok, Err, IfOk, nat_lt, slice_get, option_to_list, codes, if◌then◌else◌}
use Rattle.std.specs.List.{list_all}
use Rattle.std.specs.Str.{is_utf8, bytes_eq}
use Rattle.std.proofs.lemmas.Bool.Decides.{nat_tests}
use Rattle.std.proofs.lemmas.List.Folds.{list_all-append}
use Rattle.std.proofs.lemmas.Str.{is_utf8-from_IsUtf8, IsUtf8-from_is_utf8}
use Rattle.serde_json.specs.Data.{Data, null, boolean, number, string, array, object, Items, no_items, item, Members, no_members, member}
use Rattle.serde_json.specs.Find.{get, as_array, as_i64, as_str}
use Rattle.serde_json.specs.Read.{read}
use Rattle.ob_base.specs.Limits.{longest_line}
use Rattle.ob_base.specs.Names.{is_label, is_text}
use Rattle.ob_invocation_spec.specs.Requests as asked
use Rattle.ob_invocation_spec.specs.Requests.{argument_names, names_in, HasLabels}
use Rattle.ob_wire.specs.Meanings.{argument_meant, operation_of, request_of}
use Rattle.ob_wire.specs.Reading.{request_in, requests_in, one_of, batch_if, incoming_by, incoming_in, value_of}
use Rattle.ob_wire.specs.Requests.{LabelIfAt, number_argument, handle_named, handle_argument, argument_of, arguments_of, AreArgs, HasParts, IsRequest, AreRequests, IsIncoming, is_batch_size, IsJson, AsksIncoming, IsNoJson, AsksNothing, AsksWrongCount}
use Rattle.ob_wire.specs.declared.refusal.Refusal.TheVariants.{LongLine, Json, Shape, BatchSize}
use Rattle.ob_wire.specs.declared.reading.WireError.{WireError}
use Rattle.ob_wire.specs.declared.reading.WireError.TheVariants as wire
use Rattle.ob_wire.specs.declared.request.Incoming.{Incoming}
use Rattle.ob_wire.specs.declared.request.Incoming.TheVariants.{One, Batch}
use Rattle.ob_wire.specs.declared.request.Arg.{Arg}
use Rattle.ob_wire.specs.declared.request.Arg.TheVariants as arg
use Rattle.ob_wire.specs.declared.request.Op.{Op}
use Rattle.ob_wire.specs.declared.request.Op.TheVariants.{New, Call, Disown, Give, See, Owner}
use Rattle.ob_wire.specs.declared.request.Request.{Request}
use Rattle.ob_wire.proofs.IncomingLaws.{incoming_there, incoming_again, no_request_there, no_request_again, wrong_count_there, wrong_count_again}
use Rattle.ob_serve.specs.Asked.{asked_if, asked_by_value, asked_by, IsAskedBy}

-- ---- what a line asks

-- the JSON value of a line
value_there : (line : List ℕ) (value : Data) → IsJson line value → value_of line ≡ Some value
value_there line value json = rw (is_utf8-from_IsUtf8 line json.utf8) json.json

value_by : (b : Bool) (o : Option Data) (value : Data) → (if b then o else None) ≡ Some value → (b ≡ true) × (o ≡ Some value)
value_by true o value is = (refl, is)
value_by false o value is = absurd cc

value_again : (line : List ℕ) (value : Data) → value_of line ≡ Some value → IsJson line value
value_again line value is =
    let both = value_by (is_utf8 line) (read line) value is in
    record { utf8 = IsUtf8-from_is_utf8 line both.0; json = both.1 }

no_value : (line : List ℕ) (o : Option Data) → value_of line ≡ o → IsNoJson line → o ≡ None
no_value line None is none = refl
no_value line (Some value) is none = absurd (none value (value_again line value is))

-- a line that isn't too long and asks something
pub asks_incoming : (line : List ℕ) (incoming : Incoming) → AsksIncoming line incoming → asked_by_value (value_of line) ≡ Ok incoming
asks_incoming line incoming asks = ap asked_by_value (value_there line asks.0 asks.1) ∙ ap asked_if (incoming_again asks.0 incoming asks.2)

-- one that is no JSON
pub asks_no_json : (line : List ℕ) → IsNoJson line → asked_by_value (value_of line) ≡ Err Json
asks_no_json line none = ap asked_by_value (no_value line (value_of line) refl none)

-- one that is no request
pub asks_nothing : (line : List ℕ) → AsksNothing line → asked_by_value (value_of line) ≡ Err Shape
asks_nothing line asks = ap asked_by_value (value_there line asks.0 asks.1) ∙ ap asked_if (no_request_again asks.0 asks.2)

-- one that has too few requests or too many
pub asks_wrong_count : (line : List ℕ) → AsksWrongCount line → asked_by_value (value_of line) ≡ Err BatchSize
asks_wrong_count line asks = ap asked_by_value (value_there line asks.0 asks.1) ∙ ap asked_if (wrong_count_again asks.0 asks.2)

is_long : (n : ℕ) → nat_lt longest_line n ≡ true → longest_line < n
is_long n is = grind (arith, nat_tests)

is_short : (n : ℕ) → nat_lt longest_line n ≡ false → n ≤ longest_line
is_short n is = grind (arith, nat_tests)

long_test : (n : ℕ) → longest_line < n → nat_lt longest_line n ≡ true
long_test n long = grind (arith, nat_tests)

short_test : (n : ℕ) → n ≤ longest_line → nat_lt longest_line n ≡ false
short_test n short = grind (arith, nat_tests)

-- a line that is too long
pub asks_too_long : (line : List ℕ) → longest_line < length line → asked_by line ≡ Err LongLine
asks_too_long line long = ap (λ (b : Bool). if b then Err LongLine else asked_by_value (value_of line)) (long_test (length line) long)

-- one that isn't
pub asks_by_value : (line : List ℕ) → length line ≤ longest_line → asked_by line ≡ asked_by_value (value_of line)
asks_by_value line short = ap (λ (b : Bool). if b then Err LongLine else asked_by_value (value_of line)) (short_test (length line) short)

-- a value asks something, or it is no request, or has too few or too many
abbrev Tells : Result Incoming WireError → Type 0
Tells (Ok incoming) = Unit {0}
Tells (Err wire.Shape) = Unit {0}
Tells (Err wire.BatchSize) = Unit {0}
Tells (Err wire.Json) = ⊥
Tells (Err wire.Memory) = ⊥

one_tells : (o : Option Request) → Tells (one_of o)
one_tells None = tt
one_tells (Some request) = tt

size_tells : (requests : List Request) (b : Bool) → Tells (if b then Ok (Batch requests) else Err wire.BatchSize)
size_tells requests true = tt
size_tells requests false = tt

batch_tells : (o : Option (List Request)) → Tells (batch_if o)
batch_tells None = tt
batch_tells (Some requests) = size_tells requests (is_batch_size (length requests))

array_tells : (o : Option Items) (value : Data) → Tells (incoming_by o value)
array_tells None value = one_tells (request_in value)
array_tells (Some items) value = batch_tells (requests_in items)

value_tells : (value : Data) → Tells (incoming_in value)
value_tells value = array_tells (as_array value) value

asked_of_found : (line : List ℕ) (value : Data) (r : Result Incoming WireError) → length line ≤ longest_line → IsJson line value → incoming_in value ≡ r → Tells r
    → IsAskedBy line (asked_if r)
asked_of_found line value (Ok incoming) short json is tells = (short, (value, json, incoming_there value incoming is))
asked_of_found line value (Err wire.Shape) short json is tells = (short, (value, json, no_request_there value is))
asked_of_found line value (Err wire.BatchSize) short json is tells = (short, (value, json, wrong_count_there value is))
asked_of_found line value (Err wire.Json) short json is tells = absurd tells
asked_of_found line value (Err wire.Memory) short json is tells = absurd tells

asked_of_value : (line : List ℕ) (o : Option Data) → length line ≤ longest_line → value_of line ≡ o → IsAskedBy line (asked_by_value o)
asked_of_value line None short is = (short, λ value json. let there = value_there line value json in cc)
asked_of_value line (Some value) short is = asked_of_found line value (incoming_in value) short (value_again line value is) refl (value_tells value)

asked_of_length : (line : List ℕ) (b : Bool) → nat_lt longest_line (length line) ≡ b → IsAskedBy line (if b then Err LongLine else asked_by_value (value_of line))
asked_of_length line true is = is_long (length line) is
asked_of_length line false is = asked_of_value line (value_of line) (is_short (length line) is) refl

-- what a line asks is worked out
pub lines_asked : (line : List ℕ) → IsAskedBy line (asked_by line)
lines_asked line = asked_of_length line (nat_lt longest_line (length line)) refl

-- ---- the names in a request

both_hold : (a b : Bool) → a ≡ true → b ≡ true → (a && b) ≡ true
both_hold a b p q = rw (p, q) refl

-- the name that an argument is, if it is one, is a label
abbrev NamesLabel : Arg → Type 0
NamesLabel (arg.Int z) = Unit {0}
NamesLabel (arg.Bool b) = Unit {0}
NamesLabel (arg.Text text) = Unit {0}
NamesLabel (arg.Handle name) = is_label name ≡ true
NamesLabel arg.Other = Unit {0}

if_names : (b : Bool) (a : Arg) → NamesLabel a → NamesLabel (if b then a else arg.Other)
if_names true a h = h
if_names false a h = tt

label_names : (name : List ℕ) (b : Bool) → is_label name ≡ b → NamesLabel (if b then arg.Handle name else arg.Other)
label_names name true is = is
label_names name false is = tt

handle_names : (o : Option (List ℕ)) → NamesLabel (handle_named o)
handle_names None = tt
handle_names (Some name) = label_names name (is_label name) refl

number_names : (o : Option ℤ) → NamesLabel (number_argument o)
number_names None = tt
number_names (Some z) = tt

members_names : (members : Members) → NamesLabel (handle_argument members)
members_names no_members = tt
members_names (member key value no_members) = if_names (bytes_eq (codes "ref") key) (handle_named (as_str value)) (handle_names (as_str value))
members_names (member key value (member l other more)) = tt

argument_labels : (value : Data) → NamesLabel (argument_of value)
argument_labels null = tt
argument_labels (boolean b) = tt
argument_labels (number n) = number_names (as_i64 n)
argument_labels (string text) = if_names (is_text text) (arg.Text text) tt
argument_labels (array items) = tt
argument_labels (object members) = members_names members

labels_on : (a : Arg) (args : List asked.Argument) → NamesLabel a → list_all is_label (argument_names args) ≡ true
    → list_all is_label (argument_names (argument_meant a ∷ args)) ≡ true
labels_on (arg.Int z) args names so_far = so_far
labels_on (arg.Bool b) args names so_far = so_far
labels_on (arg.Text text) args names so_far = so_far
labels_on (arg.Handle name) args names so_far = both_hold (is_label name) (list_all is_label (argument_names args)) names so_far
labels_on arg.Other args names so_far = so_far

items_labels : (items : Items) → list_all is_label (argument_names (map argument_meant (arguments_of items))) ≡ true
items_labels no_items = refl
items_labels (item value items) = labels_on (argument_of value) (map argument_meant (arguments_of items)) (argument_labels value) (items_labels items)

args_labels : (o : Option Data) (args : List Arg) → AreArgs o args → list_all is_label (argument_names (map argument_meant args)) ≡ true
args_labels None args are = rw are refl
args_labels (Some value) args are = rw are.2 (items_labels are.0)

into_labels : (key : List ℕ) (value : Data) (into : Option (List ℕ)) → LabelIfAt key value into → list_all is_label (option_to_list into) ≡ true
into_labels key value None at = refl
into_labels key value (Some label) at = both_hold (is_label label) true at.fits refl

-- the names of arguments, and one more
named : (o : Option Data) (key : List ℕ) (value : Data) (args : List Arg) (into : Option (List ℕ)) → AreArgs o args → LabelIfAt key value into
    → list_all is_label (argument_names (map argument_meant args) ++ option_to_list into) ≡ true
named o key value args into are at =
    list_all-append is_label (argument_names (map argument_meant args)) (option_to_list into)
    ∙ both_hold (list_all is_label (argument_names (map argument_meant args))) (list_all is_label (option_to_list into)) (args_labels o args are) (into_labels key value into at)

parts_labels : (value : Data) (op : Op) → HasParts value op → list_all is_label (names_in (operation_of op)) ≡ true
parts_labels value (New contract args into) parts =
    both_hold (is_label contract) _ parts.0.fits (named (get (codes "args") value) (codes "into") value args into parts.1 parts.2)
parts_labels value (Call on tx args into) parts =
    both_hold (is_label on) _ parts.0.fits
    (both_hold (is_label tx) _ parts.1.fits (named (get (codes "args") value) (codes "into") value args into parts.2 parts.3))
parts_labels value (Disown on) parts = both_hold (is_label on) true parts.fits refl
parts_labels value (Give on to into mode) parts =
    both_hold (is_label on) _ parts.0.fits (both_hold (is_label to) _ parts.1.fits (both_hold (is_label into) true parts.2.fits refl))
parts_labels value (See on) parts = both_hold (is_label on) true parts.fits refl
parts_labels value (Owner on) parts = both_hold (is_label on) true parts.fits refl

-- each name in a request has 1 to 64 bytes
pub request_labels : (value : Data) (request : Request) → IsRequest value request → HasLabels (request_of request)
request_labels value request is = both_hold (is_label request.who) _ is.who.fits (parts_labels value request.op is.parts)

-- the names in each request of what is asked are labels
abbrev pub HasAllLabels : Incoming → Type 0
HasAllLabels (One request) = HasLabels (request_of request)
HasAllLabels (Batch requests) = (n : ℕ) (request : Request) → slice_get requests n ≡ Some request → HasLabels (request_of request)

items_have : (items : Items) (requests : List Request) → AreRequests items requests → (n : ℕ) (request : Request) → slice_get requests n ≡ Some request → HasLabels (request_of request)
items_have no_items [] are n request is = absurd cc
items_have no_items (first ∷ requests) are n request is = absurd are
items_have (item value items) [] are n request is = absurd are
items_have (item value items) (first ∷ requests) are zero request is =
    let same : first ≡ request = cc in subst (λ (r : Request). HasLabels (request_of r)) same (request_labels value first are.0)
items_have (item value items) (first ∷ requests) are (suc n) request is = items_have items requests are.1 n request is

pub incoming_labels : (value : Data) (incoming : Incoming) → IsIncoming value incoming → HasAllLabels incoming
incoming_labels value (One request) is = request_labels value request is
incoming_labels value (Batch requests) is = items_have is.0.0 requests is.0.2

found_labels : (value : Data) (r : Result Incoming WireError) → incoming_in value ≡ r → IfOk (asked_if r) HasAllLabels
found_labels value (Ok incoming) is = incoming_labels value incoming (incoming_there value incoming is)
found_labels value (Err wire.Shape) is = tt
found_labels value (Err wire.BatchSize) is = tt
found_labels value (Err wire.Json) is = tt
found_labels value (Err wire.Memory) is = tt

value_labels : (o : Option Data) → IfOk (asked_by_value o) HasAllLabels
value_labels None = tt
value_labels (Some value) = found_labels value (incoming_in value) refl

length_labels : (b : Bool) (o : Option Data) → IfOk (if b then Err LongLine else asked_by_value o) HasAllLabels
length_labels true o = tt
length_labels false o = value_labels o

-- so they are in what a line asks
pub asked_labels : (line : List ℕ) → IfOk (asked_by line) HasAllLabels
asked_labels line = length_labels (nat_lt longest_line (length line)) (value_of line)
