-- What a line asks, worked out.
use Rattle.std.specs.Prelude.{ℕ, ◌≡◌, ℤ, pos, negsuc, Bool, true, false, ◌&&◌, List, [], ◌∷◌, length, Option, Some, None, is_some, Result, Ok, Err, codes, if◌then◌else◌}
use Rattle.std.specs.List.{list_any}
use Rattle.std.specs.Str.{is_utf8, bytes_eq}
use Rattle.serde_json.specs.Data.{Data, Items, no_items, item, Members, no_members, member}
use Rattle.serde_json.specs.Find.{get, as_str, as_array, as_object}
use Rattle.serde_json.specs.Read.{read}
use Rattle.ob_base.specs.Names.{is_label}
use Rattle.ob_base.specs.Optional.{◌>>=◌, where_true}
use Rattle.ob_base.specs.declared.permission.Mode.{Mode}
use Rattle.ob_base.specs.declared.permission.Mode.TheVariants.{Owned, Shared, Unowned}
use Rattle.ob_wire.specs.Requests.{keys_of, whole, arguments_of, is_batch_size, IsNoJson, AsksNothing, AsksIncoming, AsksWrongCount}
use Rattle.ob_wire.specs.declared.reading.RequestKeys.TheVariants as allowed
use Rattle.ob_wire.specs.declared.request.Arg.{Arg}
use Rattle.ob_wire.specs.declared.request.Request.{Request}
use Rattle.ob_wire.specs.declared.request.Incoming.{Incoming}
use Rattle.ob_wire.specs.declared.request.Incoming.TheVariants.{One, Batch}
use Rattle.ob_wire.specs.declared.request.Op.{Op}
use Rattle.ob_wire.specs.declared.request.Op.TheVariants.{New, Call, Disown, Give, See, Owner}
use Rattle.ob_wire.specs.declared.reading.WireError.{WireError}
use Rattle.ob_wire.specs.declared.reading.WireError.TheVariants.{Json, Shape, BatchSize, Memory}

-- no member has another key
abbrev pub only_keys : List (List ℕ) → Members → Bool
only_keys keys no_members = true
only_keys keys (member key value members) = list_any (bytes_eq key) keys && only_keys keys members

-- an object with no other keys
abbrev pub has_only : List (List ℕ) → Data → Bool
has_only keys value = elim (as_object value) as (λ _. Bool) [ None ↦ false | Some members ↦ only_keys keys members ]

-- what is found, where a test holds
abbrev pub found_if : {A : Type 0} → Bool → Option A → Option A
found_if b found = if b then found else None

-- the string at a key
abbrev pub text_at : List ℕ → Data → Option (List ℕ)
text_at key value = get key value >>= as_str

-- the string of 1 to 64 bytes at a key
abbrev pub label_at : List ℕ → Data → Option (List ℕ)
label_at key value = text_at key value >>= λ label. where_true (is_label label) label

-- the string of 1 to 64 bytes at a key that may be absent
abbrev pub label_if_at : List ℕ → Data → Option (Option (List ℕ))
label_if_at key value = if is_some (get key value) then (label_at key value >>= λ label. Some (Some label)) else Some None

-- a number from 0
abbrev pub from_zero : ℤ → Option ℤ
from_zero (pos n) = Some (pos n)
from_zero (negsuc n) = None

-- the id
abbrev pub id_at : Data → Option ℤ
id_at value = get (codes "id") value >>= whole >>= from_zero

-- whether there is one member
abbrev pub is_one : Members → Bool
is_one (member key value no_members) = true
is_one _ = false

-- whether a value is an object with one member
abbrev pub has_one : Data → Bool
has_one value = elim (as_object value) as (λ _. Bool) [ None ↦ false | Some members ↦ is_one members ]

-- the string in `{"ref":name}`
abbrev pub ref_in : Data → Option (List ℕ)
ref_in value = found_if (has_one value) (text_at (codes "ref") value)

-- the arguments of an array, if it is one
abbrev pub args_in : Option Data → Option (List Arg)
args_in None = Some []
args_in (Some value) = as_array value >>= λ items. Some (arguments_of items)

-- the arguments
abbrev pub args_at : Data → Option (List Arg)
args_at value = args_in (get (codes "args") value)

-- the mode of a word
abbrev pub mode_named : List ℕ → Option Mode
mode_named word =
    if bytes_eq word (codes "owned") then Some Owned
    else (if bytes_eq word (codes "shared") then Some Shared else where_true (bytes_eq word (codes "unowned")) Unowned)

-- the mode
abbrev pub mode_at : Data → Option Mode
mode_at value = text_at (codes "as") value >>= mode_named

-- the `new` that a value asks
abbrev pub new_in : Data → Option Op
new_in value =
    found_if (has_only (keys_of allowed.New) value)
    (label_at (codes "contract") value >>= λ contract. args_at value >>= λ args. label_if_at (codes "into") value >>= λ into.
    Some (New contract args into))

-- the `call` that a value asks
abbrev pub call_in : Data → Option Op
call_in value =
    found_if (has_only (keys_of allowed.Call) value)
    (label_at (codes "on") value >>= λ on. label_at (codes "tx") value >>= λ tx. args_at value >>= λ args.
    label_if_at (codes "into") value >>= λ into. Some (Call on tx args into))

-- the `give` that a value asks
abbrev pub give_in : Data → Option Op
give_in value =
    found_if (has_only (keys_of allowed.Give) value)
    (label_at (codes "on") value >>= λ on. label_at (codes "to") value >>= λ to. label_at (codes "into") value >>= λ into.
    mode_at value >>= λ mode. Some (Give on to into mode))

-- the handle of a value that has nothing else to say
abbrev pub on_in : Data → Option (List ℕ)
on_in value = found_if (has_only (keys_of allowed.Handle) value) (label_at (codes "on") value)

-- what a value of this `op` asks
abbrev pub op_named : List ℕ → Data → Option Op
op_named op value =
    if bytes_eq op (codes "new") then new_in value
    else (if bytes_eq op (codes "call") then call_in value
    else (if bytes_eq op (codes "give") then give_in value
    else (if bytes_eq op (codes "disown") then (on_in value >>= λ on. Some (Disown on))
    else (if bytes_eq op (codes "see") then (on_in value >>= λ on. Some (See on))
    else found_if (bytes_eq op (codes "owner")) (on_in value >>= λ on. Some (Owner on))))))

-- what a value asks
abbrev pub op_in : Data → Option Op
op_in value = text_at (codes "op") value >>= λ op. op_named op value

-- the request that a value asks
abbrev pub request_in : Data → Option Request
request_in value = id_at value >>= λ id. label_at (codes "who") value >>= λ who. op_in value >>= λ op. Some (record { id = id; who = who; op = op })

-- the requests that the items of an array ask, if each asks one
abbrev pub requests_in : Items → Option (List Request)
requests_in no_items = Some []
requests_in (item value items) = request_in value >>= λ request. requests_in items >>= λ requests. Some (request ∷ requests)

-- a request that is found
abbrev pub one_of : Option Request → Result Incoming WireError
one_of None = Err Shape
one_of (Some request) = Ok (One request)

-- requests as a batch, if there may be so many
abbrev pub batch_of : List Request → Result Incoming WireError
batch_of requests = if is_batch_size (length requests) then Ok (Batch requests) else Err BatchSize

-- requests that are found, as a batch
abbrev pub batch_if : Option (List Request) → Result Incoming WireError
batch_if None = Err Shape
batch_if (Some requests) = batch_of requests

-- the request that a value asks, or why it asks none
abbrev pub one_in : Data → Result Incoming WireError
one_in value = one_of (request_in value)

-- the batch of an array's items, or why they are none
abbrev pub batch_in : Items → Result Incoming WireError
batch_in items = batch_if (requests_in items)

-- what a value asks that is an array of these items, if it is one
abbrev pub incoming_by : Option Items → Data → Result Incoming WireError
incoming_by None value = one_in value
incoming_by (Some items) value = batch_in items

-- what a value asks, or why it asks nothing
abbrev pub incoming_in : Data → Result Incoming WireError
incoming_in value = incoming_by (as_array value) value

-- the JSON value of a line
abbrev pub value_of : List ℕ → Option Data
value_of line = if is_utf8 line then read line else None

-- a call answers what is worked out of a value, unless memory ran out
abbrev pub Answers : {A : Type 0} → Result A WireError → Option A → Type 0
Answers (Ok x) found = found ≡ Some x
Answers (Err Shape) found = found ≡ None
Answers (Err Json) found = ⊥
Answers (Err BatchSize) found = ⊥
Answers (Err Memory) found = Unit {0}

-- a call gives what is worked out of a value, unless memory ran out
abbrev pub Gives : Result Incoming WireError → Result Incoming WireError → Type 0
Gives (Ok incoming) found = found ≡ Ok incoming
Gives (Err Shape) found = found ≡ Err Shape
Gives (Err BatchSize) found = found ≡ Err BatchSize
Gives (Err Json) found = ⊥
Gives (Err Memory) found = Unit {0}

-- a line is read: its value asks this, or nothing, or too few or too many requests, or the line has none; or memory ran out
abbrev pub Reads : Result Incoming WireError → List ℕ → Type 0
Reads (Ok incoming) line = AsksIncoming line incoming
Reads (Err Json) line = IsNoJson line
Reads (Err Shape) line = AsksNothing line
Reads (Err BatchSize) line = AsksWrongCount line
Reads (Err Memory) line = Unit {0}
