-- What a line asks: a relation between its JSON value (RFC 8259) and a request, or a batch of them.
use Rattle.std.specs.Prelude.{ℕ, ◌≡◌, ℤ, pos, ◌≤ℤ◌, nat_le, ◌&&◌, Bool, List, [], ◌∷◌, length, Option, Some, None, is_some, option_and_then, codes, IsTrue, if◌then◌else◌}
use Rattle.std.specs.List.{list_any}
use Rattle.std.specs.Str.{IsUtf8, bytes_eq}
use Rattle.serde_json.specs.Data.{Data, null, boolean, number, string, array, object, Items, no_items, item, Members, no_members, member}
use Rattle.serde_json.specs.Find.{get, as_number, as_i64, as_str}
use Rattle.serde_json.specs.Read.{read}
use Rattle.ob_base.specs.Limits.{most_requests}
use Rattle.ob_base.specs.Names.{is_label, is_text}
use Rattle.ob_base.specs.declared.permission.Mode.{Mode}
use Rattle.ob_base.specs.declared.permission.Mode.TheVariants.{Owned, Shared, Unowned}
use Rattle.ob_wire.specs.declared.reading.RequestKeys.{RequestKeys}
use Rattle.ob_wire.specs.declared.reading.RequestKeys.TheVariants as allowed
use Rattle.ob_wire.specs.declared.request.Arg.{Arg}
use Rattle.ob_wire.specs.declared.request.Arg.TheVariants as arg
use Rattle.ob_wire.specs.declared.request.Request.{Request}
use Rattle.ob_wire.specs.declared.request.Incoming.{Incoming}
use Rattle.ob_wire.specs.declared.request.Incoming.TheVariants.{One, Batch}
use Rattle.ob_wire.specs.declared.request.Op.{Op}
use Rattle.ob_wire.specs.declared.request.Op.TheVariants.{New, Call, Disown, Give, See, Owner}

-- the keys that a request may have, in the order of their bytes
abbrev pub keys_of : RequestKeys → List (List ℕ)
keys_of allowed.New = codes "args" ∷ codes "contract" ∷ codes "id" ∷ codes "into" ∷ codes "op" ∷ codes "who" ∷ []
keys_of allowed.Call = codes "args" ∷ codes "id" ∷ codes "into" ∷ codes "on" ∷ codes "op" ∷ codes "tx" ∷ codes "who" ∷ []
keys_of allowed.Give = codes "as" ∷ codes "id" ∷ codes "into" ∷ codes "on" ∷ codes "op" ∷ codes "to" ∷ codes "who" ∷ []
keys_of allowed.Handle = codes "id" ∷ codes "on" ∷ codes "op" ∷ codes "who" ∷ []

-- which keys a request may have, by what it asks
abbrev pub allowed_keys : Op → RequestKeys
allowed_keys (New contract args into) = allowed.New
allowed_keys (Call on tx args into) = allowed.Call
allowed_keys (Give on to into mode) = allowed.Give
allowed_keys (Disown on) = allowed.Handle
allowed_keys (See on) = allowed.Handle
allowed_keys (Owner on) = allowed.Handle

-- the word for what is asked
abbrev pub word_of : Op → List ℕ
word_of (New contract args into) = codes "new"
word_of (Call on tx args into) = codes "call"
word_of (Give on to into mode) = codes "give"
word_of (Disown on) = codes "disown"
word_of (See on) = codes "see"
word_of (Owner on) = codes "owner"

-- the word for a mode
abbrev pub word_of_mode : Mode → List ℕ
word_of_mode Owned = codes "owned"
word_of_mode Shared = codes "shared"
word_of_mode Unowned = codes "unowned"

-- The value is an object with no keys but these.
pub record HasOnly (keys : List (List ℕ)) (value : Data) : Type 0 where
  pub members : Members
  pub is : value ≡ object members
  pub only : (key : List ℕ) → IsTrue (is_some (get key value)) → IsTrue (list_any (bytes_eq key) keys)

-- A string of 1 to 64 bytes stands at this key.
pub record LabelAt (key : List ℕ) (value : Data) (label : List ℕ) : Type 0 where
  pub is : get key value ≡ Some (string label)
  pub fits : IsTrue (is_label label)

-- The string of 1 to 64 bytes that stands at this key, or none where the key is absent.
abbrev pub LabelIfAt : List ℕ → Data → Option (List ℕ) → Type 0
LabelIfAt key value None = get key value ≡ None
LabelIfAt key value (Some label) = LabelAt key value label

-- the whole number of 64 bits that a value is
abbrev pub whole : Data → Option ℤ
whole value = option_and_then as_i64 (as_number value)

-- A whole number from 0 stands at the key `id`.
pub record IdAt (value : Data) (id : ℤ) : Type 0 where
  pub found : Data
  pub is : get (codes "id") value ≡ Some found
  pub whole : whole found ≡ Some id
  pub from_zero : pos 0 ≤ℤ id

-- a number as an argument: a whole one of 64 bits, or one of no kind
abbrev pub number_argument : Option ℤ → Arg
number_argument None = arg.Other
number_argument (Some z) = arg.Int z

-- a string as an argument: a text of at most 1,024 bytes, or one of no kind
abbrev pub text_argument : List ℕ → Arg
text_argument text = if is_text text then arg.Text text else arg.Other

-- a name as an argument: a handle where it is a string of 1 to 64 bytes, or one of no kind
abbrev pub handle_named : Option (List ℕ) → Arg
handle_named None = arg.Other
handle_named (Some name) = if is_label name then arg.Handle name else arg.Other

-- an object as an argument: that of the name in `{"ref":name}`, or one of no kind
abbrev pub handle_argument : Members → Arg
handle_argument (member key value no_members) = if bytes_eq (codes "ref") key then handle_named (as_str value) else arg.Other
handle_argument _ = arg.Other

-- the argument that a value is
abbrev pub argument_of : Data → Arg
argument_of null = arg.Other
argument_of (boolean b) = arg.Bool b
argument_of (number n) = number_argument (as_i64 n)
argument_of (string text) = text_argument text
argument_of (array items) = arg.Other
argument_of (object members) = handle_argument members

-- the arguments that the items of an array are, in their order
abbrev pub arguments_of : Items → List Arg
arguments_of no_items = []
arguments_of (item value items) = argument_of value ∷ arguments_of items

-- What stands at `args` is an array of these arguments; where the key is absent there are none.
abbrev pub AreArgs : Option Data → List Arg → Type 0
AreArgs None args = args ≡ []
AreArgs (Some value) args = (items : Items) × (value ≡ array items) × (args ≡ arguments_of items)

-- The word for this mode stands at the key `as`.
abbrev pub ModeAt : Data → Mode → Type 0
ModeAt value mode = get (codes "as") value ≡ Some (string (word_of_mode mode))

-- What is asked stands at its keys.
abbrev pub HasParts : Data → Op → Type 0
HasParts value (New contract args into) =
    LabelAt (codes "contract") value contract × AreArgs (get (codes "args") value) args × LabelIfAt (codes "into") value into
HasParts value (Call on tx args into) =
    LabelAt (codes "on") value on × LabelAt (codes "tx") value tx × AreArgs (get (codes "args") value) args
    × LabelIfAt (codes "into") value into
HasParts value (Give on to into mode) =
    LabelAt (codes "on") value on × LabelAt (codes "to") value to × LabelAt (codes "into") value into × ModeAt value mode
HasParts value (Disown on) = LabelAt (codes "on") value on
HasParts value (See on) = LabelAt (codes "on") value on
HasParts value (Owner on) = LabelAt (codes "on") value on

-- A value asks this.
pub record IsRequest (value : Data) (request : Request) : Type 0 where
  pub keys : HasOnly (keys_of (allowed_keys request.op)) value
  pub id : IdAt value request.id
  pub who : LabelAt (codes "who") value request.who
  pub op : get (codes "op") value ≡ Some (string (word_of request.op))
  pub parts : HasParts value request.op

-- whether a batch may have so many requests
abbrev pub is_batch_size : ℕ → Bool
is_batch_size count = nat_le 1 count && nat_le count most_requests

-- The items of an array ask these requests, one after another.
abbrev pub AreRequests : Items → List Request → Type 0
AreRequests no_items [] = Unit {0}
AreRequests no_items (request ∷ requests) = ⊥
AreRequests (item value items) [] = ⊥
AreRequests (item value items) (request ∷ requests) = IsRequest value request × AreRequests items requests

-- A value is an array of these requests.
abbrev pub IsRequestArray : Data → List Request → Type 0
IsRequestArray value requests = (items : Items) × (value ≡ array items) × AreRequests items requests

-- A value asks this: a request, or a batch.
abbrev pub IsIncoming : Data → Incoming → Type 0
IsIncoming value (One request) = IsRequest value request
IsIncoming value (Batch requests) = IsRequestArray value requests × IsTrue (is_batch_size (length requests))

-- A value is an array of requests, but of so many that it is no batch.
abbrev pub IsWrongCount : Data → Type 0
IsWrongCount value = (requests : List Request) × IsRequestArray value requests × ¬ (IsTrue (is_batch_size (length requests)))

-- A value is neither a request nor an array of requests.
abbrev pub IsNoRequest : Data → Type 0
IsNoRequest value = ((request : Request) → ¬ (IsRequest value request)) × ((requests : List Request) → ¬ (IsRequestArray value requests))

-- A line is the JSON text of this value.
pub record IsJson (line : List ℕ) (value : Data) : Type 0 where
  pub utf8 : IsUtf8 line
  pub json : read line ≡ Some value

-- A line is the JSON text of a value that asks this.
abbrev pub Asks : List ℕ → Request → Type 0
Asks line request = (value : Data) × IsJson line value × IsRequest value request

-- The same, of a request or a batch.
abbrev pub AsksIncoming : List ℕ → Incoming → Type 0
AsksIncoming line incoming = (value : Data) × IsJson line value × IsIncoming value incoming

-- A line is no JSON text.
abbrev pub IsNoJson : List ℕ → Type 0
IsNoJson line = (value : Data) → ¬ (IsJson line value)

-- A line is the JSON text of a value that asks nothing.
abbrev pub AsksNothing : List ℕ → Type 0
AsksNothing line = (value : Data) × IsJson line value × IsNoRequest value

-- A line is the JSON text of an array of none or of too many requests.
abbrev pub AsksWrongCount : List ℕ → Type 0
AsksWrongCount line = (value : Data) × IsJson line value × IsWrongCount value
