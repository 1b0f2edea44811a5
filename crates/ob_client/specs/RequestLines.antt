-- The line of a request: a JSON object (RFC 8259) with its keys in byte order and no space.
use Rattle.std.specs.Prelude.{ℕ, ℤ, List, [], ◌∷◌, ◌++◌, Option, Some, None, codes}
use Rattle.serde_json.specs.Data.{Data, null, boolean, number, string, array, object, Items, no_items, item, Members, no_members, member, put}
use Rattle.serde_json.specs.Find.{of_integer}
use Rattle.serde_json.specs.Written.{compact_text}
use Rattle.ob_wire.specs.Requests.{word_of, word_of_mode}
use Rattle.ob_wire.specs.declared.request.Arg.{Arg}
use Rattle.ob_wire.specs.declared.request.Arg.TheVariants as arg
use Rattle.ob_wire.specs.declared.request.Request.{Request}
use Rattle.ob_wire.specs.declared.request.Op.{Op}
use Rattle.ob_wire.specs.declared.request.Op.TheVariants.{New, Call, Disown, Give, See, Owner}

-- an argument; one that is of no kind is written as `null`
abbrev pub argument_json : Arg → Data
argument_json (arg.Int z) = number (of_integer z)
argument_json (arg.Bool b) = boolean b
argument_json (arg.Text text) = string text
argument_json (arg.Handle name) = object (member (codes "ref") (string name) no_members)
argument_json arg.Other = null

-- arguments
abbrev pub arguments_json : List Arg → Items
arguments_json [] = no_items
arguments_json (a ∷ args) = item (argument_json a) (arguments_json args)

-- a key, with what stands at it
abbrev pub Pair : Type 0
Pair = List ℕ × Data

-- a string at a key
abbrev pub text_pair : List ℕ → List ℕ → Pair
text_pair key text = (key, string text)

-- the arguments, if there are any
abbrev pub args_pairs : List Arg → List Pair
args_pairs [] = []
args_pairs (a ∷ args) = (codes "args", array (arguments_json (a ∷ args))) ∷ []

-- the name of the new handle, if there is one
abbrev pub into_pairs : Option (List ℕ) → List Pair
into_pairs None = []
into_pairs (Some into) = text_pair (codes "into") into ∷ []

-- what each request has
abbrev pub common_pairs : ℤ → List ℕ → List ℕ → List Pair
common_pairs id op who = (codes "id", number (of_integer id)) ∷ text_pair (codes "op") op ∷ text_pair (codes "who") who ∷ []

-- what the request of an operation has beside that
abbrev pub op_pairs : Op → List Pair
op_pairs (New contract args into) = text_pair (codes "contract") contract ∷ args_pairs args ++ into_pairs into
op_pairs (Call on tx args into) = text_pair (codes "on") on ∷ text_pair (codes "tx") tx ∷ args_pairs args ++ into_pairs into
op_pairs (Disown on) = text_pair (codes "on") on ∷ []
op_pairs (Give on to into mode) =
    text_pair (codes "on") on ∷ text_pair (codes "to") to ∷ text_pair (codes "into") into ∷ text_pair (codes "as") (word_of_mode mode) ∷ []
op_pairs (See on) = text_pair (codes "on") on ∷ []
op_pairs (Owner on) = text_pair (codes "on") on ∷ []

-- these members, and the pairs, each put at its place in the byte order of the keys
abbrev pub with_pairs : Members → List Pair → Members
with_pairs members [] = members
with_pairs members (p ∷ pairs) = with_pairs (put p.0 p.1 members) pairs

-- the JSON value of a request
abbrev pub request_json : Request → Data
request_json request =
    object (with_pairs no_members (common_pairs request.id (word_of request.op) request.who ++ op_pairs request.op))

-- the line of a request, without a newline
abbrev pub request_line : Request → List ℕ
request_line request = compact_text (request_json request)
