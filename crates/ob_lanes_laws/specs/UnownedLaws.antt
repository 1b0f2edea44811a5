-- What the law of objects without an owner says (this project's own).
use Rattle.std.specs.Prelude.{◌≡◌, ◌<◌, ℕ, length, None, ⊤}
use Rattle.ob_table.specs.Tables.{ClassTable}
use Rattle.ob_heap_spec.specs.Contents.{Content}
use Rattle.ob_rest_spec.specs.AtRest.{IsStoreAtRest}
use Rattle.ob_rest_spec.specs.Incoming.{owner_of}
use Rattle.ob_invocation_spec.specs.Replies.{Invocation, invoked, goes_wrong}
use Rattle.ob_invocation_spec.specs.Requests.{Request, HasLabels}
use Rattle.ob_invocation_laws.specs.Laws.{KeepsStoreAtRest}
use Rattle.ob_code.specs.declared.image.Image.{Image}
use Rattle.ob_code_table.specs.ImageTables.{table_of_image}
use Rattle.ob_machine_meaning.specs.Meanings.{machine_invocation}

-- By the code of an image no request on a store at rest goes wrong, and each leaves the store at rest.
abbrev pub KeepsStores : Image → Type 0
KeepsStores image =
    (content : Content) (request : Request) (fuel : ℕ) → IsStoreAtRest (table_of_image image) content → HasLabels request
    → KeepsStoreAtRest (table_of_image image) (machine_invocation image content request fuel)

-- the object of a number has no owner after a request
abbrev pub LeavesUnowned : ClassTable → ℕ → Invocation → Type 0
LeavesUnowned table n (invoked i) = owner_of table i.content n ≡ None
LeavesUnowned table n goes_wrong = ⊤

-- An object of a store at rest that has no owning place has none after any request.
abbrev pub UnownedStaySo : Type 0
UnownedStaySo =
    (image : Image) (content : Content) (request : Request) (fuel n : ℕ) → KeepsStores image
    → IsStoreAtRest (table_of_image image) content → HasLabels request → n < length content.objects
    → owner_of (table_of_image image) content n ≡ None
    → LeavesUnowned (table_of_image image) n (machine_invocation image content request fuel)
