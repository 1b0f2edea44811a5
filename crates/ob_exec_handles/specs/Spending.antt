-- What a request takes and reads, as the code tells it (this project's own).
use Rattle.std.specs.Prelude.{◌≡◌, Bool, true, false, List, [], ◌∷◌, ◌++◌, map, Option, Some, None, if◌then◌else◌}
use Rattle.ob_heap_spec.specs.Contents.{HandleName}
use Rattle.ob_heap_spec.specs.Worlds.{ReadItem as Item, object_item, next_item, handle_item, handles_full_item, ReadSame}
use Rattle.ob_invocation_spec.specs.Handles.{handle_name}
use Rattle.ob_invocation_spec.specs.Replies.{Invocation, invoked, goes_wrong}
use Rattle.ob_wire.specs.declared.refusal.Refusal.{Refusal}
use Rattle.ob_wire.specs.declared.refusal.Refusal.TheVariants as refusal
use Rattle.ob_exec_handles.specs.declared.spent.ReadItem.{ReadItem}
use Rattle.ob_exec_handles.specs.declared.spent.ReadItem.TheVariants.{Object, Next, Handle, HandlesFull}
use Rattle.ob_exec_handles.specs.declared.spent.Spent.{Spent}

-- an item that was read
abbrev pub item_of : ReadItem → Item
item_of (Object id) = object_item id.0
item_of Next = next_item
item_of (Handle who name) = handle_item (handle_name who name)
item_of HandlesFull = handles_full_item

-- A request spends just this: as many units as its invocation takes, and the items that this reads, in whatever order and however often.
abbrev pub SpendsSo : Invocation → Spent → Type 0
SpendsSo (invoked i) s = (s.taken ≡ i.taken) × ReadSame i.reads (map item_of s.reads)
SpendsSo goes_wrong s = ⊥

-- no unit was taken, and these items were read
abbrev pub HasRead : List Item → Spent → Type 0
HasRead items s = (s.taken ≡ 0) × (map item_of s.reads ≡ items)

-- The name of a handle that is to be made.

-- whether it is looked up, by why the request is refused, if it is
abbrev pub looks_up_name : Option Refusal → Bool
looks_up_name None = true
looks_up_name (Some refusal.IntoTaken) = true
looks_up_name (Some refusal.HandlesFull) = true
looks_up_name (Some other) = false

-- whether the handles are counted then
abbrev pub counts_handles : Option Refusal → Bool
counts_handles None = true
counts_handles (Some refusal.HandlesFull) = true
counts_handles (Some other) = false

-- what is read of the name, if it is looked up
abbrev pub looked_up : HandleName → Bool → List Item
looked_up name b = if b then handle_item name ∷ [] else []

-- what is read where handles are counted, if they are
abbrev pub counted : Bool → List Item
counted b = if b then handles_full_item ∷ [] else []

-- what is read of both
abbrev pub name_reads : HandleName → Option Refusal → List Item
name_reads name why = looked_up name (looks_up_name why) ++ counted (counts_handles why)
