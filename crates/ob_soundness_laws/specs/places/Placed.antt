-- Places of a frame, and how two moments of a frame's work differ (Coblenz et al., TOPLAS 42(3), 2020, "Silica"; the
-- statements are this project's own).
use Rattle.std.specs.Prelude.{◌≡◌, ◌≢◌, ℕ, ◌<◌, ◌≤◌, true, false, length, Option, Some, slice_get}
use Rattle.ob_base.specs.declared.id.StateId.{StateId}
use Rattle.ob_perm.specs.Permissions.{owns}
use Rattle.ob_table.specs.Tables.{ClassTable}
use Rattle.ob_table.specs.declared.contract.Contract.{Contract}
use Rattle.ob_table.specs.declared.contract.Field.{Field}
use Rattle.ob_table_spec.specs.WellFormed.{kind_of_resolved}
use Rattle.ob_heap_spec.specs.Objects.{is_available}
use Rattle.ob_silica_places.specs.Known.{Known}
use Rattle.ob_silica_places.specs.Places.{Location, slot, field, this, same_location}
use Rattle.ob_silica_steps.specs.Cells.{Cell, permission_in}
use Rattle.ob_silica_steps.specs.Configurations.{SilicaFrame, by_new}
use Rattle.ob_silica_steps.specs.Here.{Here, self_of}
use Rattle.ob_flow_spec.specs.Contexts.{Context, permission_on}
use Rattle.ob_flow_spec.specs.Joining.{same_mode}
use Rattle.ob_places_laws.specs.Serving.{Allows}
use Rattle.ob_coherent_spec.specs.Counting.{nth_object, field_cell, in_cell}
use Rattle.ob_coherent_spec.specs.Standing.{AllStand, HasItsState, IsObjectInRun, NeedsOwner}
use Rattle.ob_coherent_spec.specs.Saying.{Says, own_cell, every}
use Rattle.ob_coherent_spec.specs.Remaining.{BodyParts, body_of}
use Rattle.ob_coherent_spec.specs.Waiting.{IsFrame, OwnsMade}

-- the value of a place with its note: what a slot has, and what a field of `this` has
abbrev pub cell_at : Here → Location → Option Cell
cell_at h (slot k) = h.slots k
cell_at h (field k) = own_cell h k

-- What a frame's work leaves: `this`, the number of objects, their contracts and states, the fields of other objects
-- than its own, marks, handles, locks, and transactions in progress.
pub record Stays (h after : Here) : Type 0 where
  pub this : self_of after.slots ≡ self_of h.slots
  pub count : length after.world.objects ≡ length h.world.objects
  pub contracts : (n : ℕ) → (nth_object after.world.objects n).contract ≡ (nth_object h.world.objects n).contract
  pub states : (n : ℕ) → (nth_object after.world.objects n).state ≡ (nth_object h.world.objects n).state
  pub fields : (n k : ℕ) → n ≢ self_of h.slots
      → (nth_object after.world.objects n).fields k ≡ (nth_object h.world.objects n).fields k
  pub notes : (n k : ℕ) → n ≢ self_of h.slots → after.notes.fields n k ≡ h.notes.fields n k
  pub shared : (n : ℕ) → (nth_object h.world.objects n).shared ≡ true → (nth_object after.world.objects n).shared ≡ true
  pub disowned : (n : ℕ) → (nth_object h.world.objects n).disowned ≡ true
      → (nth_object after.world.objects n).disowned ≡ true
  pub handles : after.notes.handles ≡ h.notes.handles
  pub locked : after.world.locked ≡ h.world.locked
  pub progress : after.world.progress ≡ h.world.progress

-- One place has this cell, or none; each other place has the cell that it had, and no more than marks differ beside.
pub record Written (p : Location) (x : Option Cell) (h after : Here) : Type 0 where
  pub stays : Stays h after
  pub itself : cell_at after p ≡ x
  pub others : (q : Location) → same_location q p ≡ false → cell_at after q ≡ cell_at h q

-- marks are the same
pub record SameMarks (h after : Here) : Type 0 where
  pub shared : (n : ℕ) → (nth_object after.world.objects n).shared ≡ (nth_object h.world.objects n).shared
  pub disowned : (n : ℕ) → (nth_object after.world.objects n).disowned ≡ (nth_object h.world.objects n).disowned

-- each place has the cell that it had
pub record SameCells (h after : Here) : Type 0 where
  pub stays : Stays h after
  pub same : (q : Location) → cell_at after q ≡ cell_at h q

-- the cell of a place that is known to be set, of the known kind, with a permission that serves as the known one
pub record Found (N : ℕ → Type 0) (y : Option Known) (x : Option Cell) : Type 0 where
  pub note : Known
  pub told : y ≡ Some note
  pub cell : Cell
  pub is : x ≡ Some cell
  pub kind : cell.note.kind ≡ note.kind
  pub permission : Allows note.permission cell.note.permission
  pub owner : (n : ℕ) → N n → 0 < in_cell owns n (Some cell) → owns note.permission ≡ true

-- What is so of a frame's own places, whatever its other parts are: it is a frame of its body, its slots and the fields
-- of `this` stand, and a context says what is in them.
pub record Sits (table : ClassTable) (f : SilicaFrame) (parts : BodyParts) (h : Here) (g : Context) : Type 0 where
  pub frame : IsFrame table h.world.objects (record f { slots = h.slots }) parts
  pub slots : AllStand table h.world.objects h.slots
  pub fields : AllStand table h.world.objects (field_cell h.notes h.world.objects (self_of h.slots))
  pub object : IsObjectInRun table h.notes (self_of h.slots) (nth_object h.world.objects (self_of h.slots))
  pub says : Says (body_of table f parts) (NeedsOwner table h.world.objects) g h every
  pub placed : f.how ≢ by_new → HasItsState table (nth_object h.world.objects (self_of h.slots))
  pub owns_made : OwnsMade (record f { slots = h.slots })

-- a cell that stands instead of another with the same value and kind
abbrev pub IsAlike : Option Cell → Option Cell → Type 0
IsAlike x y = (z : Cell) → x ≡ Some z → (w : Cell) × (y ≡ Some w) × (w.value ≡ z.value) × (w.note.kind ≡ z.note.kind)

-- each slot up to this number keeps its value and kind
abbrev pub SlotsKept : ℕ → Here → Here → Type 0
SlotsKept n h after = (k : ℕ) → k ≤ n → IsAlike (h.slots k) (after.slots k)

-- What is written into a field of `this` is of the declared kind, and the field is available.
abbrev pub HasRoom : Contract → Option StateId → Location → Option Cell → Type 0
HasRoom own state p x = (k : ℕ) (z : Cell) → p ≡ field k → x ≡ Some z
    → (f : Field) × (slice_get own.fields k ≡ Some f) × (is_available state f ≡ true)
    × (z.note.kind ≡ kind_of_resolved f.of)

-- what is known of `this` says how it is held
abbrev pub TellsThis : Location → Option Known → Option Cell → Type 0
TellsThis p y x = p ≡ this → same_mode (permission_on y) (permission_in x) ≡ true
