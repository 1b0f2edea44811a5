-- Reading and writing the places of a frame (this project's own).
use Rattle.std.specs.Prelude.{ℕ, zero, suc, false, Option, Some, None, option_map, option_and_then, unwrap_or, slice_get, if◌then◌else◌}
use Rattle.std.specs.Option.{option_map_or}
use Rattle.ob_perm.specs.Permissions.{Permission, kept}
use Rattle.ob_table.specs.Tables.{ClassTable, contract_at}
use Rattle.ob_table.specs.declared.contract.Field.{Field}
use Rattle.ob_table.specs.declared.contract.ResolvedType.{ResolvedType}
use Rattle.ob_heap_spec.specs.Values.{Value}
use Rattle.ob_heap_spec.specs.Objects.{Object, has_field, with_field}
use Rattle.ob_heap_spec.specs.Contents.{object_at}
use Rattle.ob_heap_spec.specs.Worlds.{World, edit_object, with_unit_taken, by_fuel}
use Rattle.ob_heap_spec.specs.Marks.{comes_into}
use Rattle.ob_silica_steps.specs.Cells.{Cell, noted, permission_in, object_in}
use Rattle.ob_silica_places.specs.Known.{Known, known, permission_of_type, unowned_under, at}
use Rattle.ob_silica_places.specs.Places.{Location, slot, field}
use Rattle.ob_silica_steps.specs.Configurations.{SlotCells, Notes, Control, Configuration, NextStep, goes, abort_step, stuck}

-- what a form works on: the slots of its frame, the notes and the world
pub record Here : Type 0 where
  pub slots : SlotCells
  pub notes : Notes
  pub world : World

-- what the innermost frame works on
abbrev pub here : Configuration → Here
here c = record { slots = c.frame.slots; notes = c.notes; world = c.world }

-- the next configuration: the innermost frame works on this, and is about to do what the control says
abbrev pub goes_to : Configuration → Here → Control → NextStep
goes_to c h control = goes (record {
  frame = record c.frame { slots = h.slots };
  control = control;
  stack = c.stack;
  notes = h.notes;
  world = h.world;
})

-- what follows where there is a thing; else there is no step
abbrev pub if_there : {A : Type 0} → Option A → (A → NextStep) → NextStep
if_there None go = stuck
if_there (Some a) go = go a

-- what follows where so many units are left, at least one, of which one is taken; where none is left the run aborts
abbrev pub with_fuel_left : ℕ → World → (World → NextStep) → NextStep
with_fuel_left zero w go = abort_step by_fuel w
with_fuel_left (suc n) w go = go (with_unit_taken w n)

-- a unit is taken
abbrev pub with_unit : World → (World → NextStep) → NextStep
with_unit w go = with_fuel_left w.fuel w go

-- `this`.

-- The number of the object that `this` is. Where slot 0 holds no reference the 0 is a default that means nothing: each
-- call and each `new` puts a reference there, and no term to which a body may be lowered sets that slot.
abbrev pub self_of : SlotCells → ℕ
self_of slots = unwrap_or (object_in (slots 0)) 0

-- the object that `this` is
abbrev pub self : Here → Option Object
self h = object_at h.world.objects (self_of h.slots)

-- Reading.

-- the field of this number of an object's contract
abbrev pub field_of : ClassTable → Object → ℕ → Option Field
field_of table o k = option_and_then (λ c. slice_get c.fields k) (contract_at table o.contract)

-- the value of an object's field that is available in its state
abbrev pub field_value : ClassTable → Object → ℕ → Option Value
field_value table o k =
    if option_map_or (λ c. has_field c o.state k) (contract_at table o.contract) false then o.fields k else None

-- the value of a place with its note, if it is there: a slot that is set, a field that is available and has a value
abbrev pub read : ClassTable → Here → Location → Option Cell
read table h (slot k) = h.slots k
read table h (field k) =
    option_map (λ v. record { value = v; note = h.notes.fields (self_of h.slots) k })
    (option_and_then (λ o. field_value table o k) (self h))

-- the permission that counts for a place with this cell: a field's is limited by that of `this`
abbrev pub counted : Here → Location → Cell → Permission
counted h (slot k) c = c.note.permission
counted h (field k) c = unowned_under (permission_in (h.slots 0)) c.note.permission

-- Writing.

-- what is noted of one field of an object
abbrev pub with_field_note : Notes → ℕ → ℕ → Known → Notes
with_field_note notes n k note = record notes { fields = at notes.fields n (at (notes.fields n) k note) }

-- a slot is set, or unset
abbrev pub set_slot : ℕ → Option Cell → Here → Here
set_slot k c h = record h { slots = at h.slots k c }

-- a field of `this` is set
abbrev pub set_field : ℕ → Cell → Here → Here
set_field k c h = record {
  slots = h.slots;
  notes = with_field_note h.notes (self_of h.slots) k c.note;
  world = edit_object (with_field k c.value) (self_of h.slots) h.world;
}

-- a place keeps its value and gets this permission
abbrev pub set_permission : Location → Permission → Here → Here
set_permission (slot k) p h = record h { slots = at h.slots k (option_map (noted p) (h.slots k)) }
set_permission (field k) p h =
    record h { notes = with_field_note h.notes (self_of h.slots) k (known (h.notes.fields (self_of h.slots) k).kind p) }

-- A place with this cell hands its value over where one of this type is wanted: first the object is marked if the
-- type is declared Shared, then the place keeps what a giver keeps.
abbrev pub hand : ResolvedType → Location → Cell → Here → Here
hand of place c h =
    set_permission place (kept c.note.permission (permission_of_type of))
    (record h { world = comes_into of c.value h.world })
