-- How many places of a run refer to an object, and how many of them own it (Coblenz et al., TOPLAS 42(3), 2020, "Silica",
-- where each asset has one owner; counting places is this project's own).
use Rattle.std.specs.Prelude.{ℕ, zero, suc, ◌+◌, Bool, true, false, ◌&&◌, nat_eq, List, [], ◌∷◌, length, Option, Some, None, option_map, unwrap_or}
use Rattle.std.specs.Option.{option_map_or}
use Rattle.ob_base.specs.Limits.{most_slots, most_fields}
use Rattle.ob_perm.specs.Permissions.{Permission, owns}
use Rattle.ob_heap_spec.specs.Values.{Value, referred}
use Rattle.ob_heap_spec.specs.Objects.{Object, unfinished}
use Rattle.ob_heap_spec.specs.Contents.{object_at}
use Rattle.ob_silica_steps.specs.Cells.{Cell}
use Rattle.ob_silica_steps.specs.Configurations.{SlotCells, Waiting, Control, runs, leaves, HandleNote, Notes, Configuration}

-- Objects by number.

-- the object of a number; where there is none, one that means nothing
abbrev pub nth_object : List Object → ℕ → Object
nth_object objects n = unwrap_or (object_at objects n) (unfinished (record { 0 = 0 }))

-- the value of an object's field with what is noted of it, if the field has a value
abbrev pub field_cell : Notes → List Object → ℕ → ℕ → Option Cell
field_cell notes objects n k =
    option_map (λ v. record { value = v; note = notes.fields n k }) ((nth_object objects n).fields k)

-- Sums.

-- the sum of f at the numbers below a bound
abbrev pub sum_below : ℕ → (ℕ → ℕ) → ℕ
sum_below zero f = 0
sum_below (suc n) f = f n + sum_below n f

-- 1 where a test holds, and else 0
abbrev pub one_if : Bool → ℕ
one_if true = 1
one_if false = 0

-- how many fields an object may have; not opened by itself, so that a sum over them stays one term
unfoldable pub fields_counted : ℕ
fields_counted = most_fields

-- Places.

-- which permissions are counted
abbrev pub Counted : Type 0
Counted = Permission → Bool

-- all of them
abbrev pub any : Counted
any p = true

-- whether a value refers to the object of a number
abbrev pub refers_to : ℕ → Value → Bool
refers_to n v = option_map_or (λ m. nat_eq m n) (referred v) false

-- whether a cell is counted for an object
abbrev pub is_counted : Counted → ℕ → Cell → Bool
is_counted counts n c = counts c.note.permission && refers_to n c.value

-- 1 for a place that is counted, and else 0
abbrev pub in_cell : Counted → ℕ → Option Cell → ℕ
in_cell counts n None = 0
in_cell counts n (Some c) = one_if (is_counted counts n c)

-- in the slots of a frame
abbrev pub in_slots : Counted → ℕ → SlotCells → ℕ
in_slots counts n slots = sum_below most_slots (λ k. in_cell counts n (slots k))

-- in the fields of an object
abbrev pub in_fields : Counted → ℕ → Notes → List Object → ℕ → ℕ
in_fields counts n notes objects i = sum_below fields_counted (λ k. in_cell counts n (field_cell notes objects i k))

-- in the fields of all objects
abbrev pub in_objects : Counted → ℕ → Notes → List Object → ℕ
in_objects counts n notes objects = sum_below (length objects) (λ i. in_fields counts n notes objects i)

-- in handles
abbrev pub in_handles : Counted → ℕ → List HandleNote → ℕ
in_handles counts n [] = 0
in_handles counts n (h ∷ hs) = one_if (counts h.permission && nat_eq h.object n) + in_handles counts n hs

-- in the slots of frames that wait
abbrev pub in_waiting : Counted → ℕ → List Waiting → ℕ
in_waiting counts n [] = 0
in_waiting counts n (h ∷ hs) = in_slots counts n h.frame.slots + in_waiting counts n hs

-- in the result with which a frame leaves
abbrev pub in_control : Counted → ℕ → Control → ℕ
in_control counts n (runs terms outer) = 0
in_control counts n (leaves result outer) = in_cell counts n result

-- in all places of a configuration
abbrev pub in_all : Counted → ℕ → Configuration → ℕ
in_all counts n c =
    in_slots counts n c.frame.slots + in_objects counts n c.notes c.world.objects
    + (in_control counts n c.control + in_waiting counts n c.stack + in_handles counts n c.notes.handles)

-- how many places own an object
abbrev pub owners : ℕ → Configuration → ℕ
owners n c = in_all owns n c

-- how many places refer to it
abbrev pub references : ℕ → Configuration → ℕ
references n c = in_all any n c
