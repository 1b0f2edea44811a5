-- Where a value stands in a frame: in a slot, or in a field of `this` (slots are this project's own).
use Rattle.std.specs.Prelude.{ℕ, Bool, false, nat_eq, List, map}
use Rattle.ob_silica.specs.declared.place.Operand.{Operand}
use Rattle.ob_silica.specs.declared.place.Place.{Place}
use Rattle.ob_silica.specs.declared.place.Place.TheVariants.{This, Slot, Field}

-- where a value stands: in a slot of the frame, or in a field of `this`
pub data Location : Type 0 where
  slot : ℕ → Location
  field : ℕ → Location

-- `this` stands in slot 0
abbrev pub this : Location
this = slot 0

-- whether two of them are the same
abbrev pub same_location : Location → Location → Bool
same_location (slot j) (slot k) = nat_eq j k
same_location (slot j) (field k) = false
same_location (field j) (slot k) = false
same_location (field j) (field k) = nat_eq j k

-- where the value of a place stands
abbrev pub location_of : Place → Location
location_of This = this
location_of (Slot k) = slot k
location_of (Field f) = field f.0

-- where the value of an operand stands
abbrev pub located : Operand → Location
located operand = location_of operand.place

-- where the values of operands stand
abbrev pub all_located : List Operand → List Location
all_located operands = map located operands
