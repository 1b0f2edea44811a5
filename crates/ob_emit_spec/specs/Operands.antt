-- How code reads the operands of a form, and marks the objects that come into places declared Shared (this project's own).
use Rattle.std.specs.Prelude.{ℕ, ◌+◌, max, List, [], ◌∷◌, ◌++◌, map, if◌then◌else◌}
use Rattle.ob_perm.specs.Masks.{permission_of}
use Rattle.ob_perm.specs.Permissions.{is_shared}
use Rattle.ob_table.specs.declared.contract.ResolvedType.{ResolvedType}
use Rattle.ob_table.specs.declared.contract.ResolvedType.TheVariants.{Reference}
use Rattle.ob_silica.specs.declared.place.Given.{Given}
use Rattle.ob_silica.specs.declared.place.Operand.{Operand}
use Rattle.ob_silica.specs.declared.place.Place.{Place}
use Rattle.ob_silica.specs.declared.place.Place.TheVariants.{This, Slot, Field}
use Rattle.ob_code.specs.declared.instruction.Instruction.{Instruction}
use Rattle.ob_code.specs.declared.instruction.Instruction.TheVariants as instruction

-- Scratch slots. A frame of code has the slots of its terms, and after them scratch slots, into which fields are loaded just before
-- their use: that of the operand of number n of a form has the number `scratch + n`.

-- the slot from which the operand of a number is read; `this` is in slot 0
abbrev pub slot_read : ℕ → ℕ → Place → ℕ
slot_read scratch n This = 0
slot_read scratch n (Slot k) = k
slot_read scratch n (Field id) = scratch + n

-- a field is loaded into the scratch slot of a number
abbrev pub load : ℕ → ℕ → Place → List Instruction
load scratch n This = []
load scratch n (Slot k) = []
load scratch n (Field id) = instruction.Load (scratch + n) id ∷ []

-- the slots from which operands are read, of which the first has this number
abbrev pub slots_read : ℕ → ℕ → List Operand → List ℕ
slots_read scratch n [] = []
slots_read scratch n (o ∷ os) = slot_read scratch n o.place ∷ slots_read scratch (n + 1) os

-- the fields among operands are loaded, one after another
abbrev pub loads : ℕ → ℕ → List Operand → List Instruction
loads scratch n [] = []
loads scratch n (o ∷ os) = load scratch n o.place ++ loads scratch (n + 1) os

-- how many scratch slots an operand of this number needs
abbrev pub scratch_slots : ℕ → Place → ℕ
scratch_slots n This = 0
scratch_slots n (Slot k) = 0
scratch_slots n (Field id) = n + 1

-- the same of operands, of which the first has this number
abbrev pub all_scratch_slots : ℕ → List Operand → ℕ
all_scratch_slots n [] = 0
all_scratch_slots n (o ∷ os) = max (scratch_slots n o.place) (all_scratch_slots (n + 1) os)

-- the operands whose values fields are given
abbrev pub values_given : List Given → List Operand
values_given given = map (λ g. g.from) given

-- Marks.

-- the object of a slot is marked where it comes into a place of this type that is declared Shared
abbrev pub share : ResolvedType → ℕ → List Instruction
share (Reference id p) a = if is_shared (permission_of p) then instruction.Share a ∷ [] else []
share of a = []

-- the same of several, one after another
abbrev pub shares : List ResolvedType → List ℕ → List Instruction
shares [] slots = []
shares (of ∷ types) [] = []
shares (of ∷ types) (a ∷ slots) = share of a ++ shares types slots
