-- The names of the faults of code, for people (this project's own).
use Rattle.std.specs.Prelude.{ℕ, List, codes}
use Rattle.ob_verify_spec.specs.declared.CodeFault.{CodeFault}
use Rattle.ob_verify_spec.specs.declared.CodeFault.TheVariants.{BadJump, BadSlot, KindMismatch, BadField, BadCall, FallsOff, NoFuelMark}

-- the name of a fault, by its letters
abbrev pub name_of : CodeFault → List ℕ
name_of BadJump = codes "BadJump"
name_of BadSlot = codes "BadSlot"
name_of KindMismatch = codes "KindMismatch"
name_of BadField = codes "BadField"
name_of BadCall = codes "BadCall"
name_of FallsOff = codes "FallsOff"
name_of NoFuelMark = codes "NoFuelMark"
