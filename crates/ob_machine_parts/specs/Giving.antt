-- What a part of a step gives (this project's own).
use Rattle.std.specs.Prelude.{◌≡◌, Option, Some, None, Result, Ok, Err, ⊤}
use Rattle.ob_machine_parts.specs.declared.off.Off.{Off}
use Rattle.ob_machine_parts.specs.declared.off.Off.TheVariants.{Memory, NoStep}

-- the code gives what the definition does, as it shows it; or the definition gives nothing; or memory ran out
abbrev pub Gives : {A B : Type 0} → Result A Off → Option B → (A → B) → Type 0
Gives (Ok a) spec show = spec ≡ Some (show a)
Gives (Err NoStep) spec show = spec ≡ None
Gives (Err Memory) spec show = ⊤
