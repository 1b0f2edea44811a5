-- The visible variables, seen as plain data.
use Rattle.std.specs.Prelude.{ℕ, List, [], ◌∷◌, ◌++◌, Option, Some, None, nat_eq, if◌then◌else◌}
use Rattle.ob_lower_spec.specs.Forms as forms
use Rattle.ob_lower_parts.specs.declared.variables.SlotVariable.{SlotVariable}

-- a variable
abbrev pub variable_of : SlotVariable → forms.SlotVariable
variable_of v = record { local = v.local; kind = v.kind; slot = v.slot }

-- variables, the last declared first
abbrev pub newest_first : List SlotVariable → List forms.SlotVariable
newest_first [] = []
newest_first (v ∷ vs) = newest_first vs ++ variable_of v ∷ []

-- the variable of this number, if it is visible
abbrev pub variable_at : List forms.SlotVariable → ℕ → Option forms.SlotVariable
variable_at [] n = None
variable_at (v ∷ vs) n = if nat_eq n v.local then Some v else variable_at vs n
