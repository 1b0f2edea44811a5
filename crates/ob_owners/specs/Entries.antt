-- The values of an object's fields, as they are kept (this project's own).
use Rattle.std.specs.Prelude.{ℕ, nat_eq, List, [], ◌∷◌, Option, Some, None, if◌then◌else◌}
use Rattle.ob_base.specs.declared.id.FieldId.{FieldId}
use Rattle.ob_heap.specs.declared.value.Value.{Value}

-- the value of the field of a number, with the number
abbrev pub entry_at : ℕ → List (FieldId × Value) → Option (FieldId × Value)
entry_at k [] = None
entry_at k (e ∷ es) = if nat_eq e.0.0 k then Some e else entry_at k es
