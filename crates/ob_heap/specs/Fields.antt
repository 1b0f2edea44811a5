-- The values of an object's fields, as they are kept: a list with the fields' numbers in their order (this project's own).
use Rattle.std.specs.Prelude.{ℕ, zero, suc, Bool, false, nat_eq, slice_get, nat_le, List, [], ◌∷◌, Option, Some, None, if◌then◌else◌}
use Rattle.std.specs.Option.{option_map_or}
use Rattle.ob_base.specs.declared.id.FieldId.{FieldId}
use Rattle.ob_heap.specs.declared.value.Value.{Value}

-- the place of the first field from this number on, or the end
abbrev pub place_of : FieldId → List (FieldId × Value) → ℕ
place_of k [] = zero
place_of k (e ∷ es) = if nat_le k.0 e.0.0 then zero else suc (place_of k es)

-- whether a place is that of a field
abbrev pub is_at : FieldId → List (FieldId × Value) → ℕ → Bool
is_at k es i = option_map_or (λ (e : FieldId × Value). nat_eq e.0.0 k.0) (slice_get es i) false

-- the value of a field
abbrev pub value_at : FieldId → List (FieldId × Value) → Option Value
value_at k [] = None
value_at k (e ∷ es) = if nat_eq e.0.0 k.0 then Some e.1 else value_at k es

-- the fields with another value at one of them
abbrev pub with_value : FieldId → Value → List (FieldId × Value) → List (FieldId × Value)
with_value k v [] = (k, v) ∷ []
with_value k v (e ∷ es) =
    if nat_eq e.0.0 k.0 then (k, v) ∷ es else if nat_le k.0 e.0.0 then (k, v) ∷ e ∷ es else e ∷ with_value k v es

-- the fields without a value at one of them
abbrev pub without_value : FieldId → List (FieldId × Value) → List (FieldId × Value)
without_value k [] = []
without_value k (e ∷ es) =
    if nat_eq e.0.0 k.0 then es else if nat_le k.0 e.0.0 then e ∷ es else e ∷ without_value k es
