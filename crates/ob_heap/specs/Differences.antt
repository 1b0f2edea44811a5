-- Whether values and objects are the same, and where the objects of a run differ from those of its base (this project's own).
use Rattle.std.specs.Prelude.{◌≡◌, ℕ, suc, Bool, true, false, not, ◌&&◌, nat_eq, nat_lt, slice_set, bytes_eq, List, [], ◌∷◌, ◌++◌, length, All, Option, Some, None, slice_get, if◌then◌else◌}
use Rattle.std.specs.Option.{option_map, option_map_or}
use Rattle.std.specs.Ordering.{int_eq}
use Rattle.ob_base.specs.declared.id.FieldId.{FieldId}
use Rattle.ob_base.specs.declared.id.ObjectId.{ObjectId}
use Rattle.ob_base.specs.declared.id.StateId.{StateId}
use Rattle.ob_heap_spec.specs.Operations.{same_truth}
use Rattle.ob_heap.specs.declared.value.Value.{Value}
use Rattle.ob_heap.specs.declared.value.Value.TheVariants.{Int, Bool as Truth, Text, Object as Reference}
use Rattle.ob_heap.specs.declared.object.Object.{Object}
use Rattle.ob_heap.specs.Overlays.{Changes}
use Rattle.ob_heap.specs.Plain.{object_of}

-- whether two values are the same
abbrev pub same_value : Value → Value → Bool
same_value (Int x) (Int y) = int_eq x y
same_value (Truth x) (Truth y) = same_truth x y
same_value (Text x) (Text y) = bytes_eq x y
same_value (Reference x) (Reference y) = nat_eq x.0 y.0
same_value x y = false

-- whether the same fields have the same values
abbrev pub same_fields : List (FieldId × Value) → List (FieldId × Value) → Bool
same_fields [] [] = true
same_fields [] (y ∷ ys) = false
same_fields (x ∷ xs) [] = false
same_fields (x ∷ xs) (y ∷ ys) = (nat_eq x.0.0 y.0.0 && same_value x.1 y.1) && same_fields xs ys

-- whether two states are the same, or both are none
abbrev pub same_state : Option StateId → Option StateId → Bool
same_state None None = true
same_state (Some x) (Some y) = nat_eq x.0 y.0
same_state x y = false

-- whether two objects are the same
abbrev pub same_object : Object → Object → Bool
same_object a b = nat_eq a.contract.0 b.contract.0 && (same_state a.state b.state && (same_truth a.shared b.shared
    && (same_truth a.disowned b.disowned && same_fields a.fields b.fields)))

-- whether an object isn't the one that a base has at a number; a number past the base has none to differ from
abbrev pub is_other : List Object → ℕ → Object → Bool
is_other base n o = option_map_or (λ b. not (same_object b o)) (slice_get base n) false

-- the changes that differ from the base
abbrev pub other_objects : List Object → List (ℕ × Object) → List (ObjectId × Object)
other_objects base [] = []
other_objects base (e ∷ es) =
    if is_other base e.0 e.1 then (record { 0 = e.0 }, e.1) ∷ other_objects base es else other_objects base es

-- as plain data none of these objects is the one that the base has at its number
abbrev pub AreOthers : List Object → List (ObjectId × Object) → Type 0
AreOthers base os = All (λ (e : ObjectId × Object). ¬ (option_map object_of (slice_get base e.0.0) ≡ Some (object_of e.1))) os

-- objects with their numbers, from this number on
abbrev pub numbered_from : ℕ → List Object → List (ObjectId × Object)
numbered_from n [] = []
numbered_from n (o ∷ os) = (record { 0 = n }, o) ∷ numbered_from (suc n) os

-- just what differs from the base: the changes, and then the objects that were made, each with its number
abbrev pub differing : List Object → Changes → List (ObjectId × Object)
differing base c = other_objects base c.changed ++ numbered_from (length base) c.made

-- the objects after each of these is set, or put behind the others where there is none of its number
abbrev pub with_objects : List Object → List (ObjectId × Object) → List Object
with_objects os [] = os
with_objects os (e ∷ es) = with_objects (if nat_lt e.0.0 (length os) then slice_set os e.0.0 e.1 else os ++ e.1 ∷ []) es
