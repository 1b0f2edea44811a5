-- The slots of a frame (this project's own).
use Rattle.std.specs.Prelude.{ℕ, ◌-◌, Bool, nat_lt, List, [], ◌∷◌, ◌++◌, map, length, replicate, Option, Some, None, slice_get, slice_set}
use Rattle.std.specs.Option.{option_flatten}
use Rattle.ob_base.specs.Optional.{◌>>=◌, where_true}
use Rattle.ob_heap_spec.specs.Values.{Value, int_value, bool_value, text_value, reference, referred}

-- what each slot holds, by its number: a value, or none where it is unset
abbrev pub Slots : Type 0
Slots = List (Option Value)

-- the value of a slot, if there is such a slot and it is set
abbrev pub value_at : Slots → ℕ → Option Value
value_at slots k = option_flatten (slice_get slots k)

-- the truth value that a value is, if it is one
abbrev pub truth_of : Value → Option Bool
truth_of (int_value z) = None
truth_of (bool_value b) = Some b
truth_of (text_value bytes) = None
truth_of (reference n) = None

-- the bytes of the text that a value is, if it is one
abbrev pub text_of : Value → Option (List ℕ)
text_of (int_value z) = None
text_of (bool_value b) = None
text_of (text_value bytes) = Some bytes
text_of (reference n) = None

-- the truth value in a slot
abbrev pub truth_at : Slots → ℕ → Option Bool
truth_at slots k = value_at slots k >>= truth_of

-- the text in a slot, by its bytes
abbrev pub text_at : Slots → ℕ → Option (List ℕ)
text_at slots k = value_at slots k >>= text_of

-- the number of the object to which a slot refers
abbrev pub reference_at : Slots → ℕ → Option ℕ
reference_at slots k = value_at slots k >>= referred

-- the values of these slots, if all of them are set
abbrev pub values_at : Slots → List ℕ → Option (List Value)
values_at slots [] = Some []
values_at slots (k ∷ ks) = value_at slots k >>= λ v. values_at slots ks >>= λ vs. Some (v ∷ vs)

-- the slots with another value in one of them, if there is such a slot
abbrev pub with_value_at : Slots → ℕ → Value → Option Slots
with_value_at slots k v = where_true (nat_lt k (length slots)) (slice_set slots k (Some v))

-- the slots with which a body begins that has so many: the first refers to `this`, the arguments follow, and the rest is unset
abbrev pub first_slots : ℕ → ℕ → List Value → Slots
first_slots count this args =
    let set = Some (reference this) ∷ map (λ v. Some v) args in set ++ replicate (count - length set) None
