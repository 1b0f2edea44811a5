-- How the code makes the slots with which a body begins (this project's own).
use Rattle.std.specs.Prelude.{ℕ, ◌-◌, Bool, false, List, [], ◌∷◌, ◌++◌, length, replicate, Option, Some, None}
use Rattle.std.specs.List.{list_all}
use Rattle.ob_base.specs.Optional.{◌>>=◌}
use Rattle.ob_heap_spec.specs.Values.{Value}
use Rattle.ob_code.specs.declared.image.BodyCode.{BodyCode}
use Rattle.ob_code.specs.Code.{is_shared_at_entry}
use Rattle.ob_machine_steps.specs.Slots.{Slots, value_at, values_at, first_slots}
use Rattle.ob_machine_steps.specs.Configurations.{Entered, on_receiver, on_this, on_new}
use Rattle.ob_machine_parts.specs.Changes.{is_set}

-- whether each of these slots is set
abbrev pub are_set : Slots → List ℕ → Bool
are_set slots ks = list_all (λ k. is_set slots k) ks

-- one more slot
abbrev pub pushed : Slots → Option Value → Slots
pushed slots v = slots ++ v ∷ []

-- what slots hold, behind what is there
abbrev pub gathered : Slots → List ℕ → Slots → Option Slots
gathered slots [] out = Some out
gathered slots (k ∷ ks) out = value_at slots k >>= λ v. gathered slots ks (out ++ Some v ∷ [])

-- unset slots behind those that are set
abbrev pub padded : ℕ → Slots → Slots
padded count slots = slots ++ replicate (count - length slots) None

-- the slots with which a body begins, with the values of these slots as its arguments
abbrev pub given_first : Slots → List ℕ → ℕ → ℕ → Option Slots
given_first slots args this count = values_at slots args >>= λ vs. Some (first_slots count this vs)

-- whether a body is share-entered, as it is entered in a frame that is or isn't
abbrev pub is_shared_in : Entered → BodyCode → Bool → Bool
is_shared_in on_receiver b around = is_shared_at_entry b
is_shared_in on_this b around = around
is_shared_in on_new b around = false
