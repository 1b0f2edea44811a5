-- Slots, as they are kept and as the definitions see them.
use Rattle.std.proofs.Common.{◌++◌, ◌≡◌, ℕ, zero, suc, ◌<◌, ◌≤◌, List, [], ◌∷◌, length, Option, Some, None, refl, sym, ap, ◌∙◌, arith}
use Rattle.std.specs.Prelude.{slice_get, slice_set, nat_lt, option_map, true, false}
use Rattle.std.specs.Option.{option_flatten}
use Rattle.std.proofs.lemmas.List.{map-append}
use Rattle.std.proofs.lemmas.Option.{slice_get-map}
use Rattle.ob_heap.specs.declared.value.Value.{Value}
use Rattle.ob_heap.specs.Plain.{value_of}
use Rattle.ob_machine_steps.specs.Slots.{value_at, with_value_at}
use Rattle.ob_machine_parts.specs.Shown.{slots_of}

flat_map : (x : Option (Option Value)) → option_flatten (option_map (option_map value_of) x) ≡ option_map value_of (option_flatten x)
flat_map None = refl
flat_map (Some None) = refl
flat_map (Some (Some v)) = refl

-- the value of a slot is what the code finds there
pub slot_value : (slots : List (Option Value)) (k : ℕ) → value_at (slots_of slots) k ≡ option_map value_of (option_flatten (slice_get slots k))
slot_value slots k = ap option_flatten (slice_get-map (option_map value_of) slots k) ∙ flat_map (slice_get slots k)

pub set_slot : (slots : List (Option Value)) (k : ℕ) (v : Value) → slots_of (slice_set slots k (Some v)) ≡ slice_set (slots_of slots) k (Some (value_of v))
set_slot [] k v = refl
set_slot (x ∷ xs) zero v = refl
set_slot (x ∷ xs) (suc k) v = ap (λ r. option_map value_of x ∷ r) (set_slot xs k v)

pub length_slots : (slots : List (Option Value)) → length (slots_of slots) ≡ length slots
length_slots [] = refl
length_slots (x ∷ xs) = ap suc (length_slots xs)

pub put_slot : (slots : List (Option Value)) (k : ℕ) (v : Value) → k < length slots → with_value_at (slots_of slots) k (value_of v) ≡ Some (slots_of (slice_set slots k (Some v)))
put_slot slots k v h =
    let e : nat_lt k (length (slots_of slots)) ≡ true = rw (length_slots slots) (grind arith) in
    rw e (ap Some (sym (set_slot slots k v)))

pub put_nowhere : (slots : List (Option Value)) (k : ℕ) (v : Value) → length slots ≤ k → with_value_at (slots_of slots) k (value_of v) ≡ None
put_nowhere slots k v h =
    let e : nat_lt k (length (slots_of slots)) ≡ false = rw (length_slots slots) (grind arith) in
    rw e refl

pub slots_push : (slots : List (Option Value)) (v : Option Value) → slots_of (slots ++ v ∷ []) ≡ slots_of slots ++ option_map value_of v ∷ []
slots_push slots v = map-append (option_map value_of) slots (v ∷ [])

pub ruleset slot_lemmas = (slot_value, put_slot, put_nowhere)
