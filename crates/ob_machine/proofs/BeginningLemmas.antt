-- The slots that a call gives to a body.
use Rattle.std.proofs.Common.{◌≡◌, ℕ, List, [], ◌∷◌, Option, Some, None, refl}
use Rattle.std.specs.Prelude.{is_some, ◌&&◌, true, false}
use Rattle.ob_base.specs.Optional.{◌>>=◌}
use Rattle.ob_heap_spec.specs.Values.{Value as PlainValue}
use Rattle.ob_machine_steps.specs.Slots.{Slots, value_at, values_at}
use Rattle.ob_machine_parts.specs.Arguments.{are_set}

-- values of slots that are all set
pub record Held (slots : Slots) (ks : List ℕ) : Type 0 where
  pub values : List PlainValue
  pub is : values_at slots ks ≡ Some values

pub all_held : (slots : Slots) (ks : List ℕ) → are_set slots ks ≡ true → Held slots ks
all_held slots [] e = record { values = []; is = refl }
all_held slots (k ∷ ks) e = by (value_at slots k) refl e (λ h. all_held slots ks h)
  where
    by : (r : Option PlainValue) → value_at slots k ≡ r → (is_some r && are_set slots ks) ≡ true → (are_set slots ks ≡ true → Held slots ks) → Held slots (k ∷ ks)
    by None f e h = absurd cc
    by (Some v) f e h =
        let rest : Held slots ks = h e in
        record { values = v ∷ rest.values; is = rw (f, rest.is) refl }

pub none_held : (slots : Slots) (ks : List ℕ) → are_set slots ks ≡ false → values_at slots ks ≡ None
none_held slots [] e = absurd cc
none_held slots (k ∷ ks) e = by (value_at slots k) e (λ h. none_held slots ks h)
  where
    by : (r : Option PlainValue) → (is_some r && are_set slots ks) ≡ false → (are_set slots ks ≡ false → values_at slots ks ≡ None)
        → (r >>= λ v. values_at slots ks >>= λ vs. Some (v ∷ vs)) ≡ None
    by None e h = refl
    by (Some v) e h = rw (h e) refl
