-- The slots with which a body begins.
use Rattle.std.proofs.Common.{◌≡◌, ℕ, List, [], ◌∷◌, ◌++◌, map, Option, Some, None, Result, Err, refl, sym, ap, subst, ◌∙◌, append_assoc, append-nil}
use Rattle.ob_base.specs.Optional.{◌>>=◌}
use Rattle.ob_heap_spec.specs.Values.{Value as PlainValue, reference}
use Rattle.ob_machine_steps.specs.Slots.{Slots, value_at, values_at, first_slots}
use Rattle.ob_machine_parts.specs.Arguments.{gathered, padded, given_first}
use Rattle.ob_machine_parts.specs.Giving.{Gives}
use Rattle.ob_machine_parts.specs.declared.off.Off.{Off}
use Rattle.ob_machine_parts.specs.declared.off.Off.TheVariants.{Memory, NoStep}

abbrev set_all : List PlainValue → Slots
set_all vs = map (λ v. Some v) vs

gathered_all : (slots : Slots) (ks : List ℕ) (out : Slots) → gathered slots ks out ≡ (values_at slots ks >>= λ vs. Some (out ++ set_all vs))
gathered_all slots [] out = ap Some (sym (append-nil out))
gathered_all slots (k ∷ ks) out = by (value_at slots k) (λ out. gathered_all slots ks out)
  where
    more : (v : PlainValue) (r : Option (List PlainValue))
        → (r >>= λ vs. Some ((out ++ Some v ∷ []) ++ set_all vs)) ≡ (r >>= λ vs. Some (v ∷ vs)) >>= (λ vs. Some (out ++ set_all vs))
    more v None = refl
    more v (Some vs) = ap Some (append_assoc out (Some v ∷ []) (set_all vs))

    by : (o : Option PlainValue) → ((out : Slots) → gathered slots ks out ≡ (values_at slots ks >>= λ vs. Some (out ++ set_all vs)))
        → (o >>= λ v. gathered slots ks (out ++ Some v ∷ [])) ≡ (o >>= λ v. values_at slots ks >>= λ vs. Some (v ∷ vs)) >>= (λ vs. Some (out ++ set_all vs))
    by None h = refl
    by (Some v) h = h (out ++ Some v ∷ []) ∙ more v (values_at slots ks)

pub some_same : {A : Type 0} (x y : A) → Some x ≡ Some y → x ≡ y
some_same x y e = cc

pub first_is : (slots : Slots) (args : List ℕ) (this count : ℕ) (one given : Slots) → one ≡ Some (reference this) ∷ [] → gathered slots args one ≡ Some given
    → given_first slots args this count ≡ Some (padded count given)
first_is slots args this count one given e g =
    let h : (values_at slots args >>= λ vs. Some ((Some (reference this) ∷ []) ++ set_all vs)) ≡ Some given =
    sym (gathered_all slots args (Some (reference this) ∷ [])) ∙ ap (gathered slots args) (sym e) ∙ g in
    by (values_at slots args) h
  where
    by : (r : Option (List PlainValue)) → (r >>= λ vs. Some ((Some (reference this) ∷ []) ++ set_all vs)) ≡ Some given
        → (r >>= λ vs. Some (first_slots count this vs)) ≡ Some (padded count given)
    by None h = absurd cc
    by (Some vs) h = ap (λ x. Some (padded count x)) (some_same ((Some (reference this) ∷ []) ++ set_all vs) given h)

pub first_gives : {A : Type 0} (r : Result A Off) (show : A → Slots) (slots : Slots) (args : List ℕ) (this count : ℕ) (one given : Slots)
    → one ≡ Some (reference this) ∷ [] → gathered slots args one ≡ Some given
    → Gives r (Some (padded count given)) show → Gives r (given_first slots args this count) show
first_gives r show slots args this count one given e g h = subst (λ x. Gives r x show) (sym (first_is slots args this count one given e g)) h

pub first_fails : {A C : Type 0} (off : Off) (show : A → Slots) (shows : C → Slots) (slots : Slots) (args : List ℕ) (this count : ℕ) (one : Slots)
    → one ≡ Some (reference this) ∷ [] → Gives {A = C} {B = Slots} (Err off) (gathered slots args one) shows
    → Gives {A = A} {B = Slots} (Err off) (given_first slots args this count) show
first_fails Memory show shows slots args this count one e h = tt
first_fails NoStep show shows slots args this count one e h =
    by (values_at slots args) (sym (gathered_all slots args one) ∙ h)
  where
    by : (r : Option (List PlainValue)) → (r >>= λ vs. Some (one ++ set_all vs)) ≡ None → (r >>= λ vs. Some (first_slots count this vs)) ≡ None
    by None h = refl
    by (Some vs) h = absurd cc
