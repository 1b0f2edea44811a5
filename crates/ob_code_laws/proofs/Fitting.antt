-- What slots hold meets the needs that their kinds meet.
use Rattle.std.proofs.Common.{◌≡◌, ℕ, ◌<◌, List, [], ◌∷◌, Option, Some, None, true, false, not, ◌==◌, Contains, slice_get, refl, sym, ap, ◌∙◌, subst, ◌⊎◌, inl, inr}
use Rattle.std.specs.Option.{option_map_or}
use Rattle.std.proofs.lemmas.Bool.{true≢false, or_cases, and_parts, eqb-true, not-true, false_from_ne_true}
use Rattle.ob_base.specs.declared.id.ContractId.{ContractId}
use Rattle.ob_table.specs.declared.seen.Kind.{Kind}
use Rattle.ob_table.specs.declared.seen.Kind.TheVariants as kind
use Rattle.ob_heap_spec.specs.Values.{Value, reference}
use Rattle.ob_heap_spec.specs.Objects.{Object}
use Rattle.ob_code.specs.declared.image.ContractCode.{ContractCode}
use Rattle.ob_code.specs.declared.image.Image.{Image}
use Rattle.ob_machine_steps.specs.Slots.{Slots, value_at}
use Rattle.ob_code.specs.Code.{is_interface, contract_code}
use Rattle.ob_verify_spec.specs.Kinds.{same_kind, implements_number as implements_it, fits_contract, fits, is_reference}
use Rattle.ob_verify_spec.specs.Instructions.{Need, of_kind, any_value, any_reference, alike, slots_needed, passes, are_alike, meets}
use Rattle.ob_verify_spec.specs.Instructions as kinds
use Rattle.ob_verify_spec.specs.Calling.{ImplementsInterfacesAlone, FitKnown}
use Rattle.ob_verify_spec.proofs.Cells.{same_kind_of}
use Rattle.ob_verify_spec.proofs.Listed.{head, behind}
use Rattle.ob_code_laws.specs.Kinds.{IsOfKind, Holds, HoldsReference, AreMet}
use Rattle.ob_code_laws.proofs.Basics.{passes_some, same_contract}

-- Contracts.

-- a contract implements an interface
record Implements (image : Image) (a b : ContractId) : Type 0 where
  own : ContractCode
  there : contract_code image a ≡ Some own
  is : implements_it b own ≡ true

pub fits_cases : (image : Image) (a b : ContractId) → fits_contract image a b ≡ true → (a ≡ b) ⊎ ((own : ContractCode) × (contract_code image a ≡ Some own) × (implements_it b own ≡ true))
fits_cases image a b e = elim (or_cases (a.0 == b.0) (option_map_or (implements_it b) (slice_get image.contracts a.0) false) e) [
  | inl h ↦ inl (same_contract a b (eqb-true a.0 b.0 h))
  | inr h ↦ inr (passes_some (implements_it b) (slice_get image.contracts a.0) h)
]

-- what represents a contract that is no interface is that contract
pub fits_of_contract : (image : Image) → ImplementsInterfacesAlone image → (a b : ContractId) (own : ContractCode) → contract_code image b ≡ Some own → is_interface own ≡ false
    → fits_contract image a b ≡ true → a ≡ b
fits_of_contract image imps a b own of contract e = elim (fits_cases image a b e) [
  | inl h ↦ h
  | inr h ↦
      let is : is_interface own ≡ true = imps.interfaces a b h.0 own h.1 h.2 of in absurd (true≢false (sym is ∙ contract))
]

fits_on : (image : Image) → ImplementsInterfacesAlone image → (a b c : ContractId) → fits_contract image a b ≡ true → fits_contract image b c ≡ true → fits_contract image a c ≡ true
fits_on image imps a b c e g = elim (fits_cases image b c g) [
  | inl h ↦ subst (λ z. fits_contract image a z ≡ true) h e
  | inr h ↦
      let plain : is_interface h.0 ≡ false = false_from_ne_true (is_interface h.0) (λ is. true≢false (sym h.2 ∙ imps.contracts b c h.0 h.1 is)) in
      subst (λ z. fits_contract image z c ≡ true) (sym (fits_of_contract image imps a b h.0 h.1 plain e)) g
]

-- a value of a kind is of each kind for which that may stand
pub widens : (image : Image) → ImplementsInterfacesAlone image → (objects : List Object) (x y : Kind) (v : Value) → fits image x y ≡ true → IsOfKind image objects x v → IsOfKind image objects y v
widens image imps objects (kind.Reference c) (kind.Reference d) (reference n) e h = record { object = h.object; there = h.there; fits = fits_on image imps h.object.contract c d h.fits e }
widens image imps objects (kind.Reference c) (kind.Reference d) v e h = absurd h
widens image imps objects x y v e h = subst (λ z. IsOfKind image objects z v) (same_kind_of x y e) h

-- Needs.

-- the slots of a body hold what is known of them
abbrev pub HoldKnown : Image → List Object → ℕ → kinds.KindsOfSlots → Slots → Type 0
HoldKnown image objects n known slots = (k : ℕ) (x : Kind) → k < n → known k ≡ Some x → Holds image objects slots k x

-- a slot that holds a value of a kind holds one of each kind for which that may stand
pub holds_widens : (image : Image) → ImplementsInterfacesAlone image → (objects : List Object) (slots : Slots) (k : ℕ) (x y : Kind) → fits image x y ≡ true → Holds image objects slots k x
    → Holds image objects slots k y
holds_widens image imps objects slots k x y e h = record { value = h.value; there = h.there; kind = widens image imps objects x y h.value e h.kind }

-- where less is known of slots, they hold that too
pub hold_less : (image : Image) → ImplementsInterfacesAlone image → (objects : List Object) (n : ℕ) (known less : kinds.KindsOfSlots) (slots : Slots) → FitKnown image n less known
    → HoldKnown image objects n known slots → HoldKnown image objects n less slots
hold_less image imps objects n known less slots fit holds k x lt e = let a = fit k x lt e in holds_widens image imps objects slots k a.0 x a.2 (holds k a.0 lt a.1)

refers : (image : Image) (objects : List Object) (slots : Slots) (k : ℕ) (x : Kind) (v : Value) → is_reference x ≡ true → value_at slots k ≡ Some v → IsOfKind image objects x v
    → HoldsReference objects slots k
refers image objects slots k (kind.Reference c) (reference n) r at h = record { number = n; there = at; object = h.object; found = h.there }
refers image objects slots k (kind.Reference c) v r at h = absurd h
refers image objects slots k x v r at h = absurd (true≢false (sym r))

are_same : (o p : Option Kind) → are_alike o p ≡ true → (x : Kind) × (is_reference x ≡ false) × (o ≡ Some x) × (p ≡ Some x)
are_same None p e = absurd (true≢false (sym e))
are_same (Some x) p e =
    let parts = and_parts (not (is_reference x)) (passes (same_kind x) p) e in
    let found = passes_some (same_kind x) p parts.1 in
    (x, not-true (is_reference x) parts.0, refl, found.1 ∙ ap Some (sym (same_kind_of x found.0 found.2)))

pub are_met : (image : Image) → ImplementsInterfacesAlone image → (objects : List Object) (n : ℕ) (known : kinds.KindsOfSlots) (slots : Slots) → HoldKnown image objects n known slots → (need : Need)
    → ((k : ℕ) → Contains (slots_needed need) k → k < n) → meets image known need ≡ true → AreMet image objects slots need
are_met image imps objects n known slots holds (of_kind k wanted) lt e =
    let found = passes_some (λ given. fits image given wanted) (known k) e in
    let h : Holds image objects slots k found.0 = holds k found.0 (lt k (head k [])) found.1 in
    record { value = h.value; there = h.there; kind = widens image imps objects found.0 wanted h.value found.2 h.kind }
are_met image imps objects n known slots holds (any_value k) lt e =
    let found = passes_some (λ given. true) (known k) e in
    let h : Holds image objects slots k found.0 = holds k found.0 (lt k (head k [])) found.1 in
    record { value = h.value; there = h.there }
are_met image imps objects n known slots holds (any_reference k) lt e =
    let found = passes_some is_reference (known k) e in
    let h : Holds image objects slots k found.0 = holds k found.0 (lt k (head k [])) found.1 in
    refers image objects slots k found.0 h.value found.2 h.there h.kind
are_met image imps objects n known slots holds (alike k l) lt e =
    let found = are_same (known k) (known l) e in
    record { kind = found.0; plain = found.1; left = holds k found.0 (lt k (head k (l ∷ []))) found.2; right = holds l found.0 (lt l (behind k l (l ∷ []) (head l []))) found.3 }
