-- Slots that hold values of kinds that may take the place of the known ones meet what those meet.
use Rattle.std.proofs.Common.{◌≡◌, ℕ, zero, suc, ◌<◌, List, [], ◌∷◌, Option, Some, None, Bool, true, false, ◌||◌, not, ◌==◌, Contains, slice_get, refl, sym, ap, ◌∙◌, subst, inl, inr}
use Rattle.std.specs.Option.{option_map_or}
use Rattle.std.proofs.lemmas.Bool.{true≢false, and_parts, or_cases, or_left, eqb-true, eq-eqb, not-true}
use Rattle.std.proofs.lemmas.Bool.Decides.{eqb_tells}
use Rattle.ob_base.specs.declared.id.ContractId.{ContractId}
use Rattle.ob_table.specs.declared.seen.Kind.{Kind}
use Rattle.ob_table.specs.declared.seen.Kind.TheVariants as kind
use Rattle.ob_code.specs.declared.image.ContractCode.{ContractCode}
use Rattle.ob_code.specs.declared.image.Image.{Image}
use Rattle.ob_verify_spec.specs.Kinds.{same_kind, implements_number, fits_contract, fits, is_reference, BelongsTo}
use Rattle.ob_verify_spec.specs.Frames.{CodeFrame, kinds_of_params}
use Rattle.ob_verify_spec.specs.Instructions.{KindsOfSlots, of_kind, any_value, any_reference, alike, passes, are_alike, needs_of_args, set_slot}
use Rattle.ob_verify_spec.specs.Ways.{at_entry}
use Rattle.ob_verify_spec.specs.Calling.{ImplementsInterfacesAlone, FitKnown, MeetToo}
use Rattle.ob_verify_spec.proofs.Cells.{none_some, some_same, same_kind_of}
use Rattle.ob_verify_spec.proofs.Meeting.{interface_fits}
use Rattle.ob_verify_spec.proofs.Listed.{head, behind}

-- One kind after another.

implementer : (d : ContractId) (o : Option ContractCode) → option_map_or (implements_number d) o false ≡ true → (own : ContractCode) × (o ≡ Some own) × (implements_number d own ≡ true)
implementer d None e = absurd (true≢false (sym e))
implementer d (Some own) e = (own, refl, e)

contracts_fit : (m : Image) → ImplementsInterfacesAlone m → (b c d : ContractId) → fits_contract m b c ≡ true → fits_contract m c d ≡ true → fits_contract m b d ≡ true
contracts_fit m alone b c d e g = elim (or_cases (b.0 == c.0) (option_map_or (implements_number c) (slice_get m.contracts b.0) false) e) [
  | inl h ↦ let same : b.0 ≡ c.0 = eqb-true b.0 c.0 h in ap (λ (n : ℕ). n == d.0 || option_map_or (implements_number d) (slice_get m.contracts n) false) same ∙ g
  | inr h ↦ elim (or_cases (c.0 == d.0) (option_map_or (implements_number d) (slice_get m.contracts c.0) false) g) [
    | inl w ↦ let same : c.0 ≡ d.0 = eqb-true c.0 d.0 w in ap (λ (n : ℕ). let wanted : ContractId = record { 0 = n } in fits_contract m b wanted) (sym same) ∙ e
    | inr w ↦
        let first = implementer c (slice_get m.contracts b.0) h in
        let next = implementer d (slice_get m.contracts c.0) w in
        absurd (true≢false (sym next.2 ∙ alone.contracts c d next.0 next.1 (alone.interfaces b c first.0 next.0 first.1 first.2 next.1)))
  ]
]

pub fits_self : (m : Image) (x : Kind) → fits m x x ≡ true
fits_self m kind.Int = refl
fits_self m kind.Bool = refl
fits_self m kind.Text = refl
fits_self m (kind.Reference c) = or_left (c.0 == c.0) (option_map_or (implements_number c) (slice_get m.contracts c.0) false) (eq-eqb c.0 c.0 refl)

-- a kind may take the place of one to which it belongs
pub belongs_fits : (m : Image) (x y : Kind) → BelongsTo m x y → fits m x y ≡ true
belongs_fits m x y (inl e) = ap (fits m x) (sym e) ∙ fits_self m x
belongs_fits m x y (inr e) = interface_fits m x y e

-- where a kind may take the place of a second, and that of a third, the first may take the place of the third
pub fits_all : (m : Image) → ImplementsInterfacesAlone m → (x y z : Kind) → fits m x y ≡ true → fits m y z ≡ true → fits m x z ≡ true
fits_all m alone (kind.Reference b) (kind.Reference c) (kind.Reference d) e g = contracts_fit m alone b c d e g
fits_all m alone kind.Int kind.Int z e g = g
fits_all m alone kind.Bool kind.Bool z e g = g
fits_all m alone kind.Text kind.Text z e g = g
fits_all m alone (kind.Reference b) (kind.Reference c) kind.Int e g = absurd (true≢false (sym g))
fits_all m alone (kind.Reference b) (kind.Reference c) kind.Bool e g = absurd (true≢false (sym g))
fits_all m alone (kind.Reference b) (kind.Reference c) kind.Text e g = absurd (true≢false (sym g))
fits_all m alone x y z e g = absurd (true≢false (sym e))

-- what may take the place of no reference is of that very kind, and what may take the place of a reference is one
fits_plain : (m : Image) (x y : Kind) → is_reference y ≡ false → fits m x y ≡ true → x ≡ y
fits_plain m kind.Int kind.Int plain e = refl
fits_plain m kind.Bool kind.Bool plain e = refl
fits_plain m kind.Text kind.Text plain e = refl
fits_plain m x (kind.Reference d) plain e = absurd (true≢false plain)
fits_plain m x y plain e = absurd (true≢false (sym e))

fits_reference : (m : Image) (x y : Kind) → is_reference y ≡ true → fits m x y ≡ true → is_reference x ≡ true
fits_reference m (kind.Reference c) y is e = refl
fits_reference m kind.Int (kind.Reference d) is e = absurd (true≢false (sym e))
fits_reference m kind.Bool (kind.Reference d) is e = absurd (true≢false (sym e))
fits_reference m kind.Text (kind.Reference d) is e = absurd (true≢false (sym e))
fits_reference m x y is e = absurd (true≢false (sym is))

-- Needs.

passes_by : (test other : Kind → Bool) (known o : Option Kind) → passes test known ≡ true
    → ((x : Kind) → known ≡ Some x → (y : Kind) × (o ≡ Some y) × (test x ≡ true → other y ≡ true)) → passes other o ≡ true
passes_by test other None o e next = absurd (true≢false (sym e))
passes_by test other (Some x) o e next = let h = next x refl in ap (passes other) h.1 ∙ h.2 e

alike_by : (m : Image) (p q o u : Option Kind) → are_alike p q ≡ true → ((x : Kind) → p ≡ Some x → (y : Kind) × (o ≡ Some y) × (fits m y x ≡ true))
    → ((x : Kind) → q ≡ Some x → (y : Kind) × (u ≡ Some y) × (fits m y x ≡ true)) → are_alike o u ≡ true
alike_by m None q o u e first next = absurd (true≢false (sym e))
alike_by m (Some x) None o u e first next = absurd (true≢false (sym (and_parts (not (is_reference x)) false e).1))
alike_by m (Some x) (Some z) o u e first next =
    let parts = and_parts (not (is_reference x)) (same_kind x z) e in
    let plain : is_reference x ≡ false = not-true (is_reference x) parts.0 in
    let same : x ≡ z = same_kind_of x z parts.1 in
    let a = first x refl in
    let b = next z refl in
    let left : o ≡ Some x = a.1 ∙ ap Some (fits_plain m a.0 x plain a.2) in
    let right : u ≡ Some z = b.1 ∙ ap Some (fits_plain m b.0 z (ap is_reference (sym same) ∙ plain) b.2) in
    ap (λ w. are_alike w u) left ∙ ap (are_alike (Some x)) right ∙ e

pub meet_too : (m : Image) → ImplementsInterfacesAlone m → MeetToo m
meet_too m alone count known s (of_kind k wanted) fit below e = passes_by (λ given. fits m given wanted) (λ given. fits m given wanted) (known k) (s k) e
    (λ x h. let w = fit k x (below k (head k [])) h in (w.0, w.1, λ g. fits_all m alone w.0 x wanted w.2 g))
meet_too m alone count known s (any_value k) fit below e = passes_by (λ given. true) (λ given. true) (known k) (s k) e (λ x h. let w = fit k x (below k (head k [])) h in (w.0, w.1, λ g. g))
meet_too m alone count known s (any_reference k) fit below e =
    passes_by is_reference is_reference (known k) (s k) e (λ x h. let w = fit k x (below k (head k [])) h in (w.0, w.1, λ g. fits_reference m w.0 x g w.2))
meet_too m alone count known s (alike k l) fit below e =
    alike_by m (known k) (known l) (s k) (s l) e (λ x h. fit k x (below k (head k (l ∷ []))) h) (λ x h. fit l x (below l (behind k l (l ∷ []) (head l []))) h)

-- Effects.

pub fit_less : (m : Image) → ImplementsInterfacesAlone m → (count : ℕ) (less known s : KindsOfSlots) → FitKnown m count less known → FitKnown m count known s → FitKnown m count less s
fit_less m alone count less known s below fit k x lt e = let a = below k x lt e in let b = fit k a.0 lt a.1 in (b.0, b.1, fits_all m alone b.0 a.0 x b.2 a.2)

pub fit_set : (m : Image) (count k : ℕ) (held given : Option Kind) (known s : KindsOfSlots)
    → ((x : Kind) → held ≡ Some x → (y : Kind) × (given ≡ Some y) × (fits m y x ≡ true)) → FitKnown m count known s
    → FitKnown m count (set_slot k held known) (set_slot k given s)
fit_set m count k held given known s one fit j x lt e = elim (eqb_tells j k) [
  | inl u ↦ let h = one x (rw u.0 at e) in (h.0, rw u.0 h.1, h.2)
  | inr u ↦ let h = fit j x lt (rw u.0 at e) in (h.0, rw u.0 h.1, h.2)
]

pub fit_copied : (m : Image) (count k a : ℕ) (known s : KindsOfSlots) → a < count → FitKnown m count known s → FitKnown m count (set_slot k (known a) known) (set_slot k (s a) s)
fit_copied m count k a known s lt fit = fit_set m count k (known a) (s a) known s (λ x e. fit a x lt e) fit

-- Arguments.

-- each argument that has a parameter is needed to be of its kind
pub args_needed : (args : List ℕ) (ps : List Kind) (j a : ℕ) (p : Kind) → slice_get args j ≡ Some a → slice_get ps j ≡ Some p → Contains (needs_of_args args ps) (of_kind a p)
args_needed [] ps j a p e g = absurd (none_some e)
args_needed (b ∷ args) [] j a p e g = absurd (none_some g)
args_needed (b ∷ args) (q ∷ ps) zero a p e g =
    subst (λ z. Contains (of_kind b q ∷ needs_of_args args ps) (of_kind z p)) (some_same e)
    (subst (λ z. Contains (of_kind b q ∷ needs_of_args args ps) (of_kind b z)) (some_same g) (head (of_kind b q) (needs_of_args args ps)))
args_needed (b ∷ args) (q ∷ ps) (suc j) a p e g = behind (of_kind b q) (of_kind a p) (needs_of_args args ps) (args_needed args ps j a p e g)

-- a receiver and arguments that fit what a body takes fit what its entry holds
pub fit_entry : (m : Image) (count : ℕ) (f : CodeFrame) (itself : Kind) (given : List Kind) → fits m itself (kind.Reference f.here) ≡ true
    → ((j : ℕ) (p : Kind) → slice_get (kinds_of_params f.body) j ≡ Some p → (y : Kind) × (slice_get given j ≡ Some y) × (fits m y p ≡ true))
    → FitKnown m count (at_entry f) (slice_get (itself ∷ given))
fit_entry m count f itself given first rest zero x lt e = (itself, refl, subst (λ z. fits m itself z ≡ true) (some_same e) first)
fit_entry m count f itself given first rest (suc k) x lt e = rest k x e
