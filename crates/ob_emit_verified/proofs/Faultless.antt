-- A body whose code is certified: what ways hold fits what is known, and no condition holds.
use Rattle.std.proofs.Common.{◌≡◌, ◌≢◌, ℕ, zero, suc, ◌+◌, ◌<◌, List, [], ◌∷◌, length, Option, Some, Bool, true, false, not, Contains, slice_get, refl, sym, ap, ◌∙◌, subst, arith, inl, inr}
use Rattle.std.specs.List.{list_all}
use Rattle.std.specs.Option.{option_map_or, option_and_then}
use Rattle.std.specs.Prelude.{◌==◌, ◌&&◌, None, if◌then◌else◌}
use Rattle.std.proofs.lemmas.Bool.{or_cases, eqb-true, eq-eqb}
use Rattle.std.proofs.lemmas.Bool.{true≢false, lt-ltb, false_from_ne_true}
use Rattle.std.proofs.lemmas.Option.{slice_get_within}
use Rattle.std.proofs.Math.Dec.{eqb-suc-zero}
use Rattle.ob_table.specs.declared.seen.Kind.{Kind}
use Rattle.ob_base.specs.declared.id.ContractId.{ContractId}
use Rattle.ob_table.specs.declared.seen.Kind.TheVariants as kind
use Rattle.ob_code.specs.Code.{is_interface, contract_code}
use Rattle.ob_code.specs.declared.image.ContractCode.{ContractCode}
use Rattle.ob_code.specs.declared.image.Image.{Image}
use Rattle.ob_code.specs.declared.instruction.Instruction.{Instruction}
use Rattle.ob_code.specs.declared.instruction.Instruction.TheVariants as is
use Rattle.ob_verify_spec.specs.declared.CodeFault.{CodeFault}
use Rattle.ob_verify_spec.specs.declared.CodeFault.TheVariants.{BadJump, BadSlot, KindMismatch, BadField, BadCall, FallsOff, NoFuelMark}
use Rattle.ob_verify_spec.specs.Kinds.{implements_number, fits, is_plain_interface, interface_declared, interface_of_contract, BelongsTo}
use Rattle.ob_verify_spec.specs.Frames.{CodeFrame}
use Rattle.ob_verify_spec.specs.Instructions.{KindsOfSlots, targets, leads, Need, slots_needed, meets, needs, done, effect}
use Rattle.ob_verify_spec.specs.Conditions.{is_within, is_ahead_or_unit, bad_jump, no_fuel_mark, lacks_slots}
use Rattle.ob_verify_spec.specs.Calling.{ImplementsInterfacesAlone, ImplementsWhatIsThere}
use Rattle.ob_verify_spec.specs.Ways.{IsAt, at_entry, Way, start, step, Mismatch, unmet, differs, Holds, IsFaultless}
use Rattle.ob_verify_spec.proofs.Cells.{none_some, some_same}
use Rattle.ob_verify_spec.proofs.Listed.{not_empty, head, behind, cases}
use Rattle.ob_verify_spec.proofs.Naming.{needs_below}
use Rattle.ob_verify_spec.proofs.Needs.{meets_set}
use Rattle.ob_verify_spec.proofs.Fitting.{meet_too}
use Rattle.ob_verify_spec.proofs.Meeting.{HoldsOne, both_least}
use Rattle.ob_emit_verified.proofs.Flows.{StandsAt, Serves, Fit, fit_done, Table, KnownAt, MayCome, IsChecked, AreChecked, IsCertified, come_less}

-- A body of which all the code is certified: what is known at first the entry holds, and the end is never reached.
pub record IsCertifiedBody (f : CodeFrame) : Type 0 where
  pub alone : ImplementsInterfacesAlone f.image
  pub enough : lacks_slots f 0 ≡ false
  pub before : KindsOfSlots
  pub after : KindsOfSlots
  pub entry : Fit f.image before (at_entry f)
  pub code : IsCertified f 0 f.body.instructions before true after

-- Places.

all_known : (t : Table) (at : ℕ) (ks : List KindsOfSlots) → ((n : ℕ) → t (n + at) ≡ slice_get ks n) → KnownAt t at ks
all_known t at [] h = tt
all_known t at (k ∷ ks) h =
    let first : at ≡ 0 + at = omega arith in
    (ap t first ∙ h 0, all_known t (at + 1) ks (λ n. let e : n + (at + 1) ≡ suc n + at = omega arith in ap t e ∙ h (suc n)))

-- the whole of code stands in itself
all_stand : (code xs : List Instruction) (at : ℕ) → ((n : ℕ) → slice_get code (n + at) ≡ slice_get xs n) → StandsAt code at xs
all_stand code [] at h = tt
all_stand code (x ∷ xs) at h =
    let first : at ≡ 0 + at = omega arith in (
      ap (slice_get code) first ∙ h 0,
      all_stand code xs (at + 1) (λ n. let e : n + (at + 1) ≡ suc n + at = omega arith in ap (slice_get code) e ∙ h (suc n)),
    )

checked_in : (f : CodeFrame) (t : Table) (at : ℕ) (code : List Instruction) (n : ℕ) (x : Instruction) → AreChecked f t at code
    → slice_get code n ≡ Some x
    → IsChecked f t (at + n) x
checked_in f t at [] n x h e = absurd (none_some e)
checked_in f t at (y ∷ code) zero x h e =
    let place : at ≡ at + 0 = omega arith in
    let here : IsChecked f t at x = subst (λ z. IsChecked f t at z) (some_same e) h.0 in
    subst (λ z. IsChecked f t z x) place here
checked_in f t at (y ∷ code) (suc n) x h e =
    let place : at + 1 + n ≡ at + suc n = omega arith in subst (λ z. IsChecked f t z x) place (checked_in f t (at + 1) code n x h.1 e)

-- what is known at places of a body
abbrev pub table_of : (f : CodeFrame) → IsCertifiedBody f → Table
table_of f c = slice_get c.code.known

pub known_in : (f : CodeFrame) (c : IsCertifiedBody f) → KnownAt (table_of f c) 0 c.code.known
known_in f c = all_known (table_of f c) 0 c.code.known (λ n. let e : n + 0 ≡ n = omega arith in ap (slice_get c.code.known) e)

pub within_body : (f : CodeFrame) (c : IsCertifiedBody f) (i : ℕ) (s : KindsOfSlots) → table_of f c i ≡ Some s
    → i < length f.body.instructions
within_body f c i s e = subst (λ z. i < z) c.code.long (slice_get_within c.code.known i s e)

pub checked_at : (f : CodeFrame) (c : IsCertifiedBody f) (i : ℕ) (x : Instruction) → IsAt f i x → IsChecked f (table_of f c) i x
checked_at f c i x at =
    let whole = all_stand f.body.instructions f.body.instructions 0
    (λ n. let e : n + 0 ≡ n = omega arith in ap (slice_get f.body.instructions) e) in
    let all = c.code.checks (table_of f c) whole (known_in f c) (λ e. absurd (true≢false e)) in
    let place : 0 + i ≡ i = omega arith in
    subst (λ z. IsChecked f (table_of f c) z x) place (checked_in f (table_of f c) 0 f.body.instructions i x all at)

-- Ways.

pub all_pass : {X : Type 0} (test : X → Bool) (xs : List X) → ((y : X) → Contains xs y → test y ≡ true) → list_all test xs ≡ true
all_pass test [] h = refl
all_pass test (x ∷ xs) h = rw (h x (head x xs), all_pass test xs (λ y c. h y (behind x y xs c))) refl

target_led : (i : ℕ) (x : Instruction) (t : ℕ) → Contains (targets x) t → Contains (leads i x) t
target_led i (is.Jump u) t c = c
target_led i (is.Unless a u) t c = elim (cases u t [] c) [ inl e ↦ subst (λ z. Contains (u ∷ (i + 1) ∷ []) z) e (head u ((i + 1) ∷ [])) | inr h ↦ absurd (not_empty t h) ]
target_led i (is.Test a d s u) t c = elim (cases u t [] c) [ inl e ↦ subst (λ z. Contains (u ∷ (i + 1) ∷ []) z) e (head u ((i + 1) ∷ [])) | inr h ↦ absurd (not_empty t h) ]
target_led i x t c = absurd (not_empty t c)

jumps_well : (f : CodeFrame) (c : IsCertifiedBody f) (i : ℕ) (x : Instruction) → IsAt f i x → bad_jump f x ≡ false
jumps_well f c i x at =
    let h = checked_at f c i x at in
    ap not (all_pass (is_within f) (targets x) (λ t d.
    let come = h.leads_on t (target_led i x t d) in
    lt-ltb t (length f.body.instructions) (within_body f c t come.known come.there)))

jumps_fuelled : (f : CodeFrame) (c : IsCertifiedBody f) (i : ℕ) (x : Instruction) → IsAt f i x → no_fuel_mark f i x ≡ false
jumps_fuelled f c i x at = ap not (all_pass (is_ahead_or_unit f i) (targets x) (checked_at f c i x at).fuelled)

enough_at : (f : CodeFrame) (i : ℕ) → lacks_slots f 0 ≡ false → lacks_slots f i ≡ false
enough_at f zero e = e
enough_at f (suc i) e = rw (eqb-suc-zero i) refl

-- what slots hold on a way fits what is known at the place to which it leads
pub way_fits : (f : CodeFrame) (c : IsCertifiedBody f) (i : ℕ) (s : KindsOfSlots) → Way f i s → MayCome f.image (table_of f c) i s
way_fits f c i s start =
    come_less f.image c.alone (table_of f c) 0 c.before (at_entry f) c.entry (c.code.enters (table_of f c) (known_in f c) (λ e. absurd (true≢false e)))
way_fits f c i s (step {i = h} {s = r} x j w at so d) =
    let before = way_fits f c h r w in
    let here = checked_at f c h x at in
    let same : here.known ≡ before.known = some_same (sym here.there ∙ before.there) in
    let fit : Fit f.image here.known r = subst (λ z. Fit f.image z r) (sym same) before.fit in
    come_less f.image c.alone (table_of f c) j (done (effect f x) here.known) (done (effect f x) r) (fit_done f.image (effect f x) here.known r fit) (here.leads_on j d)

-- Needs.

-- what is known where an instruction stands meets its needs, and what slots hold on a way there fits it
pub record IsMetBy (f : CodeFrame) (x : Instruction) (s : KindsOfSlots) (known : KindsOfSlots) : Type 0 where
  pub met : (n : Need) → Contains (needs f x) n → meets f.image known n ≡ true
  pub fit : Fit f.image known s

known_here : (f : CodeFrame) (c : IsCertifiedBody f) (i : ℕ) (x : Instruction) (s : KindsOfSlots) (at : IsAt f i x) → Way f i s
    → IsMetBy f x s (checked_at f c i x at).known
known_here f c i x s at w =
    let come = way_fits f c i s w in
    let here = checked_at f c i x at in
    let same : here.known ≡ come.known = some_same (sym here.there ∙ come.there) in
    record { met = here.sound.met; fit = subst (λ z. Fit f.image z s) (sym same) come.fit }

-- each need is met on each way
pub met_on_way : (f : CodeFrame) (c : IsCertifiedBody f) (i : ℕ) (x : Instruction) (n : Need) (s : KindsOfSlots) → IsAt f i x
    → Contains (needs f x) n → Way f i s
    → meets f.image s n ≡ true
met_on_way f c i x n s at needed w =
    let here = checked_at f c i x at in
    let by = known_here f c i x s at w in
    meet_too f.image c.alone f.body.slots here.known s n
    (λ k y lt e. let h = by.fit k y e in (h.0, h.1, h.2))
    (λ k d. needs_below f x n k here.sound.slots needed d) (by.met n needed)

-- a kind for which what a slot holds on two ways stands
pub record IsCommon (f : CodeFrame) (held other : Option Kind) : Type 0 where
  pub common : Kind
  pub one : Kind
  pub two : Kind
  pub first : held ≡ Some one
  pub second : other ≡ Some two
  pub one_serves : Serves f.image one common
  pub two_serves : Serves f.image two common

pub common_on_ways : (f : CodeFrame) (c : IsCertifiedBody f) (i : ℕ) (x : Instruction) (n : Need) (s t : KindsOfSlots) (k : ℕ)
    → IsAt f i x → Contains (needs f x) n
    → Contains (slots_needed n) k → Way f i s → Way f i t → IsCommon f (s k) (t k)
common_on_ways f c i x n s t k at needed d w v =
    let here = checked_at f c i x at in
    let a = known_here f c i x s at w in
    let b = known_here f c i x t at v in
    let set = meets_set f.image here.known n k (a.met n needed) d in
    let one = a.fit k set.0 set.1 in
    let two = b.fit k set.0 set.1 in
    record { common = set.0; one = one.0; two = two.0; first = one.1; second = two.1; one_serves = one.2; two_serves = two.2 }

-- Faults.

there_passes : {A : Type 0} (test : A → Bool) (o : Option A) → option_map_or test o false ≡ true
    → (x : A) × (o ≡ Some x) × (test x ≡ true)
there_passes test None e = absurd (true≢false (sym e))
there_passes test (Some x) e = (x, refl, e)

-- what may take the place of a kind belongs to it, where each interface that is implemented is there and implements none
none_implemented : (m : Image) → ImplementsInterfacesAlone m → (d : ContractId) (own : ContractCode) (n : ℕ)
    → contract_code m d ≡ Some own → is_interface own ≡ true → own.implements ≡ n → n ≡ 0
none_implemented m alone d own zero there interface e = refl
none_implemented m alone d own (suc n) there interface e =
    let implements : implements_number (record { 0 = n }) own ≡ true = eq-eqb own.implements (n + 1) (e ∙ omega arith) in
    absurd (true≢false (sym implements ∙ alone.contracts d (record { 0 = n }) own there interface))

declared_interface : (m : Image) → ImplementsInterfacesAlone m → ImplementsWhatIsThere m → (c d : ContractId) (own : ContractCode)
    → contract_code m c ≡ Some own → implements_number d own ≡ true
    → interface_of_contract m c own ≡ Some (kind.Reference d)
declared_interface m alone has c d own there implements =
    let other = has c d own there implements in
    let interface : is_interface other.0 ≡ true = alone.interfaces c d own other.0 there implements other.1 in
    let contract : is_interface own ≡ false = false_from_ne_true (is_interface own) (λ e. true≢false (sym implements ∙ alone.contracts c d own there e)) in
    let number : own.implements ≡ suc d.0 = let e : own.implements ≡ d.0 + 1 = eqb-true own.implements (d.0 + 1) implements in omega arith in
    let last : (other.0.implements == 0) ≡ true = eq-eqb other.0.implements 0 (none_implemented m alone d other.0 other.0.implements other.1 interface refl) in
    let plain : is_plain_interface other.0 ≡ true = rw (interface, last) refl in
    let found : option_map_or is_plain_interface (slice_get m.contracts d.0) false ≡ true = ap (λ o. option_map_or is_plain_interface o false) other.1 ∙ plain in
    ap (λ b. if b && own.implements == 0 then Some (kind.Reference c) else interface_declared m own.implements) contract
    ∙ ap (interface_declared m) number ∙ ap (λ b. if b then Some (kind.Reference d) else None) found

fits_belongs : (m : Image) → ImplementsInterfacesAlone m → ImplementsWhatIsThere m → (y x : Kind) → fits m y x ≡ true → BelongsTo m y x
fits_belongs m alone has kind.Int kind.Int e = inl refl
fits_belongs m alone has kind.Bool kind.Bool e = inl refl
fits_belongs m alone has kind.Text kind.Text e = inl refl
fits_belongs m alone has (kind.Reference c) (kind.Reference d) e = elim (or_cases (c.0 == d.0) (option_map_or (implements_number d) (slice_get m.contracts c.0) false) e) [
  | inl same ↦ inl (ap kind.Reference (ap (λ n. let made : ContractId = record { 0 = n } in made) (eqb-true c.0 d.0 same)))
  | inr implements ↦
      let own = there_passes (implements_number d) (slice_get m.contracts c.0) implements in
      inr (ap (option_and_then (interface_of_contract m c)) own.1 ∙ declared_interface m alone has c d own.0 own.1 own.2)
]
fits_belongs m alone has (kind.Reference c) kind.Int e = absurd (true≢false (sym e))
fits_belongs m alone has (kind.Reference c) kind.Bool e = absurd (true≢false (sym e))
fits_belongs m alone has (kind.Reference c) kind.Text e = absurd (true≢false (sym e))
fits_belongs m alone has y x e = absurd (true≢false (sym e))

no_mismatch : (f : CodeFrame) → ImplementsWhatIsThere f.image → (c : IsCertifiedBody f) (i : ℕ) (x : Instruction) (n : Need)
    → IsAt f i x → Contains (needs f x) n → ¬ (Mismatch f i n)
no_mismatch f has c i x n at needed (unmet s w e) = true≢false (sym (met_on_way f c i x n s at needed w) ∙ e)
no_mismatch f has c i x n at needed (differs s t k w v d none) =
    let h = common_on_ways f c i x n s t k at needed d w v in
    let one : HoldsOne f.image (s k) h.common = (h.one, h.first, fits_belongs f.image c.alone has h.one h.common h.one_serves) in
    let two : HoldsOne f.image (t k) h.common = (h.two, h.second, fits_belongs f.image c.alone has h.two h.common h.two_serves) in
    none_some (both_least f.image (s k) (t k) None h.common none one two).1

-- no condition holds but that on kinds
pub none_but_kinds : (f : CodeFrame) (c : IsCertifiedBody f) (i : ℕ) (fault : CodeFault) → fault ≢ KindMismatch
    → ¬ (Holds f i fault)
none_but_kinds f c i BadJump other h = true≢false (sym h.so ∙ jumps_well f c i h.instruction h.at)
none_but_kinds f c i BadSlot other (inl e) = true≢false (sym e ∙ enough_at f i c.enough)
none_but_kinds f c i BadSlot other (inr h) = true≢false (sym h.so ∙ (checked_at f c i h.instruction h.at).sound.slots)
none_but_kinds f c i KindMismatch other h = other refl
none_but_kinds f c i BadField other h = true≢false (sym h.so ∙ (checked_at f c i h.instruction h.at).sound.fields)
none_but_kinds f c i BadCall other h = true≢false (sym h.so ∙ (checked_at f c i h.instruction h.at).sound.calls)
none_but_kinds f c i NoFuelMark other h = true≢false (sym h.so ∙ jumps_fuelled f c i h.instruction h.at)
none_but_kinds f c i FallsOff other (e, (s, w)) =
    let come = way_fits f c i s w in
    let lt : i < length f.body.instructions = within_body f c i come.known come.there in
    absurd (omega arith)

-- where what is implemented is there none holds
pub faultless : (f : CodeFrame) → ImplementsWhatIsThere f.image → IsCertifiedBody f → IsFaultless f
faultless f has c i BadJump h = none_but_kinds f c i BadJump (λ e. absurd (cc)) h
faultless f has c i BadSlot h = none_but_kinds f c i BadSlot (λ e. absurd (cc)) h
faultless f has c i KindMismatch h = no_mismatch f has c i h.instruction h.need h.at h.needed h.so
faultless f has c i BadField h = none_but_kinds f c i BadField (λ e. absurd (cc)) h
faultless f has c i BadCall h = none_but_kinds f c i BadCall (λ e. absurd (cc)) h
faultless f has c i NoFuelMark h = none_but_kinds f c i NoFuelMark (λ e. absurd (cc)) h
faultless f has c i FallsOff h = none_but_kinds f c i FallsOff (λ e. absurd (cc)) h
