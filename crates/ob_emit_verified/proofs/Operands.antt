-- Operands in code: fields are loaded, and each operand is then read from a slot of which its kind is known.
use Rattle.std.proofs.Common.{◌≡◌, ◌≢◌, ℕ, ◌+◌, ◌<◌, ◌≤◌, List, [], ◌∷◌, length, Option, Some, None, Bool, true, false, nat_lt, ◌==◌, Contains, refl, sym, ap, ◌∙◌, subst, arith, inl, inr}
use Rattle.std.specs.Prelude.{⊤, is_some, option_map}
use Rattle.std.specs.List.{list_all}
use Rattle.std.specs.Option.{option_map_or}
use Rattle.std.proofs.lemmas.Bool.{true≢false, lt-ltb, ltb-true}
use Rattle.std.proofs.lemmas.Bool.Decides.{eqb_tells}
use Rattle.std.proofs.Math.Nat.{le-max_left, le-max_right}
use Rattle.ob_base.specs.declared.id.FieldId.{FieldId}
use Rattle.ob_table.specs.Tables.{field_at}
use Rattle.ob_table.specs.declared.contract.Field.{Field}
use Rattle.ob_table.specs.declared.seen.Kind.{Kind}
use Rattle.ob_table.specs.declared.seen.Kind.TheVariants as kind
use Rattle.ob_table_spec.specs.WellFormed.{StaticFrame, kind_of_resolved}
use Rattle.ob_silica.specs.Slots.{slots_of_place, slots_of_operand, slots_of_operands}
use Rattle.ob_silica.specs.declared.place.Operand.{Operand}
use Rattle.ob_silica.specs.declared.place.Place.{Place}
use Rattle.ob_silica.specs.declared.place.Place.TheVariants.{This, Slot, Field as FieldPlace}
use Rattle.ob_silica_formed.specs.Holdings.{Holdings, held, with_slot, kind_of_place, kind_of_operand}
use Rattle.ob_silica_formed.specs.Points.{IsPlace, ArePlaces}
use Rattle.ob_code.specs.declared.instruction.Instruction.{Instruction}
use Rattle.ob_code.specs.declared.instruction.Instruction.TheVariants as is
use Rattle.ob_verify_spec.specs.Frames.{CodeFrame, kind_of_field}
use Rattle.ob_verify_spec.specs.Instructions.{KindsOfSlots, reads, slot_set as slot_set_by, Need, meets, set_slot}
use Rattle.ob_verify_spec.specs.Conditions.{may_set, names_bad_slot}
use Rattle.ob_verify_spec.proofs.Cells.{none_some}
use Rattle.ob_verify_spec.proofs.Listed.{not_empty, cases}
use Rattle.ob_emit_spec.specs.Operands.{slot_read, load, slots_read, loads, scratch_slots, all_scratch_slots}
use Rattle.ob_verify_spec.proofs.Fitting.{fits_self}
use Rattle.ob_emit_verified.proofs.Flows.{Serves, Fit, fit_self, IsSound, IsCertified, certified_none, certified_one, certified_both}
use Rattle.ob_emit_spec.specs.Emission.{EmissionFrame}
use Rattle.ob_emit_verified.proofs.Saying.{Says}

-- Slots.

abbrev pub if_below : Bool → Option Kind → Option Kind
if_below true x = x
if_below false x = None

-- what is known where slots hold this: of the slots of the terms, and of no other
abbrev pub known_of : ℕ → Holdings → KindsOfSlots
known_of scratch h = λ k. if_below (nat_lt k scratch) (h k).kind

-- of the slots of the terms what these holdings say is known
abbrev pub KnowsBelow : ℕ → Holdings → KindsOfSlots → Type 0
KnowsBelow scratch h known = (k : ℕ) → k < scratch → known k ≡ (h k).kind

pub knows_itself : (scratch : ℕ) (h : Holdings) → KnowsBelow scratch h (known_of scratch h)
knows_itself scratch h k lt = ap (λ b. if_below b (h k).kind) (lt-ltb k scratch lt)

below_some : (scratch k : ℕ) (b : Bool) (x : Option Kind) (y : Kind) → nat_lt k scratch ≡ b → if_below b x ≡ Some y
    → (k < scratch) × (x ≡ Some y)
below_some scratch k true x y e g = (ltb-true k scratch e, g)
below_some scratch k false x y e g = absurd (none_some g)

-- what these holdings say is known where slots hold more
pub known_fits : (c : CodeFrame) (scratch : ℕ) (h : Holdings) (known : KindsOfSlots)
    → ((k : ℕ) (x : Kind) → k < scratch → (h k).kind ≡ Some x → (y : Kind) × (known k ≡ Some y) × Serves c.image y x)
    → Fit c.image (known_of scratch h) known
known_fits c scratch h known each k x e = let p = below_some scratch k (nat_lt k scratch) (h k).kind x refl e in each k x p.0 p.1

pub below_fits : (c : CodeFrame) (scratch : ℕ) (h : Holdings) (known : KindsOfSlots) → KnowsBelow scratch h known
    → Fit c.image (known_of scratch h) known
below_fits c scratch h known below = known_fits c scratch h known (λ k x lt e. (x, below k lt ∙ e, fits_self c.image x))

-- after a slot was set, what the holdings say of it serves
pub set_fits : (c : CodeFrame) (scratch k : ℕ) (h : Holdings) (left given : Option Kind) (known : KindsOfSlots)
    → KnowsBelow scratch h known
    → ((x : Kind) → left ≡ Some x → (y : Kind) × (given ≡ Some y) × Serves c.image y x)
    → Fit c.image (known_of scratch (with_slot k (held left) h)) (set_slot k given known)
set_fits c scratch k h left given known below one = known_fits c scratch (with_slot k (held left) h) (set_slot k given known) each
  where
    each : (j : ℕ) (x : Kind) → j < scratch → (with_slot k (held left) h j).kind ≡ Some x
        → (y : Kind) × (set_slot k given known j ≡ Some y) × Serves c.image y x
    each j x lt e = elim (eqb_tells j k) [
      | inl u ↦ let g = one x (rw u.0 at e) in (g.0, rw u.0 g.1, g.2)
      | inr u ↦ let g : (h j).kind ≡ Some x = rw u.0 at e in (x, rw u.0 (below j lt ∙ g), fits_self c.image x)
    ]

-- after a slot was dropped
pub drop_fits : (c : CodeFrame) (scratch k : ℕ) (h : Holdings) (known : KindsOfSlots) → KnowsBelow scratch h known
    → Fit c.image (known_of scratch (with_slot k (held None) h)) known
drop_fits c scratch k h known below = known_fits c scratch (with_slot k (held None) h) known each
  where
    each : (j : ℕ) (x : Kind) → j < scratch → (with_slot k (held None) h j).kind ≡ Some x
        → (y : Kind) × (known j ≡ Some y) × Serves c.image y x
    each j x lt e = elim (eqb_tells j k) [
      | inl u ↦ absurd (none_some (rw u.0 at e))
      | inr u ↦ let g : (h j).kind ≡ Some x = rw u.0 at e in (x, below j lt ∙ g, fits_self c.image x)
    ]

-- Bodies.

-- the code of a body with this frame is in this body of the image
pub record IsCodeOf (c : CodeFrame) (f : EmissionFrame) : Type 0 where
  pub says : Says f.static c
  pub first : 0 < f.scratch
  pub few : f.scratch ≤ 128
  pub within : f.scratch ≤ c.body.slots
  pub result : f.static.result ≡ option_map kind_of_resolved f.signature.result

-- slot 0 holds `this`
abbrev pub HoldsThis : EmissionFrame → Holdings → Type 0
HoldsThis f h = (h 0).kind ≡ Some (kind.Reference f.static.here)

-- Instructions that name no bad slot.

pub past_zero : (k : ℕ) → 0 < k → (k == 0) ≡ false
past_zero k lt = elim (eqb_tells k 0) [ inl u ↦ let e : k ≡ 0 = u.1 in absurd (omega arith) | inr u ↦ u.0 ]

pub may_set_so : (c : CodeFrame) (k : ℕ) → 0 < k → k < c.body.slots → may_set c k ≡ true
may_set_so c k lt below = rw (past_zero k lt, lt-ltb k c.body.slots below) refl

pub good_slots : (c : CodeFrame) (x : Instruction) → list_all (λ (k : ℕ). nat_lt k c.body.slots) (reads x) ≡ true
    → option_map_or (may_set c) (slot_set_by x) true ≡ true
    → names_bad_slot c x ≡ false
good_slots c x e g = rw (e, g) refl

pub one_read : (c : CodeFrame) (k : ℕ) → k < c.body.slots → list_all (λ (j : ℕ). nat_lt j c.body.slots) (k ∷ []) ≡ true
one_read c k lt = rw (lt-ltb k c.body.slots lt) refl

-- Needs.

pub none_needed : (c : CodeFrame) (known : KindsOfSlots) (n : Need) → Contains [] n → meets c.image known n ≡ true
none_needed c known n d = absurd (not_empty n d)

pub more_needed : (c : CodeFrame) (known : KindsOfSlots) (n : Need) (rest : List Need) → meets c.image known n ≡ true
    → ((m : Need) → Contains rest m → meets c.image known m ≡ true) → (m : Need) → Contains (n ∷ rest) m → meets c.image known m ≡ true
more_needed c known n rest first others m d = elim (cases n m rest d) [ inl e ↦ subst (λ z. meets c.image known z ≡ true) e first | inr h ↦ others m h ]

pub one_needed : (c : CodeFrame) (known : KindsOfSlots) (n : Need) → meets c.image known n ≡ true → (m : Need)
    → Contains (n ∷ []) m → meets c.image known m ≡ true
one_needed c known n first = more_needed c known n [] first (none_needed c known)

-- Loads.

-- an operand is read from a slot of the body, of which its kind is known
pub record IsReadFrom (c : CodeFrame) (f : StaticFrame) (h : Holdings) (known : KindsOfSlots) (k : ℕ) (o : Operand) : Type 0 where
  pub within : k < c.body.slots
  pub kind : (x : Kind) → kind_of_operand f h o ≡ Some x → known k ≡ Some x

-- the same of operands, of which the first has this number
abbrev pub AreReadFrom : CodeFrame → EmissionFrame → Holdings → KindsOfSlots → ℕ → List Operand → Type 0
AreReadFrom c f h known n [] = ⊤
AreReadFrom c f h known n (o ∷ os) = IsReadFrom c f.static h known (slot_read f.scratch n o.place) o × AreReadFrom c f h known (n + 1) os

-- one place is loaded, if it is a field
record LoadedOne (c : CodeFrame) (f : EmissionFrame) (h : Holdings) (at n : ℕ) (place : Place) (known : KindsOfSlots) : Type 0 where
  after : KindsOfSlots
  code : IsCertified c at (load f.scratch n place) known false after
  earlier : (j : ℕ) → j < f.scratch + n → after j ≡ known j
  within : slot_read f.scratch n place < c.body.slots
  early : slot_read f.scratch n place < f.scratch + (n + 1)
  kind : (x : Kind) → kind_of_place f.static h place ≡ Some x → after (slot_read f.scratch n place) ≡ Some x

pub is_there : {A : Type 0} (o : Option A) → is_some o ≡ true → (x : A) × (o ≡ Some x)
is_there None e = absurd (true≢false (sym e))
is_there (Some x) e = (x, refl)

pub sound_load : (c : CodeFrame) (known : KindsOfSlots) (k : ℕ) (id : FieldId) → 0 < k → k < c.body.slots
    → id.0 < length c.own.fields → IsSound c known (is.Load k id)
sound_load c known k id lt below within = record {
  slots = good_slots c (is.Load k id) refl (may_set_so c k lt below);
  fields = rw (lt-ltb id.0 (length c.own.fields) within) refl;
  calls = refl;
  met = none_needed c known;
}

set_at : (k : ℕ) (given : Option Kind) (known : KindsOfSlots) → set_slot k given known k ≡ given
set_at k given known = elim (eqb_tells k k) [ inl u ↦ rw u.0 refl | inr u ↦ absurd (u.1 refl) ]

set_past : (k j : ℕ) (given : Option Kind) (known : KindsOfSlots) → j ≢ k → set_slot k given known j ≡ known j
set_past k j given known ne = elim (eqb_tells j k) [ inl u ↦ absurd (ne u.1) | inr u ↦ rw u.0 refl ]

load_one : (c : CodeFrame) (f : EmissionFrame) → IsCodeOf c f → (h : Holdings) → HoldsThis f h
    → (at n : ℕ) (place : Place) (known : KindsOfSlots)
    → IsPlace f.static place → slots_of_place place ≤ f.scratch → f.scratch + scratch_slots n place ≤ c.body.slots → KnowsBelow f.scratch h known
    → LoadedOne c f h at n place known
load_one c f of h this at n This known there low room below = record {
  after = known;
  code = certified_none c of.says.alone at known known (fit_self c.image known);
  earlier = λ j lt. refl;
  within = let a = of.first in let b = of.within in omega arith;
  early = let a = of.first in omega arith;
  kind = λ x e. below 0 of.first ∙ this ∙ e;
}
load_one c f of h this at n (Slot k) known there low room below = let lt : k < f.scratch = omega arith in record {
  after = known;
  code = certified_none c of.says.alone at known known (fit_self c.image known);
  earlier = λ j l. refl;
  within = let b = of.within in omega arith;
  early = omega arith;
  kind = λ x e. below k lt ∙ e;
}
load_one c f of h this at n (FieldPlace id) known there low room below =
    let field = is_there (field_at f.static.own id) there in
    let in_image = of.says.field id field.0 field.1 in
    let a = of.first in
    let low : f.scratch + n < c.body.slots = omega arith in
    record {
      after = set_slot (f.scratch + n) (kind_of_field c id.0) known;
      code = certified_one c at (is.Load (f.scratch + n) id) known (refl, λ i. refl) (sound_load c known (f.scratch + n) id (omega arith) low in_image.within);
      earlier = λ j lt. set_past (f.scratch + n) j (kind_of_field c id.0) known (λ e. absurd (omega arith));
      within = low;
      early = omega arith;
      kind = λ x e. set_at (f.scratch + n) (kind_of_field c id.0) known ∙ in_image.kind
          ∙ sym (ap (option_map (λ (z : Field). kind_of_resolved z.of)) field.1) ∙ e;
    }

-- operands of which the first has this number are loaded, as far as they are fields
pub record Loaded (c : CodeFrame) (f : EmissionFrame) (h : Holdings) (at n : ℕ) (os : List Operand) (known : KindsOfSlots) : Type 0 where
  pub after : KindsOfSlots
  pub code : IsCertified c at (loads f.scratch n os) known false after
  pub earlier : (j : ℕ) → j < f.scratch + n → after j ≡ known j
  pub read : AreReadFrom c f h after n os

-- operands are places of the body, and there are scratch slots for them
pub record HaveRoom (c : CodeFrame) (f : EmissionFrame) (n : ℕ) (os : List Operand) : Type 0 where
  pub places : ArePlaces f.static os
  pub low : slots_of_operands os ≤ f.scratch
  pub room : f.scratch + all_scratch_slots n os ≤ c.body.slots

pub first_room : (c : CodeFrame) (f : EmissionFrame) (n : ℕ) (o : Operand) (os : List Operand) → HaveRoom c f n (o ∷ os)
    → (slots_of_place o.place ≤ f.scratch) × (f.scratch + scratch_slots n o.place ≤ c.body.slots)
first_room c f n o os h =
    let a = le-max_left (slots_of_operand o) (slots_of_operands os) in
    let b = le-max_left (scratch_slots n o.place) (all_scratch_slots (n + 1) os) in
    let p = h.low in
    let q = h.room in
    (omega arith, omega arith)

pub next_room : (c : CodeFrame) (f : EmissionFrame) (n : ℕ) (o : Operand) (os : List Operand) → HaveRoom c f n (o ∷ os)
    → HaveRoom c f (n + 1) os
next_room c f n o os h =
    let a = le-max_right (slots_of_operand o) (slots_of_operands os) in
    let b = le-max_right (scratch_slots n o.place) (all_scratch_slots (n + 1) os) in
    let p = h.low in
    let q = h.room in
    record { places = h.places.1; low = omega arith; room = omega arith }

pub load_all : (c : CodeFrame) (f : EmissionFrame) → IsCodeOf c f → (h : Holdings) → HoldsThis f h
    → (at n : ℕ) (os : List Operand) (known : KindsOfSlots)
    → HaveRoom c f n os → KnowsBelow f.scratch h known → Loaded c f h at n os known
load_all c f of h this at n [] known room below = record {
  after = known;
  code = certified_none c of.says.alone at known known (fit_self c.image known);
  earlier = λ j lt. refl;
  read = tt;
}
load_all c f of h this at n (o ∷ os) known room below =
    let bounds = first_room c f n o os room in
    let one = load_one c f of h this at n o.place known room.places.0 bounds.0 bounds.1 below in
    let still : KnowsBelow f.scratch h one.after = λ k lt. one.earlier k (omega arith) ∙ below k lt in
    let rest = load_all c f of h this (at + length (load f.scratch n o.place)) (n + 1) os one.after (next_room c f n o os room) still in
    record {
      after = rest.after;
      code = certified_both c at (load f.scratch n o.place) (loads f.scratch (n + 1) os) known one.after rest.after false one.code rest.code;
      earlier = λ j lt. rest.earlier j (omega arith) ∙ one.earlier j lt;
      read = (record { within = one.within; kind = λ x e. rest.earlier (slot_read f.scratch n o.place) one.early ∙ one.kind x e }, rest.read);
    }

-- what is known after the loads of a form's operands says of the slots of the terms the same as before
pub still_below : (c : CodeFrame) (f : EmissionFrame) (h : Holdings) (at n : ℕ) (os : List Operand) (known : KindsOfSlots)
    → KnowsBelow f.scratch h known
    → (l : Loaded c f h at n os known) → KnowsBelow f.scratch h l.after
still_below c f h at n os known below l k lt = l.earlier k (omega arith) ∙ below k lt

pub all_read : (c : CodeFrame) (f : EmissionFrame) (h : Holdings) (known : KindsOfSlots) (n : ℕ) (os : List Operand)
    → AreReadFrom c f h known n os
    → list_all (λ (j : ℕ). nat_lt j c.body.slots) (slots_read f.scratch n os) ≡ true
all_read c f h known n [] r = refl
all_read c f h known n (o ∷ os) r = rw (lt-ltb (slot_read f.scratch n o.place) c.body.slots r.0.within, all_read c f h known (n + 1) os r.1) refl
