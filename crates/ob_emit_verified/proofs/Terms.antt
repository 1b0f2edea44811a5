-- The code of well-formed terms is certified.
use Rattle.std.proofs.Common.{◌≡◌, ℕ, ◌+◌, ◌<◌, ◌≤◌, List, [], ◌∷◌, ◌++◌, length, Option, Some, None, Bool, true, false, not, ◌&&◌, ◌||◌, slice_get, refl, sym, ap, ◌∙◌, subst, arith, inl, inr}
use Rattle.std.specs.Prelude.{⊤, IsSomeAnd, IfSome, max}
use Rattle.std.proofs.lemmas.Bool.{true≢false, not-true}
use Rattle.std.proofs.lemmas.Bool.Decides.{eqb_tells}
use Rattle.std.proofs.lemmas.List.{append-nil}
use Rattle.std.proofs.Math.Nat.{le-max_left, le-max_right, max-le}
use Rattle.ob_base.specs.declared.id.ContractId.{ContractId}
use Rattle.ob_base.specs.declared.id.StateId.{StateId}
use Rattle.ob_table.specs.Tables.{contract_at, signature_of}
use Rattle.ob_table.specs.declared.seen.Kind.{Kind}
use Rattle.ob_table.specs.declared.seen.Kind.TheVariants as kind
use Rattle.ob_table_spec.specs.WellFormed.{StaticFrame, RefersTo, serves_as}
use Rattle.ob_silica.specs.Slots.{slots_of_operand, slots_of_operands, slots_of_given, slots_of_result, slots_of_form, slots_of_terms}
use Rattle.ob_silica.specs.Terms.{SilicaForm, unit_form, const_form, op_form, copy_form, move_form, new_form, call_form, call_this_form, change_form, test_form, if_form, loop_form, assert_form, disown_form, drop_form, return_form, revert_form, bad_row_form, SilicaTerms, no_terms, and_term}
use Rattle.ob_silica.specs.declared.place.Given.{Given}
use Rattle.ob_silica.specs.declared.place.Operand.{Operand}
use Rattle.ob_silica.specs.declared.place.Place.TheVariants.{This, Slot, Field as FieldPlace}
use Rattle.ob_silica_formed.specs.Holdings.{SlotContent, Holdings, with_slot_if, kind_of_operand, slot_written, kind_written, written, held, joined, form_ends, terms_end, after_form, after_terms, at_head, EachWithin, Each}
use Rattle.ob_silica_formed.specs.Points.{ArePlaces, AreFields, HasKind, HasKinds, BeginsWithUnit, NoneFollows, NoneFollowsWithin}
use Rattle.ob_coherent_spec.proofs.Heads.{turn_holds}
use Rattle.ob_coherent_spec.specs.Remaining.{IsWellFormedForm}
use Rattle.ob_places_laws.proofs.Tables.{there_is, if_there_so}
use Rattle.ob_code.specs.declared.instruction.Instruction.{Instruction}
use Rattle.ob_code.specs.declared.instruction.Instruction.TheVariants as is
use Rattle.ob_verify_spec.specs.Frames.{CodeFrame}
use Rattle.ob_verify_spec.specs.Instructions.{KindsOfSlots, of_kind}
use Rattle.ob_verify_spec.proofs.Cells.{none_some, some_same}
use Rattle.ob_verify_spec.proofs.Fitting.{fits_self}
use Rattle.ob_emit_spec.specs.Emission.{EmissionFrame, after_branch, after_load, jumps_over, end_test, contract_referred, choice_code, form_code, terms_code, scratch_of_form, scratch_of_terms}
use Rattle.ob_emit_spec.specs.Operands.{slot_read, loads, all_scratch_slots, values_given}
use Rattle.ob_emit_verified.proofs.Flows.{StandsAt, Serves, Fit, fit_self, IsCertified, certified_none, certified_one, certified_both, certified_before}
use Rattle.ob_emit_verified.proofs.Operands.{known_of, knows_itself, known_fits, below_fits, drop_fits, IsCodeOf, HoldsThis, good_slots, one_read, none_needed, one_needed, HaveRoom, is_there}
use Rattle.ob_emit_verified.proofs.Marks.{kind_met, operand_met, KnowsOperands, operands_known, loaded_then}
use Rattle.ob_emit_verified.proofs.Straight.{IsOwnSlot, max_parts, one_room, certified_constant, certified_operation, certified_fetch, certified_store, certified_store_reference, certified_disown, certified_revert}
use Rattle.ob_emit_verified.proofs.Calls.{certified_new, IsResultSlot, certified_call, certified_call_here, certified_change, certified_return}
use Rattle.ob_emit_verified.proofs.Branches.{common_self, fits_first, certified_tested, Chooses, IsEmpty, certified_branches}
use Rattle.ob_emit_verified.proofs.Turns.{certified_turns}

-- Forms.

-- Slot 0 holds `this` everywhere.

with_other : (f : StaticFrame) (k : Option ℕ) (x : SlotContent) (h : Holdings) → IfSome k (λ n. f.params < n)
    → with_slot_if k x h 0 ≡ h 0
with_other f None x h past = refl
with_other f (Some k) x h past = elim (eqb_tells 0 k) [ inl u ↦ let e : 0 ≡ k = u.1 in absurd (omega (arith, past)) | inr u ↦ rw u.0 refl ]

joined_keeps : (first second : Bool) (a b : Holdings) (x : Kind) → (a 0).kind ≡ Some x → (b 0).kind ≡ Some x
    → (joined first second a b 0).kind ≡ Some x
joined_keeps true second a b x p q = q
joined_keeps false true a b x p q = p
joined_keeps false false a b x p q = common_self (a 0).kind (b 0).kind x p q

written_keeps : (f : StaticFrame) (h : Holdings) (form : SilicaForm) (x : Kind) → IfSome (slot_written form) (λ k. f.params < k)
    → (h 0).kind ≡ Some x
    → (written f form h 0).kind ≡ Some x
written_keeps f h form x past e = ap (λ (z : SlotContent). z.kind) (with_other f (slot_written form) (held (kind_written f h form)) h past) ∙ e

mutual
  -- also from other holdings than those for which the terms are well-formed
  pub form_keeps_this : (f : StaticFrame) (w h : Holdings) (form : SilicaForm) (x : Kind) → IsWellFormedForm f w form
      → EachWithin IsWellFormedForm f w form → (h 0).kind ≡ Some x
      → (after_form f form h 0).kind ≡ Some x
  form_keeps_this f w h (test_form o state branch other join) x formed within e =
      joined_keeps (terms_end branch) (terms_end other) (after_terms f branch h) (after_terms f other h) x (terms_keep_this f w h branch x within.0 e) (terms_keep_this f w h other x within.1 e)
  form_keeps_this f w h (if_form o branch other join) x formed within e =
      joined_keeps (terms_end branch) (terms_end other) (after_terms f branch h) (after_terms f other h) x (terms_keep_this f w h branch x within.0 e) (terms_keep_this f w h other x within.1 e)
  form_keeps_this f w h (loop_form first o body end) x formed within e =
      terms_keep_this f (at_head f first body w) (at_head f first body h) first x within.0
      (joined_keeps false (terms_end body) h (after_terms f body (after_terms f first h)) x e
      (terms_keep_this f (after_terms f first (at_head f first body w)) (after_terms f first h) body x within.1
      (terms_keep_this f (at_head f first body w) h first x within.0 e)))
  form_keeps_this f w h form x formed within e = written_keeps f h form x formed.params e

  pub terms_keep_this : (f : StaticFrame) (w h : Holdings) (terms : SilicaTerms) (x : Kind) → Each IsWellFormedForm f w terms
      → (h 0).kind ≡ Some x
      → (after_terms f terms h 0).kind ≡ Some x
  terms_keep_this f w h no_terms x each e = e
  terms_keep_this f w h (and_term form span rest) x each e =
      terms_keep_this f (after_form f form w) (after_form f form h) rest x each.2 (form_keeps_this f w h form x each.0 each.1 e)

-- Loops.

-- what slots hold at the head of a loop keeps `this`
head_keeps : (f : StaticFrame) (h : Holdings) (first body : SilicaTerms) (x : Kind) → Each IsWellFormedForm f (at_head f first body h) first
    → Each IsWellFormedForm f (after_terms f first (at_head f first body h)) body → (h 0).kind ≡ Some x
    → (at_head f first body h 0).kind ≡ Some x
head_keeps f h first body x one two e =
    joined_keeps false (terms_end body) h (after_terms f body (after_terms f first h)) x e
    (terms_keep_this f (after_terms f first (at_head f first body h)) (after_terms f first h) body x two
    (terms_keep_this f (at_head f first body h) h first x one e))

mutual
  each_kinds : (f : StaticFrame) (h : Holdings) (terms : SilicaTerms) → Each IsWellFormedForm f h terms → Each HasKinds f h terms
  each_kinds f h no_terms each = tt
  each_kinds f h (and_term form span rest) each =
      (each.0.kinds, kinds_within f h form each.1, each_kinds f (after_form f form h) rest each.2)

  kinds_within : (f : StaticFrame) (h : Holdings) (form : SilicaForm) → EachWithin IsWellFormedForm f h form
      → EachWithin HasKinds f h form
  kinds_within f h (test_form o state branch other join) within = (each_kinds f h branch within.0, each_kinds f h other within.1)
  kinds_within f h (if_form o branch other join) within = (each_kinds f h branch within.0, each_kinds f h other within.1)
  kinds_within f h (loop_form first o body end) within =
      (each_kinds f (at_head f first body h) first within.0, each_kinds f (after_terms f first (at_head f first body h)) body within.1)
  kinds_within f h form within = tt

-- where code of terms that begin by taking a unit stands, a `unit` does
begins_with_unit : (code : List Instruction) (f : EmissionFrame) (h : Holdings) (first : SilicaTerms) (at : ℕ) → BeginsWithUnit first
    → StandsAt code at (terms_code f h first at) → slice_get code at ≡ Some is.Unit
begins_with_unit code f h (and_term unit_form span rest) at begins s = s.0
begins_with_unit code f h no_terms at begins s = absurd begins
begins_with_unit code f h (and_term form span rest) at begins s = absurd begins

-- Bounds.

-- the slots of a form are the body's, and there are scratch slots for it
pub record HasRoom (c : CodeFrame) (f : EmissionFrame) (slots scratch : ℕ) : Type 0 where
  pub low : slots ≤ f.scratch
  pub room : f.scratch + scratch ≤ c.body.slots

own_slot : (f : EmissionFrame) (params k : ℕ) → params < k → k + 1 ≤ f.scratch → IsOwnSlot f k
own_slot f params k past low = record { past = omega arith; low = omega arith }

own_result : (f : EmissionFrame) (params : ℕ) (k : Option ℕ) → IfSome k (λ n. params < n) → slots_of_result k ≤ f.scratch
    → IsResultSlot f k
own_result f params None past low = tt
own_result f params (Some k) past low = own_slot f params k past low

two_low : (a b n : ℕ) → a ≤ n → b ≤ n → max a (max b 0) ≤ n
two_low a b n p q = let none : 0 ≤ n = omega arith in max-le p (max-le q none)

given_places : (f : StaticFrame) (given : List Given) → AreFields f given → ArePlaces f (values_given given)
given_places f [] fields = tt
given_places f (g ∷ gs) fields = (fields.1, given_places f gs fields.2)

given_low : (given : List Given) → slots_of_operands (values_given given) ≡ slots_of_given given
given_low [] = refl
given_low (g ∷ gs) = ap (max (slots_of_operand g.from)) (given_low gs)

scratch_parts : (c : CodeFrame) (f : EmissionFrame) (a b : ℕ) → f.scratch + max a b ≤ c.body.slots
    → (f.scratch + a ≤ c.body.slots) × (f.scratch + b ≤ c.body.slots)
scratch_parts c f a b le = let p = le-max_left a b in let q = le-max_right a b in (omega arith, omega arith)

test_room : (c : CodeFrame) (f : EmissionFrame) (o : Operand) (branch other : SilicaTerms)
    → f.scratch + max (all_scratch_slots 0 (o ∷ [])) (max (scratch_of_terms branch) (scratch_of_terms other)) ≤ c.body.slots
    → (f.scratch + all_scratch_slots 0 (o ∷ []) ≤ c.body.slots) × (f.scratch + scratch_of_terms branch ≤ c.body.slots) × (f.scratch + scratch_of_terms other ≤ c.body.slots)
test_room c f o branch other le =
    let p = scratch_parts c f (all_scratch_slots 0 (o ∷ [])) (max (scratch_of_terms branch) (scratch_of_terms other)) le in
    let q = scratch_parts c f (scratch_of_terms branch) (scratch_of_terms other) p.1 in
    (p.0, q.0, q.1)

rest_room : (c : CodeFrame) (f : EmissionFrame) (form : SilicaForm) (rest : SilicaTerms)
    → HasRoom c f (max (slots_of_form form) (slots_of_terms rest)) (max (scratch_of_form form) (scratch_of_terms rest))
    → HasRoom c f (slots_of_form form) (scratch_of_form form) × HasRoom c f (slots_of_terms rest) (scratch_of_terms rest)
rest_room c f form rest room =
    let low = max_parts (slots_of_form form) (slots_of_terms rest) f.scratch room.low in
    let more = scratch_parts c f (scratch_of_form form) (scratch_of_terms rest) room.room in
    (record { low = low.0; room = more.0 }, record { low = low.1; room = more.1 })

-- Choices.

-- a test of a reference chooses
chooses_test : (c : CodeFrame) (f : EmissionFrame) → IsCodeOf c f
    → (h : Holdings) (known : KindsOfSlots) (o : Operand) (state : StateId)
    → IsSomeAnd (kind_of_operand f.static h o) (RefersTo f.static.table (λ own. state.0 < length own.states)) → KnowsOperands c f h (o ∷ []) known
    → Chooses c (λ to. is.Test (slot_read f.scratch 0 o.place) (contract_referred (kind_of_operand f.static h o)) state to) known
chooses_test c f of h known o state refers_to knows =
    let w = there_is (kind_of_operand f.static h o) _ refers_to in
    by_kind w.0 w.1 w.2
  where
    a : ℕ
    a = slot_read f.scratch 0 o.place

    by_kind : (x : Kind) → kind_of_operand f.static h o ≡ Some x → RefersTo f.static.table (λ own. state.0 < length own.states) x
        → Chooses c (λ to. is.Test a (contract_referred (kind_of_operand f.static h o)) state to) known
    by_kind (kind.Reference id) e there =
        let own = there_is (contract_at f.static.table id) _ there in
        subst (λ z. Chooses c (λ to. is.Test a (contract_referred z) state to) known) (sym e)
        (record {
          choice = λ to. record { target = refl; leads_to = λ i. refl; keeps_all = refl };
          sound = λ to. record {
            slots = good_slots c (is.Test a id state to) (one_read c a knows.read.0.within) refl;
            fields = refl;
            calls = ap not (of.says.tested id own.0 state own.1 own.2);
            met = one_needed c known (of_kind a (kind.Reference id)) (kind_met c known a (kind.Reference id) (kind.Reference id) (knows.read.0.kind (kind.Reference id) e) (fits_self c.image (kind.Reference id)));
          };
        })
    by_kind kind.Int e there = absurd there
    by_kind kind.Bool e there = absurd there
    by_kind kind.Text e there = absurd there

-- a test of a truth value chooses
chooses_if : (c : CodeFrame) (f : EmissionFrame) → IsCodeOf c f → (h : Holdings) (known : KindsOfSlots) (o : Operand)
    → HasKind f.static h kind.Bool o → KnowsOperands c f h (o ∷ []) known
    → Chooses c (λ to. is.Unless (slot_read f.scratch 0 o.place) to) known
chooses_if c f of h known o has knows =
    let a = slot_read f.scratch 0 o.place in
    record {
      choice = λ to. record { target = refl; leads_to = λ i. refl; keeps_all = refl };
      sound = λ to. record {
        slots = good_slots c (is.Unless a to) (one_read c a knows.read.0.within) refl;
        fields = refl;
        calls = refl;
        met = one_needed c known (of_kind a kind.Bool) (operand_met c f of h known a kind.Bool o has knows.read.0);
      };
    }

over_reached : (branch other : SilicaTerms) → jumps_over branch other ≡ true → terms_end branch ≡ false
over_reached branch no_terms e = absurd (true≢false (sym e))
over_reached branch (and_term form span rest) e = not-true (terms_end branch) e

no_other : (f : EmissionFrame) (h : Holdings) (branch other : SilicaTerms) → jumps_over branch other ≡ false
    → terms_end branch ≡ false
    → IsEmpty h (after_terms f.static other h) (λ to. terms_code f h other to) (terms_end other)
no_other f h branch no_terms e g = record { none = λ at. refl; reached = refl; same = refl }
no_other f h branch (and_term form span rest) e g = absurd (true≢false (sym (ap not g) ∙ e))

-- Lists of terms.

or_none : (b : Bool) → b || false ≡ b
or_none true = refl
or_none false = refl

-- a form and the terms after it, of which there are none where its end is never reached
then_rest : (c : CodeFrame) (f : EmissionFrame) (h : Holdings) (at : ℕ) (form : SilicaForm) (rest : SilicaTerms) (b : Bool)
    → form_ends form ≡ b
    → (form_ends form ≡ true → rest ≡ no_terms)
    → IsCertified c at (form_code f h form at) (known_of f.scratch h) (form_ends form) (known_of f.scratch (after_form f.static form h))
    → IsCertified c (at + length (form_code f h form at)) (terms_code f (after_form f.static form h) rest (at + length (form_code f h form at)))
    (known_of f.scratch (after_form f.static form h)) (terms_end rest) (known_of f.scratch (after_terms f.static rest (after_form f.static form h)))
    → IsCertified c at (form_code f h form at ++ terms_code f (after_form f.static form h) rest (at + length (form_code f h form at))) (known_of f.scratch h) (form_ends form || terms_end rest)
    (known_of f.scratch (after_terms f.static rest (after_form f.static form h)))
then_rest c f h at form rest true e follows first second =
    let code = form_code f h form at in
    let next = after_form f.static form h in
    subst (λ (z : SilicaTerms). IsCertified c at (code ++ terms_code f next z (at + length code)) (known_of f.scratch h) (form_ends form || terms_end z) (known_of f.scratch (after_terms f.static z next)))
    (sym (follows e))
    (subst (λ z. IsCertified c at (code ++ []) (known_of f.scratch h) z (known_of f.scratch next)) (sym (or_none (form_ends form)))
    (subst (λ z. IsCertified c at z (known_of f.scratch h) (form_ends form) (known_of f.scratch next)) (sym (append-nil code)) first))
then_rest c f h at form rest false e follows first second =
    let code = form_code f h form at in
    let next = after_form f.static form h in
    subst (λ z. IsCertified c at (code ++ terms_code f next rest (at + length code)) (known_of f.scratch h) (z || terms_end rest) (known_of f.scratch (after_terms f.static rest next))) (sym e)
    (certified_both c at code (terms_code f next rest (at + length code)) (known_of f.scratch h) (known_of f.scratch next) (known_of f.scratch (after_terms f.static rest next)) (terms_end rest)
    (subst (λ z. IsCertified c at code (known_of f.scratch h) z (known_of f.scratch next)) e first) second)

-- Moves.

-- what is moved serves as the slot's contract
moved_serves : (c : CodeFrame) (f : EmissionFrame) → IsCodeOf c f → (x : Kind) (contract : ContractId)
    → serves_as f.static.table (kind.Reference contract) x ≡ true
    → (y : Kind) → ◌≡◌ {A = Option Kind} (Some (kind.Reference contract)) (Some y) → Serves c.image x y
moved_serves c f of x contract serves y e = subst (λ z. Serves c.image x z) (some_same e) (of.says.serves (kind.Reference contract) x serves)

no_code : (c : CodeFrame) (f : EmissionFrame) → IsCodeOf c f → (h : Holdings) (at : ℕ)
    → IsCertified c at [] (known_of f.scratch h) false (known_of f.scratch h)
no_code c f of h at = certified_none c of.says.alone at (known_of f.scratch h) (known_of f.scratch h) (fit_self c.image (known_of f.scratch h))

-- a form has no branches and is no loop
abbrev IsStraight : SilicaForm → Type 0
IsStraight (test_form o state branch other join) = ⊥
IsStraight (if_form o branch other join) = ⊥
IsStraight (loop_form first o body end) = ⊥
IsStraight form = ⊤

-- a form without branches
straight : (c : CodeFrame) (f : EmissionFrame) → IsCodeOf c f → (h : Holdings) → HoldsThis f h → (form : SilicaForm) (at : ℕ)
    → IsWellFormedForm f.static h form
    → HasRoom c f (slots_of_form form) (scratch_of_form form) → IsStraight form
    → IsCertified c at (form_code f h form at) (known_of f.scratch h) (form_ends form) (known_of f.scratch (after_form f.static form h))
straight c f of h this unit_form at formed room is_straight =
    certified_one c at is.Unit (known_of f.scratch h) (refl, λ i. refl) (record { slots = refl; fields = refl; calls = refl; met = none_needed c (known_of f.scratch h) })
straight c f of h this (const_form k value) at formed room is_straight = certified_constant c f of h at k (own_slot f f.static.params k formed.params room.low) value
straight c f of h this (op_form k o a b line) at formed room is_straight =
    let low = max_parts (k + 1) (max (slots_of_operand a) (slots_of_operand b)) f.scratch room.low in
    let both = max_parts (slots_of_operand a) (slots_of_operand b) f.scratch low.1 in
    certified_operation c f of h this at k (own_slot f f.static.params k formed.params low.0) o a b line formed.kinds
    (record { places = (formed.numbers.0, (formed.numbers.1, tt)); low = two_low (slots_of_operand a) (slots_of_operand b) f.scratch both.0 both.1; room = room.room })
straight c f of h this (copy_form This from) at formed room is_straight = absurd (let past : f.static.params < 0 = formed.params in omega (arith, past))
straight c f of h this (copy_form (Slot k) from) at formed room is_straight =
    let low = max_parts (k + 1) (slots_of_operand from) f.scratch room.low in
    let w = there_is (kind_of_operand f.static h from) _ formed.kinds.0 in
    certified_fetch c f of h this at k (own_slot f f.static.params k formed.params low.0) from.place w.0 (kind_of_operand f.static h from) formed.numbers.1 low.1 w.1
    (λ y e. subst (λ z. Serves c.image w.0 z) (some_same (sym w.1 ∙ e)) (fits_self c.image w.0))
straight c f of h this (copy_form (FieldPlace id) from) at formed room is_straight =
    let low = max_parts 0 (slots_of_operand from) f.scratch room.low in
    certified_store c f of h this at id from formed.numbers.0 formed.kinds.1 (one_room c f from formed.numbers.1 low.1 room.room)
straight c f of h this (move_form This from contract) at formed room is_straight = absurd (let past : f.static.params < 0 = formed.params in omega (arith, past))
straight c f of h this (move_form (Slot k) from None) at formed room is_straight = absurd formed.kinds.1
straight c f of h this (move_form (Slot k) from (Some contract)) at formed room is_straight =
    let low = max_parts (k + 1) (slots_of_operand from) f.scratch room.low in
    let w = there_is (kind_of_operand f.static h from) _ formed.kinds.1 in
    certified_fetch c f of h this at k (own_slot f f.static.params k formed.params low.0) from.place w.0 (Some (kind.Reference contract)) formed.numbers.1 low.1 w.1
    (moved_serves c f of w.0 contract w.2)
straight c f of h this (move_form (FieldPlace id) from None) at formed room is_straight =
    let low = max_parts 0 (slots_of_operand from) f.scratch room.low in
    certified_store_reference c f of h this at id from formed.numbers.0 formed.kinds.1 (one_room c f from formed.numbers.1 low.1 room.room)
straight c f of h this (move_form (FieldPlace id) from (Some contract)) at formed room is_straight = absurd formed.kinds.1
straight c f of h this (new_form k contract args) at formed room is_straight =
    let low = max_parts (k + 1) (slots_of_operands args) f.scratch room.low in
    let own = is_there (contract_at f.static.table contract) formed.numbers.0 in
    let plain = if_there_so (contract_at f.static.table contract) _ own.0 own.1 formed.bodies in
    certified_new c f of h this at k (own_slot f f.static.params k formed.params low.0) contract args (of.says.made contract own.0 own.1 plain) formed.kinds
    (record { places = formed.numbers.1; low = low.1; room = room.room })
straight c f of h this (call_form k receiver contract tx args) at formed room is_straight =
    let low = max_parts (slots_of_result k) (max (slots_of_operand receiver) (slots_of_operands args)) f.scratch room.low in
    let s = is_there (signature_of f.static.table contract tx) formed.numbers.0 in
    certified_call c f of h this at k receiver contract tx args (record {
      signature = s.0;
      there = s.1;
      called = of.says.called contract tx s.0 s.1 formed.bodies.1;
      receives = formed.kinds.0;
      passed = if_there_so (signature_of f.static.table contract tx) _ s.0 s.1 formed.kinds.1;
      results = if_there_so (signature_of f.static.table contract tx) _ s.0 s.1 formed.results;
      slot = own_result f f.static.params k formed.params low.0;
    }) (record { places = (formed.numbers.1, formed.numbers.2); low = low.1; room = room.room })
straight c f of h this (call_this_form k tx args) at formed room is_straight =
    let low = max_parts (slots_of_result k) (slots_of_operands args) f.scratch room.low in
    let s = is_there (signature_of f.static.table f.static.here tx) formed.numbers.0 in
    certified_call_here c f of h this at k tx args (record {
      signature = s.0;
      there = s.1;
      called = of.says.called_here tx s.0 s.1 formed.bodies;
      passed = if_there_so (signature_of f.static.table f.static.here tx) _ s.0 s.1 formed.kinds;
      results = if_there_so (signature_of f.static.table f.static.here tx) _ s.0 s.1 formed.results;
      slot = own_result f f.static.params k formed.params low.0;
    }) (record { places = formed.numbers.1; low = low.1; room = room.room })
straight c f of h this (change_form state given) at formed room is_straight =
    certified_change c f of h this at state given formed.numbers.0 formed.numbers.1 formed.kinds.0
    (record { places = given_places f.static given formed.numbers.1; low = subst (λ z. z ≤ f.scratch) (sym (given_low given)) room.low; room = room.room })
straight c f of h this (test_form o state branch other join) at formed room is_straight = absurd is_straight
straight c f of h this (if_form o branch other join) at formed room is_straight = absurd is_straight
straight c f of h this (loop_form first o body end) at formed room is_straight = absurd is_straight
straight c f of h this (assert_form o perm) at formed room is_straight = no_code c f of h at
straight c f of h this (disown_form o) at formed room is_straight = certified_disown c f of h this at o formed.kinds (one_room c f o formed.numbers room.low room.room)
straight c f of h this (drop_form k) at formed room is_straight =
    certified_none c of.says.alone at (known_of f.scratch h) (known_of f.scratch (with_slot_if (Some k) (held None) h)) (drop_fits c f.scratch k h (known_of f.scratch h) (knows_itself f.scratch h))
straight c f of h this (return_form None) at formed room is_straight = certified_return c f of h h this at None formed.returns (λ o e. absurd (none_some e))
straight c f of h this (return_form (Some o)) at formed room is_straight =
    certified_return c f of h h this at (Some o) formed.returns
    (λ p e. subst (λ (z : Operand). HaveRoom c f 0 (z ∷ [])) (some_same e) (one_room c f o formed.numbers room.low room.room))
straight c f of h this (revert_form o) at formed room is_straight = certified_revert c f of h h this at o formed.kinds (one_room c f o formed.numbers room.low room.room)
straight c f of h this bad_row_form at formed room is_straight = no_code c f of h at

-- What is known at the head of a loop is known before it, and after a turn.

head_fits : (c : CodeFrame) (scratch : ℕ) (e : Bool) (h u : Holdings) → Fit c.image (known_of scratch (joined false e h u)) (known_of scratch h)
head_fits c scratch true h u = fit_self c.image (known_of scratch h)
head_fits c scratch false h u = fits_first c scratch h u

turn_fits : (c : CodeFrame) (f : EmissionFrame) (h : Holdings) (first body : SilicaTerms)
    → Each HasKinds f.static (at_head f.static first body h) first
    → Each HasKinds f.static (after_terms f.static first (at_head f.static first body h)) body → terms_end body ≡ false
    → Fit c.image (known_of f.scratch (at_head f.static first body h))
    (known_of f.scratch (after_terms f.static body (after_terms f.static first (at_head f.static first body h))))
turn_fits c f h first body one two e =
    let head = at_head f.static first body h in
    let turned = after_terms f.static body (after_terms f.static first head) in
    known_fits c f.scratch head (known_of f.scratch turned)
    (λ k x lt known. (x, knows_itself f.scratch turned k lt ∙ (turn_holds f.static first body h one two e k).kind x known, fits_self c.image x))

-- Forms and terms.

mutual
  pub certified_form : (c : CodeFrame) (f : EmissionFrame) → IsCodeOf c f → (h : Holdings) → HoldsThis f h
      → (form : SilicaForm) (at : ℕ) → IsWellFormedForm f.static h form
      → EachWithin IsWellFormedForm f.static h form → HasRoom c f (slots_of_form form) (scratch_of_form form) → NoneFollowsWithin form
      → IsCertified c at (form_code f h form at) (known_of f.scratch h) (form_ends form) (known_of f.scratch (after_form f.static form h))
  certified_form c f of h this (test_form o state branch other join) at formed within room follows =
      let low = max_parts (slots_of_operand o) (max (slots_of_terms branch) (slots_of_terms other)) f.scratch room.low in
      let low_both = max_parts (slots_of_terms branch) (slots_of_terms other) f.scratch low.1 in
      let more = test_room c f o branch other room.room in
      loaded_then c f of h (joined (terms_end branch) (terms_end other) (after_terms f.static branch h) (after_terms f.static other h)) this at (o ∷ [])
      (choice_code (after_load f o at) (λ to. is.Test (slot_read f.scratch 0 o.place) (contract_referred (kind_of_operand f.static h o)) state to) (jumps_over branch other)
      (terms_code f h branch (after_load f o at + 1) ++ end_test branch)
      (terms_code f h other (after_branch (after_load f o at + 1) (terms_code f h branch (after_load f o at + 1) ++ end_test branch) (jumps_over branch other))))
      (terms_end branch && terms_end other) (one_room c f o formed.numbers.0 low.0 more.0)
      (λ known knows. certified_branches c f of h (after_terms f.static branch h) (after_terms f.static other h) (after_load f o at)
      (λ to. is.Test (slot_read f.scratch 0 o.place) (contract_referred (kind_of_operand f.static h o)) state to)
      (terms_code f h branch (after_load f o at + 1) ++ end_test branch) (λ to. terms_code f h other to) known (jumps_over branch other) (terms_end branch) (terms_end other)
      (over_reached branch other) (no_other f h branch other) (chooses_test c f of h known o state formed.numbers.1 knows) (below_fits c f.scratch h known knows.below)
      (certified_tested c (after_load f o at + 1) (terms_code f h branch (after_load f o at + 1)) (known_of f.scratch h) (known_of f.scratch (after_terms f.static branch h)) (terms_end branch)
      (certified_terms c f of h this branch (after_load f o at + 1) within.0 (record { low = low_both.0; room = more.1 }) follows.0))
      (λ to. certified_terms c f of h this other to within.1 (record { low = low_both.1; room = more.2 }) follows.1))
  certified_form c f of h this (if_form o branch other join) at formed within room follows =
      let low = max_parts (slots_of_operand o) (max (slots_of_terms branch) (slots_of_terms other)) f.scratch room.low in
      let low_both = max_parts (slots_of_terms branch) (slots_of_terms other) f.scratch low.1 in
      let more = test_room c f o branch other room.room in
      loaded_then c f of h (joined (terms_end branch) (terms_end other) (after_terms f.static branch h) (after_terms f.static other h)) this at (o ∷ [])
      (choice_code (after_load f o at) (λ to. is.Unless (slot_read f.scratch 0 o.place) to) (jumps_over branch other)
      (terms_code f h branch (after_load f o at + 1))
      (terms_code f h other (after_branch (after_load f o at + 1) (terms_code f h branch (after_load f o at + 1)) (jumps_over branch other))))
      (terms_end branch && terms_end other) (one_room c f o formed.numbers low.0 more.0)
      (λ known knows. certified_branches c f of h (after_terms f.static branch h) (after_terms f.static other h) (after_load f o at) (λ to. is.Unless (slot_read f.scratch 0 o.place) to)
      (terms_code f h branch (after_load f o at + 1)) (λ to. terms_code f h other to) known (jumps_over branch other) (terms_end branch) (terms_end other)
      (over_reached branch other) (no_other f h branch other) (chooses_if c f of h known o formed.kinds knows) (below_fits c f.scratch h known knows.below)
      (certified_terms c f of h this branch (after_load f o at + 1) within.0 (record { low = low_both.0; room = more.1 }) follows.0)
      (λ to. certified_terms c f of h this other to within.1 (record { low = low_both.1; room = more.2 }) follows.1))
  certified_form c f of h this unit_form at formed within room follows = straight c f of h this unit_form at formed room tt
  certified_form c f of h this (const_form k value) at formed within room follows = straight c f of h this (const_form k value) at formed room tt
  certified_form c f of h this (op_form k o a b line) at formed within room follows = straight c f of h this (op_form k o a b line) at formed room tt
  certified_form c f of h this (copy_form to from) at formed within room follows = straight c f of h this (copy_form to from) at formed room tt
  certified_form c f of h this (move_form to from contract) at formed within room follows = straight c f of h this (move_form to from contract) at formed room tt
  certified_form c f of h this (new_form k contract args) at formed within room follows = straight c f of h this (new_form k contract args) at formed room tt
  certified_form c f of h this (call_form k receiver contract tx args) at formed within room follows = straight c f of h this (call_form k receiver contract tx args) at formed room tt
  certified_form c f of h this (call_this_form k tx args) at formed within room follows = straight c f of h this (call_this_form k tx args) at formed room tt
  certified_form c f of h this (change_form state given) at formed within room follows = straight c f of h this (change_form state given) at formed room tt
  certified_form c f of h this (loop_form first o body end) at formed within room follows =
      let low = max_parts (slots_of_terms first) (max (slots_of_operand o) (slots_of_terms body)) f.scratch room.low in
      let low_both = max_parts (slots_of_operand o) (slots_of_terms body) f.scratch low.1 in
      let more = test_room c f o first body room.room in
      let head = at_head f.static first body h in
      let inside = after_terms f.static first head in
      let this_head = head_keeps f.static h first body (kind.Reference f.static.here) within.0 within.1 this in
      let this_inside = terms_keep_this f.static head head first (kind.Reference f.static.here) within.0 this_head in
      let one = certified_terms c f of head this_head first at within.0 (record { low = low.0; room = more.1 }) follows.0 in
      let loaded = operands_known c f of inside this_inside (at + length (terms_code f head first at)) (o ∷ []) (one_room c f o formed.numbers low_both.0 more.0) in
      let place = after_load f o (at + length (terms_code f head first at)) in
      let two = certified_terms c f of inside this_inside body (place + 1) within.1 (record { low = low_both.1; room = more.2 }) follows.1 in
      let chooses = chooses_if c f of inside loaded.0.after o formed.kinds loaded.1 in
      let exit = after_branch (place + 1) (terms_code f inside body (place + 1)) (not (terms_end body)) in
      certified_before c of.says.alone at (form_code f h (loop_form first o body end) at) (known_of f.scratch head) (known_of f.scratch h) (known_of f.scratch inside) false
      (head_fits c f.scratch (terms_end body) h (after_terms f.static body (after_terms f.static first h)))
      (certified_turns c of.says.alone at (terms_code f head first at) (loads f.scratch 0 (o ∷ [])) (terms_code f inside body (place + 1))
      (slot_read f.scratch 0 o.place) (known_of f.scratch head) (known_of f.scratch inside) loaded.0.after (known_of f.scratch inside)
      (known_of f.scratch (after_terms f.static body inside)) (terms_end body)
      (chooses.choice exit) (chooses.sound exit) (below_fits c f.scratch inside loaded.0.after loaded.1.below) (below_fits c f.scratch inside loaded.0.after loaded.1.below)
      (λ e. turn_fits c f h first body (each_kinds f.static head first within.0) (each_kinds f.static inside body within.1) e)
      (λ s. begins_with_unit c.body.instructions f head first at formed.turns.0 s)
      (subst (λ z. IsCertified c at (terms_code f head first at) (known_of f.scratch head) z (known_of f.scratch inside)) formed.turns.1 one)
      loaded.0.code two)
  certified_form c f of h this (assert_form o perm) at formed within room follows = straight c f of h this (assert_form o perm) at formed room tt
  certified_form c f of h this (disown_form o) at formed within room follows = straight c f of h this (disown_form o) at formed room tt
  certified_form c f of h this (drop_form k) at formed within room follows = straight c f of h this (drop_form k) at formed room tt
  certified_form c f of h this (return_form value) at formed within room follows = straight c f of h this (return_form value) at formed room tt
  certified_form c f of h this (revert_form o) at formed within room follows = straight c f of h this (revert_form o) at formed room tt
  certified_form c f of h this bad_row_form at formed within room follows = straight c f of h this bad_row_form at formed room tt

  pub certified_terms : (c : CodeFrame) (f : EmissionFrame) → IsCodeOf c f → (h : Holdings) → HoldsThis f h
      → (terms : SilicaTerms) (at : ℕ) → Each IsWellFormedForm f.static h terms
      → HasRoom c f (slots_of_terms terms) (scratch_of_terms terms) → NoneFollows terms
      → IsCertified c at (terms_code f h terms at) (known_of f.scratch h) (terms_end terms) (known_of f.scratch (after_terms f.static terms h))
  certified_terms c f of h this no_terms at each room follows = no_code c f of h at
  certified_terms c f of h this (and_term form span rest) at each room follows =
      let more = rest_room c f form rest room in
      then_rest c f h at form rest (form_ends form) refl follows.0
      (certified_form c f of h this form at each.0 each.1 more.0 follows.1)
      (certified_terms c f of (after_form f.static form h) (form_keeps_this f.static h h form (kind.Reference f.static.here) each.0 each.1 this) rest
      (at + length (form_code f h form at)) each.2 more.1 follows.2)
