-- The fault at a place by its row is that of the least number whose condition holds there.
use Rattle.std.proofs.Common.{◌≡◌, ℕ, ◌+◌, ◌<◌, ◌≤◌, ◌==◌, nat_lt, length, Option, Some, None, Bool, true, false, cond, Contains, refl, sym, ap, ◌∙◌, subst, arith, inl, inr}
use Rattle.std.proofs.lemmas.Bool.{false_from_ne_true, or_cases, or_parts, true≢false, and_parts, eqb-true}
use Rattle.std.proofs.lemmas.Option.{slice_get_within}
use Rattle.ob_code.specs.declared.instruction.Instruction.{Instruction}
use Rattle.ob_verify_spec.specs.declared.CodeFault.{CodeFault}
use Rattle.ob_verify_spec.specs.declared.CodeFault.TheVariants.{BadJump, BadSlot, KindMismatch, BadField, BadCall, FallsOff, NoFuelMark}
use Rattle.ob_verify_spec.specs.Frames.{CodeFrame}
use Rattle.ob_verify_spec.specs.Instructions.{needs}
use Rattle.ob_verify_spec.specs.Conditions.{bad_jump, lacks_slots, names_bad_slot, bad_slot, bad_field, bad_call, no_fuel_mark}
use Rattle.ob_verify_spec.specs.Ways.{IsAt, Breaks, Holds, number_of}
use Rattle.ob_verify_spec.specs.Passing.{KindRow, mismatched, fault_at, end_with, fault_at_end}
use Rattle.ob_verify_spec.proofs.Naming.{names_no_bad_slot}
use Rattle.ob_verify_spec.proofs.Pass.{same_at, AgreesAt}
use Rattle.ob_verify_spec.proofs.Needs.{mismatch_here, no_mismatch_here}

-- No condition of a number below one holds, from those before it.

-- the conditions at a place that don't hold, up to a number
abbrev NoneBelow : CodeFrame → ℕ → ℕ → Type 0
NoneBelow f i n = (fault : CodeFault) → number_of fault < n → ¬ (Holds f i fault)

none_below_jump : (f : CodeFrame) (i : ℕ) → NoneBelow f i 511
none_below_jump f i BadJump lt = absurd (omega arith)
none_below_jump f i BadSlot lt = absurd (omega arith)
none_below_jump f i KindMismatch lt = absurd (omega arith)
none_below_jump f i BadField lt = absurd (omega arith)
none_below_jump f i BadCall lt = absurd (omega arith)
none_below_jump f i FallsOff lt = absurd (omega arith)
none_below_jump f i NoFuelMark lt = absurd (omega arith)

none_below_slot : (f : CodeFrame) (i : ℕ) → NoneBelow f i 511 → ¬ (Holds f i BadJump) → NoneBelow f i 512
none_below_slot f i before n BadJump lt = n
none_below_slot f i before n BadSlot lt = absurd (omega arith)
none_below_slot f i before n KindMismatch lt = absurd (omega arith)
none_below_slot f i before n BadField lt = absurd (omega arith)
none_below_slot f i before n BadCall lt = absurd (omega arith)
none_below_slot f i before n FallsOff lt = absurd (omega arith)
none_below_slot f i before n NoFuelMark lt = absurd (omega arith)

none_below_kind : (f : CodeFrame) (i : ℕ) → NoneBelow f i 512 → ¬ (Holds f i BadSlot) → NoneBelow f i 513
none_below_kind f i before n BadJump lt = before BadJump (omega arith)
none_below_kind f i before n BadSlot lt = n
none_below_kind f i before n KindMismatch lt = absurd (omega arith)
none_below_kind f i before n BadField lt = absurd (omega arith)
none_below_kind f i before n BadCall lt = absurd (omega arith)
none_below_kind f i before n FallsOff lt = absurd (omega arith)
none_below_kind f i before n NoFuelMark lt = absurd (omega arith)

none_below_field : (f : CodeFrame) (i : ℕ) → NoneBelow f i 513 → ¬ (Holds f i KindMismatch) → NoneBelow f i 514
none_below_field f i before n BadJump lt = before BadJump (omega arith)
none_below_field f i before n BadSlot lt = before BadSlot (omega arith)
none_below_field f i before n KindMismatch lt = n
none_below_field f i before n BadField lt = absurd (omega arith)
none_below_field f i before n BadCall lt = absurd (omega arith)
none_below_field f i before n FallsOff lt = absurd (omega arith)
none_below_field f i before n NoFuelMark lt = absurd (omega arith)

none_below_call : (f : CodeFrame) (i : ℕ) → NoneBelow f i 514 → ¬ (Holds f i BadField) → NoneBelow f i 515
none_below_call f i before n BadJump lt = before BadJump (omega arith)
none_below_call f i before n BadSlot lt = before BadSlot (omega arith)
none_below_call f i before n KindMismatch lt = before KindMismatch (omega arith)
none_below_call f i before n BadField lt = n
none_below_call f i before n BadCall lt = absurd (omega arith)
none_below_call f i before n FallsOff lt = absurd (omega arith)
none_below_call f i before n NoFuelMark lt = absurd (omega arith)

none_below_end : (f : CodeFrame) (i : ℕ) → NoneBelow f i 515 → ¬ (Holds f i BadCall) → NoneBelow f i 516
none_below_end f i before n BadJump lt = before BadJump (omega arith)
none_below_end f i before n BadSlot lt = before BadSlot (omega arith)
none_below_end f i before n KindMismatch lt = before KindMismatch (omega arith)
none_below_end f i before n BadField lt = before BadField (omega arith)
none_below_end f i before n BadCall lt = n
none_below_end f i before n FallsOff lt = absurd (omega arith)
none_below_end f i before n NoFuelMark lt = absurd (omega arith)

none_below_mark : (f : CodeFrame) (i : ℕ) → NoneBelow f i 516 → ¬ (Holds f i FallsOff) → NoneBelow f i 517
none_below_mark f i before n BadJump lt = before BadJump (omega arith)
none_below_mark f i before n BadSlot lt = before BadSlot (omega arith)
none_below_mark f i before n KindMismatch lt = before KindMismatch (omega arith)
none_below_mark f i before n BadField lt = before BadField (omega arith)
none_below_mark f i before n BadCall lt = before BadCall (omega arith)
none_below_mark f i before n FallsOff lt = n
none_below_mark f i before n NoFuelMark lt = absurd (omega arith)

none_at_all : (f : CodeFrame) (i : ℕ) → NoneBelow f i 517 → ¬ (Holds f i NoFuelMark) → (fault : CodeFault) → ¬ (Holds f i fault)
none_at_all f i before n BadJump = before BadJump (omega arith)
none_at_all f i before n BadSlot = before BadSlot (omega arith)
none_at_all f i before n KindMismatch = before KindMismatch (omega arith)
none_at_all f i before n BadField = before BadField (omega arith)
none_at_all f i before n BadCall = before BadCall (omega arith)
none_at_all f i before n FallsOff = before FallsOff (omega arith)
none_at_all f i before n NoFuelMark = n

-- what a fault, or none, tells of a place
abbrev pub Tells : CodeFrame → ℕ → Option CodeFault → Type 0
Tells f i None = (fault : CodeFault) → ¬ (Holds f i fault)
Tells f i (Some fault) = Holds f i fault × NoneBelow f i (number_of fault)

-- At an instruction.

unbroken : (f : CodeFrame) (i : ℕ) (x : Instruction) (test : Instruction → Bool) → IsAt f i x → test x ≡ false → ¬ (Breaks f i test)
unbroken f i x test at e h = true≢false (sym h.so ∙ ap test (same_at f i h.instruction x h.at at) ∙ e)

slot_holds : (f : CodeFrame) (i : ℕ) (x : Instruction) → IsAt f i x → bad_slot f i x ≡ true → Holds f i BadSlot
slot_holds f i x at e = elim (or_cases (lacks_slots f i) (names_bad_slot f x) e) [ inl h ↦ inl h | inr h ↦ inr (record { instruction = x; at = at; so = h }) ]

no_slot : (f : CodeFrame) (i : ℕ) (x : Instruction) → IsAt f i x → bad_slot f i x ≡ false → ¬ (Holds f i BadSlot)
no_slot f i x at e (inl h) = true≢false (sym h ∙ (or_parts (lacks_slots f i) (names_bad_slot f x) e).0)
no_slot f i x at e (inr h) = unbroken f i x (names_bad_slot f) at (or_parts (lacks_slots f i) (names_bad_slot f x) e).1 h

no_kind : (f : CodeFrame) (i : ℕ) (x : Instruction) (o : Option KindRow) → AgreesAt f i o → IsAt f i x → mismatched f x o ≡ false → ¬ (Holds f i KindMismatch)
no_kind f i x o a at e h = no_mismatch_here f i x o a e h.need (subst (λ z. Contains (needs f z) h.need) (same_at f i h.instruction x h.at at) h.needed) h.so

no_end : (f : CodeFrame) (i : ℕ) (x : Instruction) → IsAt f i x → ¬ (Holds f i FallsOff)
no_end f i x at h = let lt : i < length f.body.instructions = slice_get_within f.body.instructions i x at in let e : i ≡ length f.body.instructions = h.0 in omega arith

-- what the tests give from one on
abbrev from_mark : CodeFrame → ℕ → Instruction → Option CodeFault
from_mark f i x = cond (no_fuel_mark f i x) (Some NoFuelMark) None

abbrev from_call : CodeFrame → ℕ → Instruction → Option CodeFault
from_call f i x = cond (bad_call f x) (Some BadCall) (from_mark f i x)

abbrev from_field : CodeFrame → ℕ → Instruction → Option CodeFault
from_field f i x = cond (bad_field f x) (Some BadField) (from_call f i x)

abbrev from_kind : CodeFrame → ℕ → Instruction → Option KindRow → Option CodeFault
from_kind f i x o = cond (mismatched f x o) (Some KindMismatch) (from_field f i x)

abbrev from_slot : CodeFrame → ℕ → Instruction → Option KindRow → Option CodeFault
from_slot f i x o = cond (bad_slot f i x) (Some BadSlot) (from_kind f i x o)

tells_mark : (f : CodeFrame) (i : ℕ) (x : Instruction) → IsAt f i x → NoneBelow f i 517 → (c : Bool) → no_fuel_mark f i x ≡ c → Tells f i (cond c (Some NoFuelMark) None)
tells_mark f i x at before true e = (record { instruction = x; at = at; so = e }, before)
tells_mark f i x at before false e = none_at_all f i before (unbroken f i x (no_fuel_mark f i) at e)

tells_call : (f : CodeFrame) (i : ℕ) (x : Instruction) → IsAt f i x → NoneBelow f i 515 → (c : Bool) → bad_call f x ≡ c → Tells f i (cond c (Some BadCall) (from_mark f i x))
tells_call f i x at before true e = (record { instruction = x; at = at; so = e }, before)
tells_call f i x at before false e = tells_mark f i x at (none_below_mark f i (none_below_end f i before (unbroken f i x (bad_call f) at e)) (no_end f i x at)) (no_fuel_mark f i x) refl

tells_field : (f : CodeFrame) (i : ℕ) (x : Instruction) → IsAt f i x → NoneBelow f i 514 → (c : Bool) → bad_field f x ≡ c → Tells f i (cond c (Some BadField) (from_call f i x))
tells_field f i x at before true e = (record { instruction = x; at = at; so = e }, before)
tells_field f i x at before false e = tells_call f i x at (none_below_call f i before (unbroken f i x (bad_field f) at e)) (bad_call f x) refl

tells_kind : (f : CodeFrame) (i : ℕ) (x : Instruction) (o : Option KindRow) → AgreesAt f i o → IsAt f i x → bad_slot f i x ≡ false → NoneBelow f i 513 → (c : Bool) → mismatched f x o ≡ c
    → Tells f i (cond c (Some KindMismatch) (from_field f i x))
tells_kind f i x o a at s before true e = let h = mismatch_here f i x o a (names_no_bad_slot f i x s) e in (record { instruction = x; at = at; need = h.0; needed = h.1; so = h.2 }, before)
tells_kind f i x o a at s before false e = tells_field f i x at (none_below_field f i before (no_kind f i x o a at e)) (bad_field f x) refl

tells_slot : (f : CodeFrame) (i : ℕ) (x : Instruction) (o : Option KindRow) → AgreesAt f i o → IsAt f i x → NoneBelow f i 512 → (c : Bool) → bad_slot f i x ≡ c
    → Tells f i (cond c (Some BadSlot) (from_kind f i x o))
tells_slot f i x o a at before true e = (slot_holds f i x at e, before)
tells_slot f i x o a at before false e = tells_kind f i x o a at e (none_below_kind f i before (no_slot f i x at e)) (mismatched f x o) refl

tells_jump : (f : CodeFrame) (i : ℕ) (x : Instruction) (o : Option KindRow) → AgreesAt f i o → IsAt f i x → (c : Bool) → bad_jump f x ≡ c → Tells f i (cond c (Some BadJump) (from_slot f i x o))
tells_jump f i x o a at true e = (record { instruction = x; at = at; so = e }, none_below_jump f i)
tells_jump f i x o a at false e = tells_slot f i x o a at (none_below_slot f i (none_below_jump f i) (unbroken f i x (bad_jump f) at e)) (bad_slot f i x) refl

pub tells : (f : CodeFrame) (i : ℕ) (x : Instruction) (o : Option KindRow) → AgreesAt f i o → IsAt f i x → Tells f i (fault_at f i x o)
tells f i x o a at = tells_jump f i x o a at (bad_jump f x) refl

-- At the end of the body, and behind it.

none_there : (f : CodeFrame) (i : ℕ) (test : Instruction → Bool) → length f.body.instructions ≤ i → ¬ (Breaks f i test)
none_there f i test le h = let lt : i < length f.body.instructions = slice_get_within f.body.instructions i h.instruction h.at in omega arith

no_kind_there : (f : CodeFrame) (i : ℕ) → length f.body.instructions ≤ i → ¬ (Holds f i KindMismatch)
no_kind_there f i le h = let lt : i < length f.body.instructions = slice_get_within f.body.instructions i h.instruction h.at in omega arith

enough_there : (f : CodeFrame) (i : ℕ) → length f.body.instructions ≤ i → lacks_slots f i ≡ false → ¬ (Holds f i BadSlot)
enough_there f i le e (inl h) = true≢false (sym h ∙ e)
enough_there f i le e (inr h) = none_there f i (names_bad_slot f) le h

none_there_below : (f : CodeFrame) (i : ℕ) → length f.body.instructions ≤ i → lacks_slots f i ≡ false → NoneBelow f i 516
none_there_below f i le e =
    none_below_end f i (none_below_call f i (none_below_field f i (none_below_kind f i (none_below_slot f i (none_below_jump f i)
    (none_there f i (bad_jump f) le)) (enough_there f i le e)) (no_kind_there f i le)) (none_there f i (bad_field f) le)) (none_there f i (bad_call f) le)

no_more : (f : CodeFrame) (i : ℕ) → length f.body.instructions ≤ i → lacks_slots f i ≡ false → ¬ (Holds f i FallsOff) → (fault : CodeFault) → ¬ (Holds f i fault)
no_more f i le e n = none_at_all f i (none_below_mark f i (none_there_below f i le e) n) (none_there f i (no_fuel_mark f i) le)

enough : (f : CodeFrame) (i : ℕ) → 0 < i → lacks_slots f i ≡ false
enough f i lt = false_from_ne_true (lacks_slots f i) (λ h. let e : i ≡ 0 = eqb-true i 0 (and_parts (i == 0) (nat_lt f.body.slots (length f.body.params + 1)) h).0 in omega arith)

tells_end_with : (f : CodeFrame) (i : ℕ) (o : Option KindRow) → AgreesAt f i o → i ≡ length f.body.instructions → lacks_slots f i ≡ false → Tells f i (end_with o)
tells_end_with f i None a at e = no_more f i (omega arith) e (λ h. a h.1)
tells_end_with f i (Some r) a at e = ((at, a.good.reached), none_there_below f i (omega arith) e)

tells_end_of : (f : CodeFrame) (i : ℕ) (o : Option KindRow) → AgreesAt f i o → i ≡ length f.body.instructions → (c : Bool) → lacks_slots f i ≡ c → Tells f i (cond c (Some BadSlot) (end_with o))
tells_end_of f i o a at true e = (inl e, none_below_slot f i (none_below_jump f i) (none_there f i (bad_jump f) (omega arith)))
tells_end_of f i o a at false e = tells_end_with f i o a at e

pub tells_end : (f : CodeFrame) (i : ℕ) (o : Option KindRow) → AgreesAt f i o → i ≡ length f.body.instructions → Tells f i (fault_at_end f i o)
tells_end f i o a at = tells_end_of f i o a at (lacks_slots f i) refl

pub none_past_end : (f : CodeFrame) (i : ℕ) → length f.body.instructions < i → (fault : CodeFault) → ¬ (Holds f i fault)
none_past_end f i lt = no_more f i (omega arith) (enough f i (omega arith)) (λ h. let e : i ≡ length f.body.instructions = h.0 in omega arith)
