-- Each body has slot kinds, and no others: those by the rows of the pass.
use Rattle.std.proofs.Common.{◌≡◌, ◌↔◌, ℕ, ◌+◌, ◌<◌, ◌≤◌, length, Option, Some, None, option_map, refl, sym, ap, ◌∙◌, subst, arith, inl, inr}
use Rattle.std.proofs.lemmas.Option.{slice_get_within, slice_get_cases}
use Rattle.ob_table.specs.declared.seen.Kind.{Kind}
use Rattle.ob_code.specs.declared.instruction.Instruction.{Instruction}
use Rattle.ob_verify_spec.specs.Kinds.{BelongsTo}
use Rattle.ob_verify_spec.specs.Frames.{CodeFrame}
use Rattle.ob_verify_spec.specs.Instructions.{KindsOfSlots}
use Rattle.ob_verify_spec.specs.Ways.{IsAt, Way, start, step, IsFaultless}
use Rattle.ob_verify_spec.specs.Verified.{HoldsOnAllWays, IsKnown, AreSlotKinds, IsVerifiedBody}
use Rattle.ob_verify_spec.specs.Passing.{held_at, KindRow, known_rows, first_fault}
use Rattle.ob_verify_spec.proofs.Cells.{some_same, none_some}
use Rattle.ob_verify_spec.proofs.Meeting.{HoldsOne, Two, both_least, belongs_back}
use Rattle.ob_verify_spec.proofs.Rows.{OnSomeWay}
use Rattle.ob_verify_spec.proofs.Naming.{goes_jump, leads_within}
use Rattle.ob_verify_spec.proofs.Pass.{rows_at, Agrees, AgreesAt, agrees_at}
use Rattle.ob_verify_spec.proofs.Passes.{rows_known}
use Rattle.ob_verify_spec.proofs.Verdict.{none_found}

-- a place within the body has an instruction
pub at_within : (f : CodeFrame) (i : ℕ) → i < length f.body.instructions → (x : Instruction) × IsAt f i x
at_within f i lt = elim (slice_get_cases f.body.instructions i).1 [
  | inl w ↦ (w.0, w.2)
  | inr w ↦ let le : length f.body.instructions ≤ i = w.0 in absurd (omega arith)
]

-- each way leads to a place of the body, or its end
pub reached_within : (f : CodeFrame) (i : ℕ) (s : KindsOfSlots) → Way f i s → i ≤ length f.body.instructions
reached_within f i s start = omega arith
reached_within f i s (step {i = h} x j w at so c) =
    let lt : j < length f.body.instructions + 1 = leads_within f h x j (slice_get_within f.body.instructions h x at) (goes_jump f h x so) c in omega arith

-- the row of each place, or none
pub row_at : (f : CodeFrame) (i : ℕ) → (o : Option KindRow) × AgreesAt f i o
row_at f i = (held_at (rows_at f (known_rows f) i) i, agrees_at f i (known_rows f) (rows_known f))

abbrev slots_of : Option KindRow → Option KindsOfSlots
slots_of o = option_map (λ r. held_at r) o

row_there : (o : Option KindRow) (s : KindsOfSlots) → slots_of o ≡ Some s → (r : KindRow) × (o ≡ Some r) × (held_at r ≡ s)
row_there None s e = absurd (none_some e)
row_there (Some r) s e = (r, refl, some_same e)

no_row : (o : Option KindRow) → slots_of o ≡ None → o ≡ None
no_row None e = refl
no_row (Some r) e = absurd (none_some (sym e))

-- what all ways hold belongs to a kind, so does what is known of two
pub two_least : (f : CodeFrame) (i k : ℕ) (r : Option Kind) (x : Kind) → Two f.image (OnSomeWay f i k) r → HoldsOnAllWays f i k x → HoldsOne f.image r x
two_least f i k r x (o, p, (s, w, e), (t, v, g), h) all =
    both_least f.image o p r x h (subst (λ z. HoldsOne f.image z x) e (all s w)) (subst (λ z. HoldsOne f.image z x) g (all t v))

known_by : (f : CodeFrame) (i k : ℕ) (x : Kind) (r : KindRow) → Agrees f i r → k < f.body.slots → held_at r k ≡ Some x → IsKnown f i k x
known_by f i k x r a lt e = record {
  each = λ s w. (a.all s w).keeps k x e;
  least = λ y all. let h = two_least f i k (held_at r k) y (a.good.two k lt) all in subst (λ z. BelongsTo f.image z y) (some_same (sym h.1 ∙ e)) h.2;
}

holds_by : (f : CodeFrame) (i k : ℕ) (x : Kind) (r : KindRow) → Agrees f i r → k < f.body.slots → IsKnown f i k x → held_at r k ≡ Some x
holds_by f i k x r a lt known =
    let h = two_least f i k (held_at r k) x (a.good.two k lt) known.each in
    let own = known_by f i k h.0 r a lt h.1 in
    h.1 ∙ ap Some (belongs_back f.image h.0 x h.2 (known.least h.0 own.each))

pub held_by : (f : CodeFrame) (i k : ℕ) (x : Kind) (r : KindRow) → Agrees f i r → k < f.body.slots → (held_at r k ≡ Some x) ↔ IsKnown f i k x
held_by f i k x r a lt = (known_by f i k x r a lt, holds_by f i k x r a lt)

-- what the row of a place tells of the kinds there
pub slot_kinds : (f : CodeFrame) → (kinds : ℕ → Option KindsOfSlots) × AreSlotKinds f kinds
slot_kinds f = (
  λ i. slots_of (row_at f i).0,
  record {
    unreached = λ i e. let h : AgreesAt f i None = subst (AgreesAt f i) (no_row (row_at f i).0 e) (row_at f i).1 in h;
    reached = λ i s e. let r = row_there (row_at f i).0 s e in let h : Agrees f i r.0 = subst (AgreesAt f i) r.1 (row_at f i).1 in h.good.reached;
    held = λ i s k x e lt.
        let r = row_there (row_at f i).0 s e in
        let h : Agrees f i r.0 = subst (AgreesAt f i) r.1 (row_at f i).1 in
        subst (λ (z : KindsOfSlots). (z k ≡ Some x) ↔ IsKnown f i k x) r.2 (held_by f i k x r.0 h lt);
  },
)

pub faultless_verified : (f : CodeFrame) → IsFaultless f → IsVerifiedBody f
faultless_verified f n = record { kinds = (slot_kinds f).0; are_kinds = (slot_kinds f).1; faultless = n }

pub verified : (f : CodeFrame) → first_fault f ≡ None → IsVerifiedBody f
verified f e = faultless_verified f (none_found f e)
