-- The first fault that the pass finds is the first of the conditions.
use Rattle.std.proofs.Common.{◌≡◌, ◌≢◌, ℕ, ◌+◌, ◌<◌, ◌≤◌, List, [], ◌∷◌, length, Option, Some, None, sym, subst, arith, ◌⊎◌, inl, inr}
use Rattle.std.proofs.lemmas.Bool.Decides.{eqb_tells}
use Rattle.ob_code.specs.declared.instruction.Instruction.{Instruction}
use Rattle.ob_verify_spec.specs.declared.CodeFault.{CodeFault}
use Rattle.ob_verify_spec.specs.Frames.{CodeFrame}
use Rattle.ob_verify_spec.specs.Ways.{Holds, number_of, IsFaultless, IsFirstFault}
use Rattle.ob_verify_spec.specs.Passing.{held_at, KindRows, passed, fault_at, fault_at_end, FaultAt, found, first_fault_from, known_rows, first_fault}
use Rattle.ob_verify_spec.proofs.Pass.{Rest, whole, rest_next, rest_at, rows_at, next_at, AreKnown, agrees_at}
use Rattle.ob_verify_spec.proofs.Passes.{rows_known}
use Rattle.ob_verify_spec.proofs.Faults.{Tells, tells, tells_end, none_past_end}

-- what the first fault from a place on tells
pub record FirstFrom (f : CodeFrame) (low i : ℕ) (fault : CodeFault) : Type 0 where
  pub holds : Holds f i fault
  pub least : (other : CodeFault) → number_of other < number_of fault → ¬ (Holds f i other)
  pub first : (j : ℕ) (other : CodeFault) → low ≤ j → j < i → ¬ (Holds f j other)

abbrev pub TellsFrom : CodeFrame → ℕ → Option FaultAt → Type 0
TellsFrom f low None = (j : ℕ) (fault : CodeFault) → low ≤ j → ¬ (Holds f j fault)
TellsFrom f low (Some x) = FirstFrom f low x.instruction x.fault

here_or_past : (i j : ℕ) → i ≤ j → (j ≡ i) ⊎ (i + 1 ≤ j)
here_or_past i j le = elim (eqb_tells j i) [ inl u ↦ inl u.1 | inr u ↦ let n : j ≢ i = u.1 in inr (omega arith) ]

found_tells : (f : CodeFrame) (i : ℕ) (o : Option CodeFault) (rest : Option FaultAt) → Tells f i o → TellsFrom f (i + 1) rest → TellsFrom f i (found i o rest)
found_tells f i (Some fault) rest w r = record { holds = w.0; least = w.1; first = λ j other le lt. absurd (omega arith) }
found_tells f i None None w r = λ j fault le. elim (here_or_past i j le) [ inl e ↦ subst (λ z. ¬ (Holds f z fault)) (sym e) (w fault) | inr g ↦ r j fault g ]
found_tells f i None (Some x) w r = record {
  holds = r.holds;
  least = r.least;
  first = λ j other le lt. elim (here_or_past i j le) [ inl e ↦ subst (λ z. ¬ (Holds f z other)) (sym e) (w other) | inr g ↦ r.first j other g lt ];
}

first_tells : (f : CodeFrame) (t : KindRows) (i : ℕ) (xs : List Instruction) → AreKnown f t → Rest f i xs → TellsFrom f i (first_fault_from f i xs (rows_at f t i))
first_tells f t i [] known h =
    let e : i + 0 ≡ length f.body.instructions = h.long in
    found_tells f i (fault_at_end f i (held_at (rows_at f t i) i)) None (tells_end f i (held_at (rows_at f t i) i) (agrees_at f i t known) (omega arith))
    (λ j fault le. none_past_end f j (omega arith) fault)
first_tells f t i (x ∷ xs) known h =
    let at = rest_at f i x xs h in
    let rest : TellsFrom f (i + 1) (first_fault_from f (i + 1) xs (passed f i x (rows_at f t i))) =
    subst (λ z. TellsFrom f (i + 1) (first_fault_from f (i + 1) xs z)) (next_at f t i x at) (first_tells f t (i + 1) xs known (rest_next f i x xs h)) in
    found_tells f i (fault_at f i x (held_at (rows_at f t i) i)) (first_fault_from f (i + 1) xs (passed f i x (rows_at f t i)))
    (tells f i x (held_at (rows_at f t i) i) (agrees_at f i t known) at) rest

all_tells : (f : CodeFrame) → TellsFrom f 0 (first_fault f)
all_tells f = first_tells f (known_rows f) 0 f.body.instructions (rows_known f) (whole f)

-- none is found
pub none_found : (f : CodeFrame) → first_fault f ≡ None → IsFaultless f
none_found f e i fault = let h : TellsFrom f 0 None = subst (TellsFrom f 0) e (all_tells f) in h i fault (omega arith)

-- one is found
pub one_found : (f : CodeFrame) (x : FaultAt) → first_fault f ≡ Some x → IsFirstFault f x.instruction x.fault
one_found f x e = let h : TellsFrom f 0 (Some x) = subst (TellsFrom f 0) e (all_tells f) in record { holds = h.holds; least = h.least; first = λ j other lt. h.first j other (omega arith) lt }
