-- The slots with which a run begins from outside, and what they count.
use Rattle.std.proofs.Common.{◌≡◌, ℕ, zero, suc, ◌+◌, ◌<◌, ◌≤◌, List, [], ◌∷◌, length, Some, None, slice_get, refl, ap, ◌∙◌, arith}
use Rattle.std.proofs.lemmas.Option.{none-some, same_Some}
use Rattle.ob_base.specs.Limits.{most_slots}
use Rattle.ob_heap_spec.specs.Values.{Value}
use Rattle.ob_heap_spec.specs.Worlds.{World}
use Rattle.ob_heap_spec.specs.Marks.{comes_into}
use Rattle.ob_silica_places.specs.Known.{at}
use Rattle.ob_silica_places.specs.Parameters.{Parameter}
use Rattle.ob_silica_steps.specs.Configurations.{SlotCells, NextStep}
use Rattle.ob_silica_steps.specs.Binding.{bound_cell}
use Rattle.ob_silica_steps.specs.Starting.{pass_all}
use Rattle.ob_coherent_spec.specs.Counting.{Counted, in_cell, in_slots}
use Rattle.ob_soundness_laws.proofs.counting.Sums.{at_same, at_other}
use Rattle.ob_soundness_laws.proofs.counting.Places.{slots_at}
use Rattle.ob_soundness_laws.proofs.counting.Marking.{Keeps, keeps_all, keeps_then, comes_keeps}

-- the slots once these values have come into parameters from a number on
abbrev pub passed_slots : List Value → ℕ → List Parameter → SlotCells → SlotCells
passed_slots (v ∷ vs) k (p ∷ ps) slots = passed_slots vs (suc k) ps (at slots k (Some (bound_cell p.of v)))
passed_slots vs k ps slots = slots

-- the world then
abbrev pub passed_world : List Value → List Parameter → World → World
passed_world (v ∷ vs) (p ∷ ps) w = passed_world vs ps (comes_into p.of v w)
passed_world vs ps w = w

-- where there are as many of both, they come in
pub passes : (vs : List Value) (k : ℕ) (ps : List Parameter) (slots : SlotCells) (w : World)
    (go : SlotCells → World → NextStep)
    → length vs ≡ length ps → pass_all vs k ps slots w go ≡ go (passed_slots vs k ps slots) (passed_world vs ps w)
passes [] k [] slots w go same = refl
passes [] k (p ∷ ps) slots w go same = absurd (omega arith)
passes (v ∷ vs) k [] slots w go same = absurd (omega arith)
passes (v ∷ vs) k (p ∷ ps) slots w go same =
    passes vs (suc k) ps (at slots k (Some (bound_cell p.of v))) (comes_into p.of v w) go (omega arith)

-- marks alone change
pub passed_keeps : (vs : List Value) (ps : List Parameter) (w : World) → Keeps w (passed_world vs ps w)
passed_keeps [] ps w = keeps_all w w refl refl refl
passed_keeps (v ∷ vs) [] w = keeps_all w w refl refl refl
passed_keeps (v ∷ vs) (p ∷ ps) w = keeps_then w (comes_into p.of v w) (passed_world vs ps (comes_into p.of v w))
    (comes_keeps p.of v w) (passed_keeps vs ps (comes_into p.of v w))

-- slots below the first number stay
pub passed_before : (vs : List Value) (k : ℕ) (ps : List Parameter) (slots : SlotCells) (j : ℕ) → j < k
    → passed_slots vs k ps slots j ≡ slots j
passed_before [] k ps slots j below = refl
passed_before (v ∷ vs) k [] slots j below = refl
passed_before (v ∷ vs) k (p ∷ ps) slots j below =
    passed_before vs (suc k) ps (at slots k (Some (bound_cell p.of v))) j (omega arith)
    ∙ at_other slots k (Some (bound_cell p.of v)) j (λ e. absurd (omega (arith, e)))

-- and so do those past the last
pub passed_after : (vs : List Value) (k : ℕ) (ps : List Parameter) (slots : SlotCells) (j : ℕ) → k + length ps ≤ j
    → passed_slots vs k ps slots j ≡ slots j
passed_after [] k ps slots j past = refl
passed_after (v ∷ vs) k [] slots j past = refl
passed_after (v ∷ vs) k (p ∷ ps) slots j past =
    passed_after vs (suc k) ps (at slots k (Some (bound_cell p.of v))) j (omega arith)
    ∙ at_other slots k (Some (bound_cell p.of v)) j (λ e. absurd (omega (arith, e)))

-- the slot of a parameter has its value
pub passed_at : (vs : List Value) (k : ℕ) (ps : List Parameter) (slots : SlotCells) (i : ℕ) (v : Value) (p : Parameter)
    → slice_get vs i ≡ Some v → slice_get ps i ≡ Some p → passed_slots vs k ps slots (k + i) ≡ Some (bound_cell p.of v)
passed_at [] k ps slots i v p value parameter = absurd (none-some v value)
passed_at (u ∷ vs) k [] slots i v p value parameter = absurd (none-some p parameter)
passed_at (u ∷ vs) k (q ∷ ps) slots zero v p value parameter =
    ap (passed_slots vs (suc k) ps (at slots k (Some (bound_cell q.of u)))) (let e : k + 0 ≡ k = omega arith in e)
    ∙ passed_before vs (suc k) ps (at slots k (Some (bound_cell q.of u))) k (omega arith)
    ∙ at_same slots k (Some (bound_cell q.of u))
    ∙ ap (λ (x : Parameter). Some (bound_cell x.of u)) (same_Some q p parameter)
    ∙ ap (λ (x : Value). Some (bound_cell p.of x)) (same_Some u v value)
passed_at (u ∷ vs) k (q ∷ ps) slots (suc i) v p value parameter =
    ap (passed_slots vs (suc k) ps (at slots k (Some (bound_cell q.of u)))) (let e : k + suc i ≡ suc k + i =
    omega arith in e)
    ∙ passed_at vs (suc k) ps (at slots k (Some (bound_cell q.of u))) i v p value parameter

-- what the values count as what their parameters declare
abbrev pub in_passed : Counted → ℕ → List Value → List Parameter → ℕ
in_passed counts n (v ∷ vs) (p ∷ ps) = in_cell counts n (Some (bound_cell p.of v)) + in_passed counts n vs ps
in_passed counts n vs ps = 0

pub passed_counts : (counts : Counted) (n : ℕ) (vs : List Value) (k : ℕ) (ps : List Parameter) (slots : SlotCells)
    → k + length ps ≤ most_slots → ((j : ℕ) → k ≤ j → slots j ≡ None)
    → in_slots counts n (passed_slots vs k ps slots) ≡ in_slots counts n slots + in_passed counts n vs ps
passed_counts counts n [] k ps slots few unset = omega arith
passed_counts counts n (v ∷ vs) k [] slots few unset = omega arith
passed_counts counts n (v ∷ vs) k (p ∷ ps) slots few unset = omega (
  arith,
  passed_counts counts n vs (suc k) ps (at slots k (Some (bound_cell p.of v))) (omega arith)
      (λ j past. at_other slots k (Some (bound_cell p.of v)) j (λ e. absurd (omega (arith, e)))
      ∙ unset j (omega arith)),
  slots_at counts n slots k (Some (bound_cell p.of v)) (omega arith),
  ap (in_cell counts n) (unset k (omega arith)),
)
