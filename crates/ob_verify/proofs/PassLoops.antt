-- The pass over a body, instruction by instruction.
use Rattle.std.proofs.Common.{◌≡◌, ℕ, zero, suc, ◌+◌, ◌-◌, ◌<◌, ◌≤◌, List, [], ◌∷◌, ◌++◌, length, drop, get_or, Bool, true, false, not, ◌&&◌, Option, Some, None, refl, sym, ap, ◌∙◌, arith, add-one, append_assoc, drop-cons}
use Rattle.std.specs.Prelude.{slice_set, if◌then◌else◌}
use Rattle.std.proofs.Math.ListN.{drop_of_length-le}
use Rattle.ob_code.specs.declared.image.Image.{Image}
use Rattle.ob_code.specs.declared.instruction.Instruction.{Instruction}
use Rattle.ob_verify_spec.specs.declared.CodeFault.{CodeFault}
use Rattle.ob_verify_spec.specs.Frames.{CodeFrame}
use Rattle.ob_verify_spec.specs.Conditions.{bad_jump, bad_slot, bad_field, bad_call, no_fuel_mark, may_go_on}
use Rattle.ob_verify_spec.specs.Passing.{KindRow, KindRows, no_rows, held_at, joined, put_row, mismatched, fault_at, fault_at_end, found, passed, FaultAt, first_fault_from}

-- The rows before the pass.

rows_rest : (n k : ℕ) → n ≡ suc k → no_rows n ≡ None ∷ no_rows k
rows_rest zero k e = absurd (omega arith)
rows_rest (suc n) k e = let f : n ≡ k = omega arith in ap (λ z. None ∷ no_rows z) f

pub rows_more : (all rows next : KindRows) (n i : ℕ) → i < n → all ≡ rows ++ no_rows (n - i) → next ≡ rows ++ None ∷ [] → all ≡ next ++ no_rows (n - (i + 1))
rows_more all rows next n i lt e f =
    e ∙ ap (λ z. rows ++ z) (rows_rest (n - i) (n - (i + 1)) (omega arith)) ∙ sym (append_assoc rows (None ∷ []) (no_rows (n - (i + 1)))) ∙ ap (λ z. z ++ no_rows (n - (i + 1))) (sym f)

-- One more way.

pub set_twice : {A : Type 0} (xs : List A) (i : ℕ) (x y : A) → slice_set (slice_set xs i x) i y ≡ slice_set xs i y
set_twice [] i x y = refl
set_twice (z ∷ xs) zero x y = refl
set_twice (z ∷ xs) (suc i) x y = ap (λ zs. z ∷ zs) (set_twice xs i x y)

set_past : {A : Type 0} (xs : List A) (i : ℕ) (x : A) → length xs ≤ i → slice_set xs i x ≡ xs
set_past [] i x h = refl
set_past (z ∷ xs) zero x h = absurd (omega arith)
set_past (z ∷ xs) (suc i) x h = let k : length xs ≤ i = omega arith in ap (λ zs. z ∷ zs) (set_past xs i x k)

pub put_past : (m : Image) (rows : KindRows) (place : ℕ) (row : KindRow) → length rows ≤ place → put_row m rows place row ≡ rows
put_past m rows place row h = set_past rows place (Some (joined m (held_at rows place) row)) h

pub put_again : (m : Image) (rows taken : KindRows) (place : ℕ) (row both : KindRow) (known : Option KindRow) → taken ≡ slice_set rows place None → known ≡ held_at rows place → both ≡ joined m known row
    → slice_set taken place (Some both) ≡ put_row m rows place row
put_again m rows taken place row both known t k b = ap (λ z. slice_set z place (Some both)) t
    ∙ set_twice rows place None (Some both) ∙ ap (λ z. slice_set rows place (Some z)) (b ∙ ap (λ z. joined m z row) k)

pub ruleset putting = (put_past, put_again)

-- The pass.

sound_of : (a b c d e g : Bool) (p q r s t u : CodeFault)
    → (if a then Some p else if b then Some q else if c then Some r else if d then Some s else if e then Some t else if g then Some u else None) ≡ None
    → (not a && not b && not d && not e && not g) ≡ true
sound_of true b c d e g p q r s t u h = absurd cc
sound_of false true c d e g p q r s t u h = absurd cc
sound_of false false true d e g p q r s t u h = absurd cc
sound_of false false false true e g p q r s t u h = absurd cc
sound_of false false false false true g p q r s t u h = absurd cc
sound_of false false false false false true p q r s t u h = absurd cc
sound_of false false false false false false p q r s t u h = refl

-- where an instruction has no fault, ways go on after it
pub sound : (f : CodeFrame) (i : ℕ) (x : Instruction) (row : Option KindRow) → fault_at f i x row ≡ None → may_go_on f i x ≡ true
sound f i x row h = sound_of (bad_jump f x) (bad_slot f i x) (mismatched f x row) (bad_field f x) (bad_call f x) (no_fuel_mark f i x) _ _ _ _ _ _ h

from_here : (f : CodeFrame) (xs : List Instruction) (rows : KindRows) (i : ℕ) (d : Instruction) → i < length xs
    → first_fault_from f i (drop i xs) rows ≡ found i (fault_at f i (get_or xs i d) (held_at rows i)) (first_fault_from f (i + 1) (drop (i + 1) xs) (passed f i (get_or xs i d) rows))
from_here f xs rows i d h = ap (λ zs. first_fault_from f i zs rows) (drop-cons xs i d h)
    ∙ ap (λ k. found i (fault_at f i (get_or xs i d) (held_at rows i)) (first_fault_from f (i + 1) (drop k xs) (passed f i (get_or xs i d) rows))) (sym (add-one i))

pub found_here : (f : CodeFrame) (all : Option FaultAt) (xs : List Instruction) (rows : KindRows) (i : ℕ) (x : Instruction) (fault : CodeFault) → i < length xs → x ≡ get_or xs i x
    → all ≡ first_fault_from f i (drop i xs) rows → fault_at f i x (held_at rows i) ≡ Some fault → all ≡ Some (record { instruction = i; fault = fault })
found_here f all xs rows i x fault h is e s = e ∙ from_here f xs rows i x h
    ∙ ap (λ y. found i (fault_at f i y (held_at rows i)) (first_fault_from f (i + 1) (drop (i + 1) xs) (passed f i y rows))) (sym is)
    ∙ ap (λ z. found i z (first_fault_from f (i + 1) (drop (i + 1) xs) (passed f i x rows))) s

pub passed_here : (f : CodeFrame) (all : Option FaultAt) (xs : List Instruction) (rows next : KindRows) (i : ℕ) (x : Instruction) → i < length xs → x ≡ get_or xs i x
    → all ≡ first_fault_from f i (drop i xs) rows → fault_at f i x (held_at rows i) ≡ None → next ≡ passed f i x rows
    → all ≡ first_fault_from f (i + 1) (drop (i + 1) xs) next
passed_here f all xs rows next i x h is e s n = e ∙ from_here f xs rows i x h
    ∙ ap (λ y. found i (fault_at f i y (held_at rows i)) (first_fault_from f (i + 1) (drop (i + 1) xs) (passed f i y rows))) (sym is)
    ∙ ap (λ z. found i z (first_fault_from f (i + 1) (drop (i + 1) xs) (passed f i x rows))) s
    ∙ ap (first_fault_from f (i + 1) (drop (i + 1) xs)) (sym n)

pub at_end : (f : CodeFrame) (all : Option FaultAt) (xs : List Instruction) (rows : KindRows) (i : ℕ) → i ≡ length xs
    → all ≡ first_fault_from f i (drop i xs) rows → all ≡ found i (fault_at_end f i (held_at rows i)) None
at_end f all xs rows i h e = let le : length xs ≤ i = omega arith in e ∙ ap (λ zs. first_fault_from f i zs rows) (drop_of_length-le xs le)

pub ruleset passing = (sound, found_here, passed_here, at_end)
