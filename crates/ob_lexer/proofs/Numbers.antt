-- The value of digits, digit by digit.
use Rattle.std.proofs.Common.{ℕ, ◌≡◌, ◌+◌, ◌-◌, ◌*◌, ◌<◌, ◌≤◌, ◌^◌, List, [], ◌∷◌, length, get_or, take, drop, fold, Some, None, pos, refl, sym, ap, ◌∙◌, arith, take-append-drop}
use Rattle.std.proofs.lemmas.Bool.{le-ltb, lt-ltb}
use Rattle.std.proofs.lemmas.List.Sums.{fold-append, fold_more}
use Rattle.ob_lexer.specs.Spelling.{value_of_digits}
use Rattle.ob_lexer.specs.Lexing.{number_of}

abbrev step : ℕ → ℕ → ℕ
step value digit = value * 10 + (digit - 48)

grows : (a : ℕ) (xs : List ℕ) → a ≤ fold step a xs
grows a [] = omega arith
grows a (x ∷ xs) = omega (arith, grows (step a x) xs)

pub value_more : (digits : List ℕ) (i : ℕ) → i < length digits → value_of_digits (take (i + 1) digits) ≡ value_of_digits (take i digits) * 10 + (get_or digits i 0 - 48)
value_more digits i lt = fold_more step 0 digits i 0 lt

pub value_at_least : (digits : List ℕ) (i : ℕ) → i < length digits → value_of_digits (take i digits) * 10 + (get_or digits i 0 - 48) ≤ value_of_digits digits
value_at_least digits i lt =
    let split : value_of_digits digits ≡ fold step (value_of_digits (take (i + 1) digits)) (drop (i + 1) digits) = ap value_of_digits (sym (take-append-drop (i + 1) digits)) ∙ fold-append step 0 (take (i + 1) digits) (drop (i + 1) digits) in
    omega (arith, split, value_more digits i lt, grows (value_of_digits (take (i + 1) digits)) (drop (i + 1) digits))

pub large_none : (digits : List ℕ) → 2 ^ 63 ≤ value_of_digits digits → number_of digits ≡ None
large_none digits large = rw (le-ltb (value_of_digits digits) (2 ^ 63) large) refl

pub small_some : (digits : List ℕ) → value_of_digits digits < 2 ^ 63 → number_of digits ≡ Some (pos (value_of_digits digits))
small_some digits small = rw (lt-ltb (value_of_digits digits) (2 ^ 63) small) refl

-- a value so far past 64 bits is one past 63 at the end
pub too_large : (digits : List ℕ) (i value : ℕ) → i < length digits → value ≡ value_of_digits (take i digits) → 2 ^ 64 ≤ value * 10 + (get_or digits i 0 - 48) → number_of digits ≡ None
too_large digits i value lt so_far large = large_none digits (omega (arith, value_at_least digits i lt, so_far))
