-- Bytes of which the largest is ASCII are UTF-8.
use Rattle.std.proofs.Common.{ℕ, zero, suc, ◌<◌, ◌≤◌, nat_lt, List, [], ◌∷◌, fold, slice_index, IsUtf8, lit<, inl, inr, arith}
use Rattle.std.proofs.lemmas.Bool.{cases_Bool, ltb-true, ltb-false}
use Rattle.std.proofs.lemmas.Str.{IsUtf8-from_ascii}
use Rattle.ob_lexer.specs.Lexing.{larger}

both_below : (m n : ℕ) → larger m n < 128 → (m < 128) × (n < 128)
both_below m n below = elim (cases_Bool (nat_lt m n)) [
  | inl is ↦
      let second : n < 128 = rw is at below in
      let order : m < n = ltb-true m n is in
      (omega arith, second)
  | inr isnt ↦
      let first : m < 128 = rw isnt at below in
      let order : n ≤ m = ltb-false m n isnt in
      (first, omega arith)
]

start_below : (bytes : List ℕ) (m : ℕ) → fold larger m bytes < 128 → m < 128
start_below [] m below = below
start_below (b ∷ bytes) m below = (both_below m b (start_below bytes (larger m b) below)).0

all_below : (bytes : List ℕ) (m : ℕ) → fold larger m bytes < 128 → (i : ℕ) → slice_index bytes i < 128
all_below [] m below i = lit< tt
all_below (b ∷ bytes) m below zero = (both_below m b (start_below bytes (larger m b) below)).1
all_below (b ∷ bytes) m below (suc i) = all_below bytes (larger m b) below i

pub ascii_alone : (bytes : List ℕ) → fold larger 0 bytes < 128 → IsUtf8 bytes
ascii_alone bytes below = IsUtf8-from_ascii bytes (all_below bytes 0 below)
