-- A read from memory takes a front of what is left.
use Rattle.std.proofs.Common.{◌≡◌, ℕ, ◌+◌, ◌<◌, min, List, [], ◌++◌, length, take, drop, sym, ◌∙◌, ap, arith, length-drop, take-append-drop}
use Rattle.std.proofs.lemmas.List.{drop-drop, drop_all}

pub front_taken : (bytes into : List ℕ) (at n : ℕ) → take n into ≡ take n (drop at bytes) → drop at bytes ≡ take n into ++ drop (at + n) bytes
front_taken bytes into at n front =
    sym (take-append-drop n (drop at bytes)) ∙ ap (λ (l : List ℕ). l ++ drop n (drop at bytes)) (sym front) ∙ ap (λ (l : List ℕ). take n into ++ l) (drop-drop n at bytes)

pub nothing_left : (bytes : List ℕ) (at n room : ℕ) → n ≡ min (length (drop at bytes)) room → n ≡ 0 → 0 < room → drop (at + n) bytes ≡ []
nothing_left bytes at n room is none some = drop_all (at + n) bytes (omega (arith, length-drop at bytes))
