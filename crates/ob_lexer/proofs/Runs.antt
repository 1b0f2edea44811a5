-- How far bytes that pass a test go on.
use Rattle.std.proofs.Common.{ℕ, suc, ◌≡◌, ◌+◌, Bool, true, false, ◌&&◌, List, [], ◌∷◌, ◌++◌, length, take, drop, inl, inr, refl, sym, ap, ◌∙◌, arith, take-append-drop}
use Rattle.std.specs.List.{list_all, prefix_len, take_while}
use Rattle.std.proofs.lemmas.Bool.{and_parts, and_from, both_ways, cases_Bool}
use Rattle.std.proofs.lemmas.List.Folds.{list_all-append, length-prefix_len}
use Rattle.std.proofs.Math.Seq.{take-append_seam}

-- nothing follows, or a byte that fails the test
abbrev pub Stops : (ℕ → Bool) → List ℕ → Type 0
Stops p [] = Unit {0}
Stops p (b ∷ bytes) = p b ≡ false

one_more : (n : ℕ) → 1 + n ≡ suc n
one_more n = omega arith

run_passes : (p : ℕ → Bool) (xs : List ℕ) → list_all p (take (prefix_len p xs) xs) ≡ true
run_passes p [] = refl
run_passes p (x ∷ xs) = elim (cases_Bool (p x)) [
  | inl is ↦ rw (is, one_more (prefix_len p xs), is) (run_passes p xs)
  | inr isnt ↦ rw isnt refl
]

run_stops : (p : ℕ → Bool) (xs : List ℕ) → Stops p (drop (prefix_len p xs) xs)
run_stops p [] = tt
run_stops p (x ∷ xs) = elim (cases_Bool (p x)) [
  | inl is ↦ rw (is, one_more (prefix_len p xs)) (run_stops p xs)
  | inr isnt ↦ rw isnt isnt
]

-- A text is bytes that pass the test, as many as begin it, and the rest.
pub record IsRun (p : ℕ → Bool) (text bytes rest : List ℕ) : Type 0 where
  pub parts : text ≡ bytes ++ rest
  pub passes : list_all p bytes ≡ true
  pub stops : Stops p rest
  pub count : length bytes ≡ prefix_len p text

pub run : (p : ℕ → Bool) (text : List ℕ) → IsRun p text (take_while p text) (drop (prefix_len p text) text)
run p text = record {
  parts = sym (take-append-drop (prefix_len p text) text);
  passes = run_passes p text;
  stops = run_stops p text;
  count = length-prefix_len p text;
}

pub prefix_len-run : (p : ℕ → Bool) (bytes rest : List ℕ) → list_all p bytes ≡ true → Stops p rest → prefix_len p (bytes ++ rest) ≡ length bytes
prefix_len-run p [] [] passes stops = refl
prefix_len-run p [] (r ∷ rest) passes stops = rw stops refl
prefix_len-run p (b ∷ bytes) rest passes stops =
    let both = and_parts (p b) (list_all p bytes) passes in
    rw (both.0, prefix_len-run p bytes rest both.1 stops) (one_more (length bytes))

pub take_while-run : (p : ℕ → Bool) (bytes rest : List ℕ) → list_all p bytes ≡ true → Stops p rest → take_while p (bytes ++ rest) ≡ bytes
take_while-run p bytes rest passes stops =
    ap (λ (n : ℕ). take n (bytes ++ rest)) (prefix_len-run p bytes rest passes stops) ∙ take-append_seam bytes rest

-- the first byte is in the run
pub take_while-first : (p : ℕ → Bool) (x : ℕ) (xs : List ℕ) → p x ≡ true → take_while p (x ∷ xs) ≡ x ∷ take_while p xs
take_while-first p x xs is = rw (is, one_more (prefix_len p xs)) refl

-- a run that goes on
pub goes_further : (p : ℕ → Bool) (bytes : List ℕ) (m : ℕ) (more : List ℕ) → list_all p bytes ≡ true → p m ≡ true → list_all p more ≡ true → list_all p (bytes ++ m ∷ more) ≡ true
goes_further p bytes m more front is back =
    list_all-append p bytes (m ∷ more) ∙ and_from (list_all p bytes) (list_all p (m ∷ more)) front (and_from (p m) (list_all p more) is back)

-- a run that doesn't
pub fails_past : (p : ℕ → Bool) (bytes : List ℕ) (m : ℕ) (more : List ℕ) → p m ≡ false → list_all p (bytes ++ m ∷ more) ≡ true → ⊥
fails_past p bytes m more fails all =
    let both : (list_all p bytes && list_all p (m ∷ more)) ≡ true = sym (list_all-append p bytes (m ∷ more)) ∙ all in
    both_ways (p m) fails (and_parts (p m) (list_all p more) (and_parts (list_all p bytes) (list_all p (m ∷ more)) both).1).0

pub stops_at : (p : ℕ → Bool) (rest : List ℕ) (m : ℕ) (more : List ℕ) → Stops p rest → rest ≡ m ∷ more → p m ≡ false
stops_at p [] m more stops e = absurd cc
stops_at p (r ∷ rest) m more stops e = let same : m ≡ r = cc in rw same stops
