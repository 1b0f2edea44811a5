-- The bound of a page of text.
use Rattle.std.specs.Prelude.{◌≡◌, ◌≢◌, ◌≤◌, ◌++◌, ◌∷◌, [], ℕ, List, All, length, map, encode_utf8_all}
use Rattle.std.specs.List.{concat}

-- a line has at most 200 characters, and no newline among them
pub record IsLine (line : List ℕ) : Type 0 where
  pub short : length line ≤ 200
  pub single : All (λ (c : ℕ). c ≢ 10) line

-- the characters of lines, each of which a newline ends
abbrev pub ended : List (List ℕ) → List ℕ
ended lines = concat (map (λ (line : List ℕ). line ++ 10 ∷ []) lines)

-- the bytes of at most 20 lines
pub record HasLines (bytes : List ℕ) : Type 0 where
  pub lines : List (List ℕ)
  pub text : bytes ≡ encode_utf8_all (ended lines)
  pub each : All IsLine lines
  pub few : length lines ≤ 20

-- a page: at most 20 lines of at most 200 characters
abbrev pub IsPage : List ℕ → Type 0
IsPage bytes = ∥ HasLines bytes ∥₁

-- the bytes of so many lines, and of so many characters of one more
pub record Begins (bytes : List ℕ) (count column : ℕ) : Type 0 where
  pub lines : List (List ℕ)
  pub front : List ℕ
  pub text : bytes ≡ encode_utf8_all (ended lines ++ front)
  pub each : All IsLine lines
  pub begun : IsLine front
  pub counted : length lines ≡ count
  pub filled : length front ≡ column
  pub few : count ≤ 20

-- a page that isn't full
abbrev pub IsBegun : List ℕ → ℕ → ℕ → Type 0
IsBegun bytes count column = ∥ Begins bytes count column ∥₁
