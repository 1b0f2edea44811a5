-- Names with the number of the first thing that has each (this project's own).
use Rattle.std.specs.Prelude.{◌≡◌, ℕ, bytes_eq, List, [], ◌∷◌, ◌++◌, map, position, Option, Some, None, is_some, if◌then◌else◌}
use Rattle.std.specs.Global.{Vec}

-- the number of a name
abbrev pub number_in : List ℕ → List (List ℕ × ℕ) → Option ℕ
number_in name [] = None
number_in name (e ∷ es) = if bytes_eq name e.0 then Some e.1 else number_in name es

-- with one more name, unless it is there
abbrev pub added : List (List ℕ × ℕ) → List ℕ → ℕ → List (List ℕ × ℕ)
added es name number = if is_some (number_in name es) then es else es ++ (name, number) ∷ []

-- each name has the place of the first of these that is the same, and no other has a number
abbrev pub IsNumbering : List (List ℕ) → List (List ℕ × ℕ) → Type 0
IsNumbering names es = (name : List ℕ) → number_in name es ≡ position (bytes_eq name) names

-- the entries of a map, with the bytes of their keys
abbrev pub plain : List (Vec ℕ × ℕ) → List (List ℕ × ℕ)
plain = map (λ e. (e.0.items, e.1))
