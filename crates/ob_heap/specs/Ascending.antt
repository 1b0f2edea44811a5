-- Lists whose numbers ascend.
use Rattle.std.specs.Prelude.{ℕ, ◌<◌, List, [], ◌∷◌, ⊤}

-- a number is below those of all of these
abbrev pub IsBelowAll : {A : Type 0} → (A → ℕ) → ℕ → List A → Type 0
IsBelowAll number n [] = ⊤
IsBelowAll number n (x ∷ xs) = (n < number x) × IsBelowAll number n xs

-- each number is below those after it, so that none comes twice
abbrev pub IsAscending : {A : Type 0} → (A → ℕ) → List A → Type 0
IsAscending number [] = ⊤
IsAscending number (x ∷ xs) = IsBelowAll number (number x) xs × IsAscending number xs
