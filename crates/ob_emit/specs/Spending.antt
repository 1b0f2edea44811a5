-- What is left of a number after a weight is taken off.
use Rattle.std.specs.Prelude.{◌≡◌, ◌<◌, ◌+◌, ℕ, Option, Some, None}

-- the rest where there is as much as the weight, and else nothing
abbrev pub Spends : Option ℕ → ℕ → ℕ → Type 0
Spends None weight left = left < weight
Spends (Some rest) weight left = rest + weight ≡ left
