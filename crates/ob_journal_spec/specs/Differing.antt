-- Where two images differ (this project's own).
use Rattle.std.specs.Prelude.{ℕ, ◌≡◌, ◌≤◌, List, length, take, drop}
use Rattle.ob_format_spec.specs.Lawful.{first}

-- The first offset at which they differ, or one ends: the bytes before it are the same, and those at it aren't.
pub record DifferAt (offset : ℕ) (xs ys : List ℕ) : Type 0 where
  pub within_one : offset ≤ length xs
  pub within_other : offset ≤ length ys
  pub before : take offset xs ≡ take offset ys
  pub at : ¬ (first (drop offset xs) ≡ first (drop offset ys))
