-- The greatest of numbers, one after another.
use Rattle.std.proofs.Common.{◌≡◌, ℕ, arith}
use Rattle.std.specs.Prelude.{max}

pub max-assoc : (a b c : ℕ) → max (max a b) c ≡ max a (max b c)
max-assoc a b c = omega arith

pub max-zero : (a : ℕ) → max a 0 ≡ a
max-zero a = omega arith

pub ruleset counts = (max-assoc, max-zero)
