-- How an area with a header begins (this project's own).
use Rattle.std.specs.Prelude.{ℕ, ℤ, pos, ◌≤ℤ◌, ◌≡◌, ◌<◌, ◌^◌, List, ◌∷◌, ◌++◌}
use Rattle.std.specs.Int.{w64}
use Rattle.std.specs.Int.RustNames.{FitsSigned}
use Rattle.ob_base.specs.Bytes.{u32_bytes, i64_bytes}

-- a gate, the letters of a header, a serial from 1 on, and how many bytes the image has
pub record BeginsHeader (serial : ℤ) (count : ℕ) (head : List ℕ) : Type 0 where
  pub gate : ℕ
  pub is : head ≡ gate ∷ 79 ∷ 66 ∷ 83 ∷ 65 ∷ (i64_bytes serial ++ u32_bytes count)
  pub fits : FitsSigned w64 serial
  pub from_one : pos 1 ≤ℤ serial
  pub small : count < 2 ^ 32
