-- The parts of an area, as they are read from the front of bytes.
use Rattle.std.specs.Prelude.{ℕ, ℤ, pos, ◌≤ℤ◌, ◌≡◌, List, ◌∷◌, ◌++◌}
use Rattle.std.specs.Int.{w64}
use Rattle.std.specs.Int.RustNames.{FitsSigned}
use Rattle.ob_base.specs.Bytes.{i64_bytes}
use Rattle.ob_journal_spec.specs.Spellings.{sized}

-- the bytes are these with their number before them, and then the rest
abbrev pub IsSized : List ℕ → List ℕ → List ℕ → Type 0
IsSized bytes b rest = sized.fits b × (bytes ≡ sized.bytes b ++ rest)

-- the bytes begin with some bytes that have their number before them
abbrev pub BeginsSized : List ℕ → Type 0
BeginsSized bytes = (b : List ℕ) × (rest : List ℕ) × IsSized bytes b rest

-- the bytes begin with a gate and the letters of a header
abbrev pub BeginsMarked : List ℕ → Type 0
BeginsMarked bytes = (gate : ℕ) × (rest : List ℕ) × (bytes ≡ gate ∷ 79 ∷ 66 ∷ 83 ∷ 65 ∷ rest)

-- the bytes are a serial from 1 on, and then the rest
pub record IsSerial (bytes : List ℕ) (z : ℤ) (rest : List ℕ) : Type 0 where
  pub fits : FitsSigned w64 z
  pub from_one : pos 1 ≤ℤ z
  pub is : bytes ≡ i64_bytes z ++ rest

-- the bytes begin with a serial
abbrev pub BeginsSerial : List ℕ → Type 0
BeginsSerial bytes = (z : ℤ) × (rest : List ℕ) × IsSerial bytes z rest
