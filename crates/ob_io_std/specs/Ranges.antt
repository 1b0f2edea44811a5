-- What the calls do that read or write a range of a file.
use Rattle.std.specs.Prelude.{ℕ, ◌≡◌, ◌+◌, ◌≤◌, List, [], ◌∷◌, ◌++◌, length, take}
use Rattle.ob_io_std.specs.Calls.{Call}

-- These calls take the bytes piece by piece, in their order, each from the offset on at which the one before it ended, the first
-- from this offset on; and they do nothing else. A piece may be empty.
abbrev pub Cover : (ℕ → List ℕ → Call) → ℕ → List ℕ → List Call → Type 0
Cover call at bytes [] = bytes ≡ []
Cover call at bytes (made ∷ calls) =
    (piece rest : List ℕ) × (bytes ≡ piece ++ rest) × (made ≡ call at piece) × Cover call (at + length piece) rest calls

-- they so take a front of the bytes
abbrev pub CoverFront : (ℕ → List ℕ → Call) → ℕ → List ℕ → List Call → Type 0
CoverFront call at bytes calls = (n : ℕ) × (n ≤ length bytes) × Cover call at (take n bytes) calls
