-- How numbers and texts are spelled as bytes: the highest byte first (network byte order, RFC 1700), numbers with a sign
-- in two's complement.
use Rattle.std.specs.Prelude.{ℕ, ℤ, List, [], ◌∷◌, ◌++◌, length}
use Rattle.std.specs.Int.{w32, w64, to_be_bytes, cast_unsigned}

-- a byte
abbrev pub u8_bytes : ℕ → List ℕ
u8_bytes n = n ∷ []

-- a number of 32 bits
abbrev pub u32_bytes : ℕ → List ℕ
u32_bytes n = to_be_bytes w32 n

-- a number of 64 bits with a sign
abbrev pub i64_bytes : ℤ → List ℕ
i64_bytes n = to_be_bytes w64 (cast_unsigned w64 n)

-- a text: its length and its bytes
abbrev pub text_bytes : List ℕ → List ℕ
text_bytes text = u32_bytes (length text) ++ text
