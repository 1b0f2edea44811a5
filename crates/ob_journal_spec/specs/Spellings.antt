-- The bytes of an area and its records (this project's own). Numbers are spelled as ob_base writes them.
--
--     area   = u8:gate "OBSA" i64:serial u32:length image  u8:gate record..
--     record = (after its gate) u32:length payload, and then the next gate
--
-- A gate of 0 is closed, and any other is open. Here image and payload are any bytes.
use Rattle.std.specs.Prelude.{ℕ, ℤ, ◌≡◌, List, [], ◌∷◌, length}
use Rattle.ob_format_spec.specs.Formats.{Format}
use Rattle.ob_format_spec.specs.Combinators.{number, integer, literal, read_block, and_then, ◌⨟◌, of_parts}

-- so many bytes as they are
abbrev pub block : ℕ → Format (List ℕ)
block n = record { fits = λ b. length b ≡ n; bytes = λ b. b; read = read_block n }

-- a number of 32 bits, and so many bytes as they are
abbrev pub sized : Format (List ℕ)
sized = of_parts (λ p. p.1) (λ b. (length b, b)) (and_then number block)

-- what stands between an area's gate and the gate of its first record: a serial and an image
abbrev pub header : Format (ℤ × List ℕ)
header = of_parts (λ p. p.1) (λ h. (tt, h)) (literal (79 ∷ 66 ∷ 83 ∷ 65 ∷ []) ⨟ (integer ⨟ sized))
