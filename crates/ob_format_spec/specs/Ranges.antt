-- The format of numbers of 32 bits within a range (this project's own). A number out of the range is refused at its first
-- byte with which no number of the range goes on.
use Rattle.std.specs.Prelude.{ℕ, ◌≤◌, ◌-◌, ◌/◌, ◌%◌, ◌^◌, ◌&&◌, ◌==◌, cond, nat_le, List}
use Rattle.std.specs.Int.{w32, from_be_bytes}
use Rattle.ob_base.specs.Bytes.{u32_bytes}
use Rattle.ob_format_spec.specs.declared.range.Range.{Range}
use Rattle.ob_format_spec.specs.Formats.{Parsed, done, ◌>>=◌, Format}
use Rattle.ob_format_spec.specs.Combinators.{byte, read_each}

-- a byte of a number in the range, after which so many come
abbrev pub range_byte : ℕ → Range → Format ℕ
range_byte left r = byte (λ b. nat_le (r.low / 256 ^ left) b && nat_le b (r.high / 256 ^ left))

-- the range of what comes after a byte
abbrev pub next_range : ℕ → Range → ℕ → Range
next_range left r b = record {
  low = cond (b == r.low / 256 ^ left) (r.low % 256 ^ left) 0;
  high = cond (b == r.high / 256 ^ left) (r.high % 256 ^ left) (256 ^ left - 1);
}

-- reads a number in the range
abbrev pub read_range : Range → List ℕ → Parsed ℕ
read_range r bytes = read_each range_byte next_range 4 r bytes >>= (λ block rest. done (from_be_bytes w32 block) rest)

-- a number from `low` to `high`
abbrev pub number_in : ℕ → ℕ → Format ℕ
number_in low high = record { fits = λ n. (low ≤ n) × (n ≤ high); bytes = u32_bytes; read = read_range (record { low = low; high = high }) }
