-- Where a stretch of a text stands: lines and columns count from 1, columns in characters.
use Rattle.std.specs.Prelude.{ℕ, ◌+◌, Bool, not, ◌==◌, ◌||◌, nat_lt, nat_le, List, length, count_by, reverse}
use Rattle.std.specs.List.{take_while}
use Rattle.ob_base.specs.declared.fault.Span.{Span}
use Rattle.ob_base.specs.declared.fault.ProgramFault.{ProgramFault}

-- a newline
abbrev pub is_newline : ℕ → Bool
is_newline b = b == 10

-- whether a byte begins a character of UTF-8: the bytes from 128 to 191 go on with one (RFC 3629, section 3)
abbrev pub begins_character : ℕ → Bool
begins_character b = nat_lt b 128 || nat_le 192 b

-- how many newlines there are
abbrev pub newlines : List ℕ → ℕ
newlines bytes = count_by is_newline bytes

-- the bytes from the last one back to a newline
abbrev pub back_to_newline : List ℕ → List ℕ
back_to_newline bytes = take_while (λ b. not (is_newline b)) (reverse bytes)

-- the line on which what follows these bytes begins
abbrev pub line_after : List ℕ → ℕ
line_after before = 1 + newlines before

-- and its position on that line, in characters
abbrev pub column_after : List ℕ → ℕ
column_after before = 1 + count_by begins_character (back_to_newline before)

-- the span of bytes that follow these
abbrev pub span_of : List ℕ → List ℕ → Span
span_of before bytes = record {
  start = length before;
  end = length before + length bytes;
  line = line_after before;
  column = column_after before;
}

-- a fault at bytes that follow these
abbrev pub fault_at : ℕ → List ℕ → List ℕ → ProgramFault
fault_at number before bytes = record { number = number; span = span_of before bytes }
