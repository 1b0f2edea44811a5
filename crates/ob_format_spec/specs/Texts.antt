-- The format of texts, as `put_text` of ob_base writes them: a length, and so many bytes of UTF-8. A byte of a text is
-- refused where no character goes on with it (Unicode 15, table 3-7), or none that ends within the text.
use Rattle.std.specs.Prelude.{ℕ, zero, suc, ◌≡◌, Bool, false, cond, ◌&&◌, unwrap_or, nat_lt, nat_le, List, length, Option, Some, None}
use Rattle.std.specs.Str.{IsUtf8}
use Rattle.ob_format_spec.specs.declared.text.Due.{Due}
use Rattle.ob_format_spec.specs.Formats.{Parsed, Format}
use Rattle.ob_format_spec.specs.Combinators.{byte, number, and_then, of_parts, read_each}

-- so many bytes are due, the first of them in this range
abbrev pub due : ℕ → ℕ → ℕ → Due
due count low high = record { count = count; low = low; high = high }

-- between characters
abbrev pub no_due : Due
no_due = due 0 0x80 0xBF

-- what is due after the first byte of a character, if it is one
abbrev pub due_after_first : ℕ → Option Due
due_after_first b =
    cond (nat_lt b 0x80) (Some no_due) (cond (nat_lt b 0xC2) None (cond (nat_lt b 0xE0) (Some (due 1 0x80 0xBF))
    (cond (nat_lt b 0xE1) (Some (due 2 0xA0 0xBF)) (cond (nat_lt b 0xED) (Some (due 2 0x80 0xBF)) (cond (nat_lt b 0xEE) (Some (due 2 0x80 0x9F))
    (cond (nat_lt b 0xF0) (Some (due 2 0x80 0xBF)) (cond (nat_lt b 0xF1) (Some (due 3 0x90 0xBF)) (cond (nat_lt b 0xF4) (Some (due 3 0x80 0xBF))
    (cond (nat_lt b 0xF5) (Some (due 3 0x80 0x8F)) None)))))))))

-- what is due after a byte, where so many were due before it
abbrev pub due_after_due : ℕ → Due → ℕ → Option Due
due_after_due zero d b = due_after_first b
due_after_due (suc n) d b = cond (nat_le d.low b && nat_le b d.high) (Some (due n 0x80 0xBF)) None

-- what is due after a byte, if it may come
abbrev pub due_after : Due → ℕ → Option Due
due_after d b = due_after_due d.count d b

-- whether what is due has room in so many bytes
abbrev pub has_room : ℕ → Option Due → Bool
has_room left None = false
has_room left (Some d) = nat_le d.count left

-- a byte of a text, after which so many come
abbrev pub text_byte : ℕ → Due → Format ℕ
text_byte left d = byte (λ b. has_room left (due_after d b))

-- what is due after a byte that came
abbrev pub next_due : ℕ → Due → ℕ → Due
next_due left d b = unwrap_or (due_after d b) no_due

-- reads so many bytes of UTF-8
abbrev pub read_utf8 : ℕ → Due → List ℕ → Parsed (List ℕ)
read_utf8 = read_each text_byte next_due

-- so many bytes of UTF-8
abbrev pub utf8 : ℕ → Format (List ℕ)
utf8 n = record { fits = λ t. (length t ≡ n) × IsUtf8 t; bytes = λ t. t; read = read_utf8 n no_due }

-- a text: a count of 32 bits, and so many bytes of UTF-8
unfoldable pub text : Format (List ℕ)
text = of_parts (λ pair. pair.1) (λ t. (length t, t)) (and_then number utf8)
