-- Formats of numbers and fixed bytes, and ways to put formats together (this project's own). Numbers are spelled as
-- `put_u8` and its kin of ob_base write them.
use Rattle.std.specs.Prelude.{ℕ, ℤ, zero, suc, ◌≡◌, ◌<◌, ◌^◌, Bool, true, cond, nat_lt, ◌==◌, Option, Some, None, List, [], ◌∷◌, ◌++◌, length, take, drop}
use Rattle.std.specs.Int.{w32, w64, from_be_bytes, cast_signed}
use Rattle.std.specs.Int.RustNames.{FitsSigned}
use Rattle.ob_base.specs.Bytes.{u8_bytes, u32_bytes, i64_bytes}
use Rattle.ob_format_spec.specs.Formats.{Parsed, done, stop, ◌>>=◌, Format}

-- ---- bytes and numbers

-- reads a byte that passes a test
abbrev pub read_byte : (ℕ → Bool) → List ℕ → Parsed ℕ
read_byte test [] = stop 0
read_byte test (b ∷ bs) = cond (test b) (done b bs) (stop (length (b ∷ bs)))

-- a byte that passes a test
abbrev pub byte : (ℕ → Bool) → Format ℕ
byte test = record { fits = λ b. test b ≡ true; bytes = u8_bytes; read = read_byte test }

-- whether a byte is below a bound
abbrev pub is_below : ℕ → ℕ → Bool
is_below bound b = nat_lt b bound

-- a byte below a bound
abbrev pub byte_below : ℕ → Format ℕ
byte_below bound = byte (is_below bound)

-- a byte, whichever it is
abbrev pub any_byte : Format ℕ
any_byte = byte_below 256

-- reads so many bytes as they are
abbrev pub read_block : ℕ → List ℕ → Parsed (List ℕ)
read_block n bytes = cond (nat_lt (length bytes) n) (stop 0) (done (take n bytes) (drop n bytes))

-- reads a number of 32 bits
abbrev pub read_number : List ℕ → Parsed ℕ
read_number bytes = read_block 4 bytes >>= (λ block rest. done (from_be_bytes w32 block) rest)

-- a number of 32 bits
abbrev pub number : Format ℕ
number = record { fits = λ n. n < 2 ^ 32; bytes = u32_bytes; read = read_number }

-- reads a number of 64 bits with a sign
abbrev pub read_integer : List ℕ → Parsed ℤ
read_integer bytes = read_block 8 bytes >>= (λ block rest. done (cast_signed w64 (from_be_bytes w64 block)) rest)

-- a number of 64 bits with a sign
abbrev pub integer : Format ℤ
integer = record { fits = FitsSigned w64; bytes = i64_bytes; read = read_integer }

-- reads these bytes
abbrev pub read_literal : List ℕ → List ℕ → Parsed (Unit {0})
read_literal [] bytes = done tt bytes
read_literal (b ∷ bs) bytes = read_byte (λ c. c == b) bytes >>= (λ c rest. read_literal bs rest)

-- these bytes
abbrev pub literal : List ℕ → Format (Unit {0})
literal bs = record { fits = λ u. Unit {0}; bytes = λ u. bs; read = read_literal bs }

-- ---- one after another

-- no bytes, for this value
abbrev pub constant : {A : Type 0} → A → Format A
constant x = record { fits = λ y. y ≡ x; bytes = λ y. []; read = λ bytes. done x bytes }

-- reads one part, and then the part that follows from it
abbrev pub read_and_then : {A B : Type 0} → (List ℕ → Parsed A) → (A → List ℕ → Parsed B) → List ℕ → Parsed (A × B)
read_and_then p q bytes = p bytes >>= (λ x mid. q x mid >>= (λ y rest. done (x, y) rest))

-- one format, and after it the one that follows from what was read
abbrev pub and_then : {A B : Type 0} → Format A → (A → Format B) → Format (A × B)
and_then f g = record {
  fits = λ pair. f.fits pair.0 × (g pair.0).fits pair.1;
  bytes = λ pair. f.bytes pair.0 ++ (g pair.0).bytes pair.1;
  read = read_and_then f.read (λ x. (g x).read);
}

infixr 5 ◌⨟◌
-- one format after another
abbrev pub ◌⨟◌ : {A B : Type 0} → Format A → Format B → Format (A × B)
f ⨟ g = and_then f (λ x. g)

-- reads a value by its parts
abbrev pub read_as : {A P : Type 0} → (P → A) → (List ℕ → Parsed P) → List ℕ → Parsed A
read_as whole read bytes = read bytes >>= (λ p rest. done (whole p) rest)

-- a value by its parts, where each value has them
abbrev pub of_parts : {A P : Type 0} → (P → A) → (A → P) → Format P → Format A
of_parts whole parts f = record { fits = λ x. f.fits (parts x); bytes = λ x. f.bytes (parts x); read = read_as whole f.read }

-- ---- lists

-- each of these fits
abbrev pub Each : {A : Type 0} → (A → Type 0) → List A → Type 0
Each fits [] = Unit {0}
Each fits (x ∷ xs) = fits x × Each fits xs

-- the bytes of each, one after another
abbrev pub each_bytes : {A : Type 0} → (A → List ℕ) → List A → List ℕ
each_bytes bytes [] = []
each_bytes bytes (x ∷ xs) = bytes x ++ each_bytes bytes xs

-- reads so many of a format
abbrev pub read_times : {A : Type 0} → (List ℕ → Parsed A) → ℕ → List ℕ → Parsed (List A)
read_times read zero bytes = done [] bytes
read_times read (suc n) bytes = read_and_then read (λ x. read_times read n) bytes >>= (λ pair rest. done (pair.0 ∷ pair.1) rest)

-- so many of a format
abbrev pub times : {A : Type 0} → Format A → ℕ → Format (List A)
times f n = record { fits = λ xs. (length xs ≡ n) × Each f.fits xs; bytes = each_bytes f.bytes; read = read_times f.read n }

-- reads a count, and then so many of a format
abbrev pub read_counted : {A : Type 0} → (List ℕ → Parsed ℕ) → (List ℕ → Parsed A) → List ℕ → Parsed (List A)
read_counted count read bytes = read_and_then count (read_times read) bytes >>= (λ pair rest. done pair.1 rest)

-- a count, and after it so many of a format
abbrev pub counted_by : {A : Type 0} → Format ℕ → Format A → Format (List A)
counted_by count f = of_parts (λ pair. pair.1) (λ xs. (length xs, xs)) (and_then count (times f))

-- a count of 32 bits, and after it so many of a format
abbrev pub counted : {A : Type 0} → Format A → Format (List A)
counted = counted_by number

-- a count of one byte, and after it so many of a format
abbrev pub counted_by_byte : {A : Type 0} → Format A → Format (List A)
counted_by_byte = counted_by any_byte

-- reads so many, where what each may be depends on how many come after it and on those before it
abbrev pub read_each : {A S : Type 0} → (ℕ → S → Format A) → (ℕ → S → A → S) → ℕ → S → List ℕ → Parsed (List A)
read_each one next zero s bytes = done [] bytes
read_each one next (suc n) s bytes =
    read_and_then (one n s).read (λ x. read_each one next n (next n s x)) bytes >>= (λ pair rest. done (pair.0 ∷ pair.1) rest)

-- so many values, each of which fits after those before it
abbrev pub each_fit : {A S : Type 0} → (ℕ → S → Format A) → (ℕ → S → A → S) → ℕ → S → List A → Type 0
each_fit one next zero s xs = xs ≡ []
each_fit one next (suc n) s [] = ⊥
each_fit one next (suc n) s (x ∷ xs) = (one n s).fits x × each_fit one next n (next n s x) xs

-- their bytes, one after another
abbrev pub each_spelled : {A S : Type 0} → (ℕ → S → Format A) → (ℕ → S → A → S) → ℕ → S → List A → List ℕ
each_spelled one next zero s xs = []
each_spelled one next (suc n) s [] = []
each_spelled one next (suc n) s (x ∷ xs) = (one n s).bytes x ++ each_spelled one next n (next n s x) xs

-- so many, one after another, where the format of each depends on how many come after it and on a state, which each changes
abbrev pub each : {A S : Type 0} → (ℕ → S → Format A) → (ℕ → S → A → S) → ℕ → S → Format (List A)
each one next n s = record { fits = each_fit one next n s; bytes = each_spelled one next n s; read = read_each one next n s }

-- ---- kinds

-- parts that are there, and fit
abbrev pub parts_fit : {P : Type 0} → (P → Type 0) → Option P → Type 0
parts_fit fits None = ⊥
parts_fit fits (Some p) = fits p

-- the bytes of parts that are there
abbrev pub parts_bytes : {P : Type 0} → (P → List ℕ) → Option P → List ℕ
parts_bytes bytes None = []
parts_bytes bytes (Some p) = bytes p

-- one kind of value, by parts that no other kind has
abbrev pub variant : {A P : Type 0} → (P → A) → (A → Option P) → Format P → Format A
variant whole parts f = record { fits = λ x. parts_fit f.fits (parts x); bytes = λ x. parts_bytes f.bytes (parts x); read = read_as whole f.read }

-- a value of one of so many kinds, which fits as its kind says
abbrev pub kind_fits : {A : Type 0} → ℕ → (A → ℕ) → (ℕ → Format A) → A → Type 0
kind_fits many kind of x = (kind x < many) × (of (kind x)).fits x

-- reads the byte of a kind, and then what that kind has
abbrev pub read_kind : {A : Type 0} → ℕ → (ℕ → Format A) → List ℕ → Parsed A
read_kind many of [] = stop 0
read_kind many of (b ∷ bs) = cond (nat_lt b many) ((of b).read bs) (stop (length (b ∷ bs)))

-- a first byte below so many, which says of what kind the value is, and after it what that kind has
abbrev pub by_kind : {A : Type 0} → ℕ → (A → ℕ) → (ℕ → Format A) → Format A
by_kind many kind of = record { fits = kind_fits many kind of; bytes = λ x. u8_bytes (kind x) ++ (of (kind x)).bytes x; read = read_kind many of }

-- the format of this number in a list of formats; past its end, one without values
abbrev pub nth : {A : Type 0} → List (Format A) → ℕ → Format A
nth [] n = record { fits = λ x. ⊥; bytes = λ x. []; read = λ bytes. stop (length bytes) }
nth (f ∷ fs) zero = f
nth (f ∷ fs) (suc n) = nth fs n

-- a first byte that says which of these formats comes after it
abbrev pub by_kinds : {A : Type 0} → (A → ℕ) → List (Format A) → Format A
by_kinds kind fs = by_kind (length fs) kind (nth fs)
