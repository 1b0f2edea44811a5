-- Formats of bytes: which values have a spelling, what it is, and how it is read from the front of bytes (this project's
-- own). What bytes spell, and where they fail to, is said by the values that fit and their spelling alone.
use Rattle.std.specs.Prelude.{ℕ, ◌≡◌, ◌+◌, ◌≤◌, ◌<◌, List, ◌++◌, length, take}

-- What reading the front of bytes answers: a value and the bytes after it; or how many bytes are left from the first one
-- on with which nothing goes on, and none where one more byte was wanted.
pub data Parsed (A : Type 0) : Type 0 where
  done : A → List ℕ → Parsed A
  stop : ℕ → Parsed A

infixl 10 ◌>>=◌
-- goes on with what was read
abbrev pub ◌>>=◌ : {A B : Type 0} → Parsed A → (A → List ℕ → Parsed B) → Parsed B
done x rest >>= f = f x rest
stop left >>= f = stop left

-- A format: the values that have a spelling, the bytes that spell each of them, and a reader.
pub record Format (A : Type 0) : Type 1 where
  pub fits : A → Type 0
  pub bytes : A → List ℕ
  pub read : List ℕ → Parsed A

-- These bytes spell the value: it has a spelling, and they are it.
pub record Spells {A : Type 0} (f : Format A) (value : A) (bytes : List ℕ) : Type 0 where
  pub fits : f.fits value
  pub is : bytes ≡ f.bytes value

-- The spelling of some value begins with these bytes.
pub record Begins {A : Type 0} (f : Format A) (front : List ℕ) : Type 0 where
  pub value : A
  pub others : List ℕ
  pub spelled : Spells f value (front ++ others)

-- The bytes spell nothing, and this is the first offset at which nothing goes on: some value's spelling begins with the
-- bytes before it, and no value's with those and the one at it; or it is the end of the bytes, and they spell no value.
pub record FailsAt {A : Type 0} (f : Format A) (bytes : List ℕ) (offset : ℕ) : Type 0 where
  pub within : offset ≤ length bytes
  pub before : Begins f (take offset bytes)
  pub at_byte : offset < length bytes → ¬ (Begins f (take (offset + 1) bytes))
  pub at_end : offset ≡ length bytes → (value : A) → ¬ (Spells f value bytes)
