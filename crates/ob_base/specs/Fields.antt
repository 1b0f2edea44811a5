-- Reading the numbers and texts that bytes begin with.
use Rattle.std.specs.Prelude.{ℕ, ◌≡◌, ◌+◌, ◌<◌, ◌^◌, List, ◌++◌, length, drop}
use Rattle.std.specs.Str.{IsUtf8}
use Rattle.ob_base.specs.Bytes.{text_bytes}
use Rattle.ob_base.specs.declared.fields.Fields.{Fields}
use Rattle.ob_base.specs.declared.fields.FieldFault.{FieldFault}
use Rattle.ob_base.specs.declared.fields.FieldFault.TheVariants.{Short, BadText, Memory}

-- the bytes that aren't read yet
abbrev pub left : Fields → List ℕ
left fields = drop fields.at fields.bytes.now

-- how many bytes were read
abbrev pub offset : Fields → ℕ
offset fields = fields.at

-- These bytes were read, and no others.
pub record Reads (old new : Fields) (bytes : List ℕ) : Type 0 where
  pub front : left old ≡ bytes ++ left new
  pub count : offset new ≡ offset old + length bytes

-- The bytes begin with this text.
pub record BeginsWith (bytes text : List ℕ) : Type 0 where
  pub rest : List ℕ
  pub small : length text < 2 ^ 32
  pub is : bytes ≡ text_bytes text ++ rest

-- Why no text is read: the bytes begin with none, since they are too few; or with one that isn't UTF-8; or there is no
-- memory for it.
abbrev pub HasNoText : FieldFault → List ℕ → Type 0
HasNoText Short bytes = (text : List ℕ) → ¬ (BeginsWith bytes text)
HasNoText BadText bytes = (text : List ℕ) × BeginsWith bytes text × ¬ (IsUtf8 text)
HasNoText Memory bytes = (text : List ℕ) × BeginsWith bytes text × IsUtf8 text
