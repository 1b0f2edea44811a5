-- Rows of bytes with their count (this project's own).
use Rattle.std.specs.Prelude.{ℕ, ◌≡◌, ◌+◌, Bool, List, [], ◌∷◌, ◌++◌, length, filter}
use Rattle.ob_format_spec.specs.Combinators.{each_bytes}
use Rattle.ob_store_payload.specs.declared.rows.Rows.{Rows}

-- a row is behind those that were there
pub record IsWithRow (row : List ℕ) (old new : Rows) : Type 0 where
  pub count : new.count ≡ old.count + 1
  pub bytes : new.bytes.items ≡ old.bytes.items ++ row

-- the rows are those of these values
pub record AreRows {A : Type 0} (spelled : A → List ℕ) (xs : List A) (rows : Rows) : Type 0 where
  pub count : rows.count ≡ length xs
  pub bytes : rows.bytes.items ≡ each_bytes spelled xs

-- the row of a value is behind those that were there, if the value passes a test
abbrev pub AreWithRow : {A : Type 0} → (A → List ℕ) → (A → Bool) → A → Rows → Rows → Type 0
AreWithRow {A} spelled test x old new = (xs : List A) → AreRows spelled xs old → AreRows spelled (xs ++ filter test (x ∷ [])) new
