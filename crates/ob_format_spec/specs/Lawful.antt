-- When the reader of a format reads what is spelled, and stops where it should.
use Rattle.std.specs.Prelude.{ℕ, ◌≡◌, ◌<◌, Option, Some, None, List, [], ◌∷◌, ◌++◌, length}
use Rattle.ob_format_spec.specs.Formats.{done, stop, Format}

-- each of these is a byte
abbrev pub AreBytes : List ℕ → Type 0
AreBytes [] = Unit {0}
AreBytes (b ∷ bs) = (b < 256) × AreBytes bs

-- the first of these, if there is one
abbrev pub first : List ℕ → Option ℕ
first [] = None
first (b ∷ bs) = Some b

-- What was read before so many bytes were left begins the spelling of some value; and the reader stops there whatever
-- comes after it with the same first byte.
pub record Stopped {A : Type 0} (f : Format A) (bytes : List ℕ) (left : ℕ) : Type 0 where
  pub front : List ℕ
  pub rest : List ℕ
  pub parts : bytes ≡ front ++ rest
  pub left_is : length rest ≡ left
  pub value : A
  pub fits : f.fits value
  pub others : List ℕ
  pub spelled : f.bytes value ≡ front ++ others
  pub local : (new : List ℕ) → first new ≡ first rest → f.read (front ++ new) ≡ stop (length new)

-- A lawful format: what is read is spelled; what is spelled is read, whatever comes after it; where reading stops,
-- something had begun; and some value has a spelling.
pub record Lawful {A : Type 0} (f : Format A) : Type 0 where
  pub sound : (bytes : List ℕ) → AreBytes bytes → (x : A) (rest : List ℕ) → f.read bytes ≡ done x rest → f.fits x × (bytes ≡ f.bytes x ++ rest)
  pub full : (x : A) → f.fits x → (rest : List ℕ) → f.read (f.bytes x ++ rest) ≡ done x rest
  pub stopped : (bytes : List ℕ) → AreBytes bytes → (left : ℕ) → f.read bytes ≡ stop left → Stopped f bytes left
  pub some : A
  pub some_fits : f.fits some
