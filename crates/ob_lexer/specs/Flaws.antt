-- Why a text has no tokens, and where (this project's own): of the faults in a text the first one from left to right.
use Rattle.std.specs.Prelude.{ℕ, ◌≡◌, ◌<◌, ◌≤◌, ◌^◌, ◌⊎◌, not, ⊤, List, [], ◌∷◌, ◌++◌, length, take, drop, codes, None, IsTrue}
use Rattle.std.specs.List.{take_while}
use Rattle.std.specs.Str.{IsUtf8, IsValidUpTo}
use Rattle.ob_base.specs.Limits.{longest_name, longest_string, longest_program}
use Rattle.ob_base.specs.Names.{is_word}
use Rattle.ob_base.specs.declared.fault.ProgramFault.{ProgramFault}
use Rattle.ob_base.specs.Faults as faults
use Rattle.ob_lexer.specs.Spelling.{is_digits, value_of_digits, escaped, SpellsContent}
use Rattle.ob_lexer.specs.Spans.{begins_character, fault_at}
use Rattle.ob_lexer.specs.Lexis.{HasClose, IsLexeme, IsLongest, Piece, text_of, ArePieces}

-- A fault that a text begins with: its number, what stands before its position, and the bytes at its position.
pub record Flaw : Type 0 where
  pub number : ℕ
  pub before : List ℕ
  pub bytes : List ℕ

-- a fault of this number
abbrev pub flaw_at : ℕ → List ℕ → List ℕ → Flaw
flaw_at number before bytes = record { number = number; before = before; bytes = bytes }

-- the first character of a text: a byte and those that go on with its character
abbrev pub first_character : List ℕ → List ℕ
first_character [] = []
first_character (b ∷ bytes) = b ∷ take_while (λ c. not (begins_character c)) bytes

-- the end of the text, also after a backslash, or a newline
abbrev pub IsCutOff : List ℕ → Type 0
IsCutOff [] = ⊤
IsCutOff (b ∷ rest) = (b ≡ 10) ⊎ ((b ≡ 92) × (rest ≡ []))

-- The text begins with no token, blank or comment, and this is why. In a string what comes first counts.
pub data Begins (text : List ℕ) (flaw : Flaw) : Type 0 where
  bad_character : (b : ℕ) (rest : List ℕ) → text ≡ b ∷ rest → ((bytes after : List ℕ) → text ≡ bytes ++ after → ¬ (IsLexeme bytes)) → flaw ≡ flaw_at faults.bad_character [] (first_character text) → Begins text flaw
  open_comment : (rest : List ℕ) → text ≡ codes "/*" ++ rest → ¬ (HasClose rest) → flaw ≡ flaw_at faults.open_comment [] (codes "/*") → Begins text flaw
  open_string : (inside content rest : List ℕ) → text ≡ 34 ∷ inside ++ rest → SpellsContent inside content → length content ≤ longest_string → IsCutOff rest → flaw ≡ flaw_at faults.open_string [] (codes "\"") → Begins text flaw
  big_number : (digits rest : List ℕ) → text ≡ digits ++ rest → IsTrue (is_digits digits) → IsLongest digits rest → 2 ^ 63 ≤ value_of_digits digits → flaw ≡ flaw_at faults.big_number [] (take 1 text) → Begins text flaw
  long_name : (word rest : List ℕ) → text ≡ word ++ rest → IsTrue (is_word word) → IsLongest word rest → longest_name < length word → flaw ≡ flaw_at faults.long_name [] (take 1 text) → Begins text flaw
  long_string : (inside content rest : List ℕ) → text ≡ 34 ∷ inside ++ rest → SpellsContent inside content → longest_string < length content → flaw ≡ flaw_at faults.long_string [] (codes "\"") → Begins text flaw
  bad_escape : (inside content : List ℕ) (letter : ℕ) (rest : List ℕ) → text ≡ 34 ∷ inside ++ 92 ∷ letter ∷ rest → SpellsContent inside content → length content ≤ longest_string → escaped letter ≡ None → flaw ≡ flaw_at faults.bad_escape (34 ∷ inside) (92 ∷ []) → Begins text flaw

-- The text has too many bytes.
pub record IsTooLong (text : List ℕ) (fault : ProgramFault) : Type 0 where
  pub long : longest_program < length text
  pub is : fault ≡ fault_at faults.long_program [] []

-- A text that isn't too long is no UTF-8: the fault is at the first byte that begins no character.
pub record IsNoUtf8 (text : List ℕ) (fault : ProgramFault) : Type 0 where
  pub short : length text ≤ longest_program
  pub valid : ℕ
  pub up_to : IsValidUpTo text valid
  pub is : fault ≡ fault_at faults.not_utf8 (take valid text) (take 1 (drop valid text))

-- Such a text of UTF-8 is made of pieces up to a position, and there begins with a fault.
pub record IsFlawed (text : List ℕ) (fault : ProgramFault) : Type 0 where
  pub short : length text ≤ longest_program
  pub utf8 : IsUtf8 text
  pub pieces : List Piece
  pub rest : List ℕ
  pub whole : text ≡ text_of pieces ++ rest
  pub spelled : ArePieces pieces rest
  pub flaw : Flaw
  pub begins : Begins rest flaw
  pub is : fault ≡ fault_at flaw.number (text_of pieces ++ flaw.before) flaw.bytes

-- The fault of a text that has no tokens.
pub data HasFault (text : List ℕ) (fault : ProgramFault) : Type 0 where
  too_long : IsTooLong text fault → HasFault text fault
  no_utf8 : IsNoUtf8 text fault → HasFault text fault
  flawed : IsFlawed text fault → HasFault text fault
