-- What the steps of the lexer answer.
use Rattle.std.specs.Prelude.{ℕ, ℤ, pos, ◌+◌, ◌^◌, ◌==◌, ◌&&◌, nat_lt, nat_le, not, if◌then◌else◌, Bool, true, false, List, [], ◌∷◌, ◌++◌, length, slice_index, Option, Some, None}
use Rattle.std.specs.List.{find, prefix_len, take_while}
use Rattle.std.specs.Str.{bytes_eq}
use Rattle.ob_base.specs.Limits.{longest_string}
use Rattle.ob_base.specs.Names.{is_letter, is_digit, is_letter_or_digit, is_name, is_text}
use Rattle.ob_base.specs.Faults.{bad_character, open_comment, open_string, big_number, long_name, long_string, bad_escape}
use Rattle.ob_lexer.specs.declared.token.TokenKind.TheVariants as kind
use Rattle.ob_lexer.specs.declared.token.Word.{Word}
use Rattle.ob_lexer.specs.declared.token.Word.TheVariants as word
use Rattle.ob_lexer.specs.declared.token.Sign.{Sign}
use Rattle.ob_lexer.specs.declared.token.Sign.TheVariants as sign
use Rattle.ob_lexer.specs.declared.bytes.Class.{Class}
use Rattle.ob_lexer.specs.declared.bytes.Class.TheVariants as class
use Rattle.ob_lexer.specs.declared.strings.Heard.{Heard}
use Rattle.ob_lexer.specs.declared.strings.Heard.TheVariants as heard
use Rattle.ob_lexer.specs.declared.step.Step.{Step}
use Rattle.ob_lexer.specs.declared.step.Step.TheVariants.{Gap, Token, Flaw}
use Rattle.ob_lexer.specs.declared.position.Position.{Position}
use Rattle.ob_lexer.specs.Spelling.{spelling_of_word, value_of_digits, escaped}
use Rattle.ob_lexer.specs.Spans.{is_newline, begins_character, line_after, column_after}
use Rattle.ob_lexer.specs.Lexis.{is_blank}

-- ---- words, signs, numbers

-- every reserved word
abbrev pub words : List Word
words =
    word.Contract ∷ word.Asset ∷ word.Main ∷ word.Interface ∷ word.Implements ∷ word.State ∷ word.Transaction ∷ word.Private ∷ word.Returns ∷ word.Available ∷ word.In ∷ word.If ∷ word.Else ∷ word.While ∷ word.Return ∷ word.Revert ∷ word.Disown ∷ word.New ∷ word.This ∷ word.True ∷ word.False ∷ word.Int ∷ word.Bool ∷ word.String ∷ word.Owned ∷ word.Unowned ∷ word.Shared ∷ word.Where ∷ word.Is ∷ []

-- the first of these words that is spelled so
abbrev pub word_among : List Word → List ℕ → Option Word
word_among among bytes = find (λ w. bytes_eq (spelling_of_word w) bytes) among

-- the reserved word that is spelled so
unfoldable pub word_of : List ℕ → Option Word
word_of bytes = word_among words bytes

-- The only reserved word that bytes may be, by how many they are and one letter of them: two bytes by their second.
abbrev pub word_of_two : ℕ → Option Word
word_of_two b = if b == 110 then Some word.In else (if b == 102 then Some word.If else (if b == 115 then Some word.Is else None))

-- three by their second
abbrev pub word_of_three : ℕ → Option Word
word_of_three b = if b == 101 then Some word.New else (if b == 110 then Some word.Int else None)

-- four by their second
abbrev pub word_of_four : ℕ → Option Word
word_of_four b =
    if b == 97 then Some word.Main else (if b == 108 then Some word.Else else (if b == 104 then Some word.This else (if b == 114 then Some word.True else (if b == 111 then Some word.Bool else None))))

-- five by their third
abbrev pub word_of_five : ℕ → Option Word
word_of_five b =
    if b == 115 then Some word.Asset else (if b == 97 then Some word.State else (if b == 105 then Some word.While else (if b == 108 then Some word.False else (if b == 110 then Some word.Owned else (if b == 101 then Some word.Where else None)))))

-- six by their third
abbrev pub word_of_six : ℕ → Option Word
word_of_six b =
    if b == 116 then Some word.Return else (if b == 118 then Some word.Revert else (if b == 115 then Some word.Disown else (if b == 114 then Some word.String else (if b == 97 then Some word.Shared else None))))

-- seven by their third
abbrev pub word_of_seven : ℕ → Option Word
word_of_seven b =
    if b == 105 then Some word.Private else (if b == 116 then Some word.Returns else (if b == 111 then Some word.Unowned else None))

-- nine by their third
abbrev pub word_of_nine : ℕ → Option Word
word_of_nine b = if b == 116 then Some word.Interface else (if b == 97 then Some word.Available else None)

-- the only reserved word that bytes may be, where there are so many of them and these are their second and third
abbrev pub candidate_in : ℕ → ℕ → ℕ → Option Word
candidate_in count second third =
    if count == 2 then word_of_two second else (if count == 3 then word_of_three second else (if count == 4 then word_of_four second else (if count == 5 then word_of_five third else (if count == 6 then word_of_six third else (if count == 7 then word_of_seven third else (if count == 8 then Some word.Contract else (if count == 9 then word_of_nine third else (if count == 10 then Some word.Implements else (if count == 11 then Some word.Transaction else None)))))))))

-- the only reserved word that these bytes may be
abbrev pub candidate : List ℕ → Option Word
candidate bytes = candidate_in (length bytes) (slice_index bytes 1) (slice_index bytes 2)

-- the sign of two bytes
abbrev pub pair_of : ℕ → ℕ → Option Sign
pair_of a b =
    if a == 58 && b == 58 then Some sign.DoubleColon else (if a == 45 && b == 62 then Some sign.Arrow else (if a == 62 && b == 62 then Some sign.DoubleGreater else (if a == 61 && b == 61 then Some sign.DoubleEquals else (if a == 33 && b == 61 then Some sign.NotEquals else (if a == 60 && b == 61 then Some sign.LessEquals else (if a == 62 && b == 61 then Some sign.GreaterEquals else (if a == 38 && b == 38 then Some sign.DoubleAmpersand else (if a == 124 && b == 124 then Some sign.DoubleBar else None))))))))

-- the sign of one byte
abbrev pub single_of : ℕ → Option Sign
single_of b =
    if b == 123 then Some sign.OpenBrace else (if b == 125 then Some sign.CloseBrace else (if b == 40 then Some sign.OpenParen else (if b == 41 then Some sign.CloseParen else (if b == 91 then Some sign.OpenBracket else (if b == 93 then Some sign.CloseBracket else (if b == 59 then Some sign.Semicolon else (if b == 44 then Some sign.Comma else (if b == 46 then Some sign.Dot else (if b == 64 then Some sign.At else (if b == 124 then Some sign.Bar else (if b == 61 then Some sign.Equals else (if b == 60 then Some sign.Less else (if b == 62 then Some sign.Greater else (if b == 43 then Some sign.Plus else (if b == 45 then Some sign.Minus else (if b == 42 then Some sign.Star else (if b == 47 then Some sign.Slash else (if b == 37 then Some sign.Percent else (if b == 33 then Some sign.Not else None)))))))))))))))))))

-- the number that digits represent, below 2^63
abbrev pub number_of : List ℕ → Option ℤ
number_of digits = if nat_lt (value_of_digits digits) (2 ^ 63) then Some (pos (value_of_digits digits)) else None

-- what a byte begins
abbrev pub class_of : ℕ → Class
class_of b =
    if is_blank b then class.Blank else (if is_letter b then class.Letter else (if is_digit b then class.Digit else (if b == 34 then class.Quote else (if b == 47 then class.Slash else class.Other))))

-- one of two, by whether there is a value
abbrev pub or_else : {A B : Type 0} → Option A → B → (A → B) → B
or_else None none some = none
or_else (Some x) none some = some x

-- a reserved word or a name
abbrev pub word_step : List ℕ → Step
word_step bytes =
    or_else (word_of bytes) (if is_name bytes then Token (kind.Name bytes) (length bytes) else Flaw long_name 0 1) (λ w. Token (kind.Word w) (length bytes))

-- the number that digits represent
abbrev pub number_step : List ℕ → Step
number_step bytes = or_else (number_of bytes) (Flaw big_number 0 1) (λ n. Token (kind.Number n) (length bytes))

-- where the first `*/` stands in a text, of which so many bytes stand before these
abbrev pub close_from : ℕ → List ℕ → Option ℕ
close_from at [] = None
close_from at (a ∷ []) = None
close_from at (a ∷ b ∷ rest) = if a == 42 && b == 47 then Some at else close_from (at + 1) (b ∷ rest)

-- where the first `*/` stands
abbrev pub close_of : List ℕ → Option ℕ
close_of bytes = close_from 0 bytes

-- any byte but a newline
abbrev pub is_no_newline : ℕ → Bool
is_no_newline b = not (is_newline b)

-- after a `/`: what a comment or the sign is
abbrev pub slash_step : List ℕ → Step
slash_step [] = Token (kind.Sign sign.Slash) 1
slash_step (b ∷ rest) =
    if b == 47 then Gap (prefix_len is_no_newline rest + 2) else (if b == 42 then or_else (close_of rest) (Flaw open_comment 0 2) (λ n. Gap (n + 4)) else Token (kind.Sign sign.Slash) 1)

-- a byte that goes on with a character
abbrev pub goes_on : ℕ → Bool
goes_on b = not (begins_character b)

-- the sign of two bytes, if there are two
abbrev pub pair_at : ℕ → List ℕ → Option Sign
pair_at b [] = None
pair_at b (c ∷ rest) = pair_of b c

-- the sign that a byte and what follows begin with
abbrev pub sign_step : ℕ → List ℕ → Step
sign_step b rest =
    or_else (pair_at b rest) (or_else (single_of b) (Flaw bad_character 0 (prefix_len goes_on rest + 1)) (λ s. Token (kind.Sign s) 1)) (λ s. Token (kind.Sign s) 2)

-- ---- strings

-- what a byte is in a string, after a backslash or not
abbrev pub heard_of : Bool → ℕ → Heard
heard_of true b = or_else (escaped b) heard.NoEscape heard.Value
heard_of false b = if b == 34 then heard.Quote else (if b == 10 then heard.Newline else (if b == 92 then heard.Backslash else heard.Value b))

-- a string that ends here
abbrev pub text_step : List ℕ → ℕ → Step
text_step content length = if is_text content then Token (kind.Text content) length else Flaw long_string 0 1

-- What a string is, where so many bytes after its quote were read, of which the last may be a backslash, and this is
-- their content.
abbrev pub string_from : Bool → List ℕ → ℕ → List ℕ → Step
string_from backslash content taken [] = Flaw open_string 0 1
string_from backslash content taken (b ∷ rest) = elim (heard_of backslash b) [
  | heard.Value value ↦ if nat_le longest_string (length content) then Flaw long_string 0 1 else string_from false (content ++ value ∷ []) (taken + 1) rest
  | heard.Backslash ↦ string_from true content (taken + 1) rest
  | heard.Quote ↦ text_step content (taken + 2)
  | heard.Newline ↦ Flaw open_string 0 1
  | heard.NoEscape ↦ Flaw bad_escape taken 1
]

-- ---- the first step

-- what a text begins with, by the class of its first byte
abbrev pub step_in : Class → ℕ → List ℕ → Step
step_in class.Blank b rest = Gap 1
step_in class.Letter b rest = word_step (take_while is_letter_or_digit (b ∷ rest))
step_in class.Digit b rest = number_step (take_while is_digit (b ∷ rest))
step_in class.Quote b rest = string_from false [] 0 rest
step_in class.Slash b rest = slash_step rest
step_in class.Other b rest = sign_step b rest

-- what a text begins with, where it isn't empty
abbrev pub first_step : ℕ → List ℕ → Step
first_step b rest = step_in (class_of b) b rest

-- ---- ASCII

-- the larger of two numbers
abbrev pub larger : ℕ → ℕ → ℕ
larger m n = if nat_lt m n then n else m

-- ---- positions

-- the position after one byte more
abbrev pub past : Position → ℕ → Position
past p b =
    if is_newline b then record { offset = p.offset + 1; line = p.line + 1; column = 1 } else (if begins_character b then record { offset = p.offset + 1; line = p.line; column = p.column + 1 } else record { offset = p.offset + 1; line = p.line; column = p.column })

-- the position after so many characters of one byte each on the same line
abbrev pub along : Position → ℕ → Position
along p count = record { offset = p.offset + count; line = p.line; column = p.column + count }

-- the position after these bytes
abbrev pub position_after : List ℕ → Position
position_after before = record { offset = length before; line = line_after before; column = column_after before }
