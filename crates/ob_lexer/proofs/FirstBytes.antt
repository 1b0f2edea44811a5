-- What each thing that could be a token begins with.
use Rattle.std.proofs.Common.{ℕ, ◌≡◌, nat_le, true, false, List, [], ◌∷◌, ◌++◌, length, IsTrue, codes, ◌⊎◌, inl, inr, arith, refl, sym, ap, ◌∙◌}
use Rattle.std.specs.List.{list_all}
use Rattle.std.proofs.lemmas.Bool.{and_parts}
use Rattle.std.proofs.lemmas.Bool.Decides.{nat_tests}
use Rattle.ob_base.specs.Names.{is_letter, is_digit, is_letter_or_digit, is_word}
use Rattle.ob_lexer.specs.declared.token.Sign.{Sign}
use Rattle.ob_lexer.specs.declared.token.Sign.TheVariants as sign
use Rattle.ob_lexer.specs.declared.bytes.Class.{Class}
use Rattle.ob_lexer.specs.declared.bytes.Class.TheVariants as class
use Rattle.ob_lexer.specs.Spelling.{spelling_of_sign, is_digits, IsString}
use Rattle.ob_lexer.specs.Lexis.{is_blank, IsBlank, IsLineComment, IsBlockComment, IsLexeme, word, digits, quoted, sign as sign_lexeme, blank, line_comment, block_comment, open_comment, open_string}
use Rattle.ob_lexer.specs.Lexing.{class_of}
use Rattle.ob_lexer.proofs.SignLemmas.{IsShaped, one, two, slash, shape}

-- ---- the class of a byte

pub class-blank : (b : ℕ) → is_blank b ≡ true → class_of b ≡ class.Blank
class-blank b is = rw is refl

letter_no_blank : (b : ℕ) → is_letter b ≡ true → is_blank b ≡ false
letter_no_blank b is = grind (arith, nat_tests)

digit_no_blank : (b : ℕ) → is_digit b ≡ true → is_blank b ≡ false
digit_no_blank b is = grind (arith, nat_tests)

digit_no_letter : (b : ℕ) → is_digit b ≡ true → is_letter b ≡ false
digit_no_letter b is = grind (arith, nat_tests)

pub class-letter : (b : ℕ) → is_letter b ≡ true → class_of b ≡ class.Letter
class-letter b is = rw (letter_no_blank b is, is) refl

pub class-digit : (b : ℕ) → is_digit b ≡ true → class_of b ≡ class.Digit
class-digit b is = rw (digit_no_blank b is, digit_no_letter b is, is) refl

-- ---- first bytes

pub word_first : (b : ℕ) (bytes : List ℕ) → IsTrue (is_word (b ∷ bytes)) → is_letter b ≡ true
word_first b bytes is = (and_parts (is_letter b) (list_all is_letter_or_digit (b ∷ bytes)) is).0

pub digits_first : (b : ℕ) (bytes : List ℕ) → IsTrue (is_digits (b ∷ bytes)) → is_digit b ≡ true
digits_first b bytes is =
    (and_parts (is_digit b) (list_all is_digit bytes) (and_parts (nat_le 1 (length (b ∷ bytes))) (list_all is_digit (b ∷ bytes)) is).1).0

string_first : (b : ℕ) (bytes content : List ℕ) → IsString (b ∷ bytes) content → class_of b ≡ class.Quote
string_first b bytes content is =
    let first : b ≡ 34 = cc (is.quoted) in
    rw first refl

blank_first : (b : ℕ) (bytes : List ℕ) → IsBlank (b ∷ bytes) → (class_of b ≡ class.Blank) × (bytes ≡ [])
blank_first b bytes is =
    let first : b ≡ is.byte = cc (is.one) in
    (class-blank b (rw first is.blank), cc (is.one))

line_first : (b : ℕ) (bytes : List ℕ) → IsLineComment (b ∷ bytes) → class_of b ≡ class.Slash
line_first b bytes is =
    let first : b ≡ 47 = cc (is.marked) in
    rw first refl

block_first : (b : ℕ) (bytes : List ℕ) → IsBlockComment (b ∷ bytes) → class_of b ≡ class.Slash
block_first b bytes is =
    let first : b ≡ 47 = cc (is.marked) in
    rw first refl

-- what a lexeme is, by the class of its first byte
abbrev pub InClass : Class → ℕ → List ℕ → Type 0
InClass class.Blank b bytes = bytes ≡ []
InClass class.Letter b bytes = IsTrue (is_word (b ∷ bytes))
InClass class.Digit b bytes = IsTrue (is_digits (b ∷ bytes))
InClass class.Quote b bytes = (bytes ≡ []) ⊎ ((content : List ℕ) × IsString (b ∷ bytes) content)
InClass class.Slash b bytes = ((bytes ≡ []) ⊎ (bytes ≡ 42 ∷ [])) ⊎ (IsLineComment (b ∷ bytes) ⊎ IsBlockComment (b ∷ bytes))
InClass class.Other b bytes = (s : Sign) × (b ∷ bytes ≡ spelling_of_sign s)

at_class : (c : Class) (b : ℕ) (bytes : List ℕ) → class_of b ≡ c → InClass c b bytes → InClass (class_of b) b bytes
at_class c b bytes is in_class = rw is in_class

sign_in_class : (b : ℕ) (bytes : List ℕ) (s : Sign) → b ∷ bytes ≡ spelling_of_sign s → IsShaped s → InClass (class_of b) b bytes
sign_in_class b bytes s is (one c spelled found other) =
    let all : b ∷ bytes ≡ c ∷ [] = is ∙ spelled in
    let first : b ≡ c = cc in
    at_class class.Other b bytes (rw first other) (s, is)
sign_in_class b bytes s is (two c d spelled found other) =
    let all : b ∷ bytes ≡ c ∷ d ∷ [] = is ∙ spelled in
    let first : b ≡ c = cc in
    at_class class.Other b bytes (rw first other) (s, is)
sign_in_class b bytes s is (slash same) =
    let all : b ∷ bytes ≡ 47 ∷ [] = is ∙ ap spelling_of_sign same in
    let first : b ≡ 47 = cc in
    let none : bytes ≡ [] = cc in
    at_class class.Slash b bytes (rw first refl) (inl (inl none))

pub in_class : (b : ℕ) (bytes : List ℕ) → IsLexeme (b ∷ bytes) → InClass (class_of b) b bytes
in_class b bytes (word is) = at_class class.Letter b bytes (class-letter b (word_first b bytes is)) is
in_class b bytes (digits is) = at_class class.Digit b bytes (class-digit b (digits_first b bytes is)) is
in_class b bytes (quoted content is) = at_class class.Quote b bytes (string_first b bytes content is) (inr (content, is))
in_class b bytes (sign_lexeme s is) = sign_in_class b bytes s is (shape s)
in_class b bytes (blank is) = at_class class.Blank b bytes (blank_first b bytes is).0 (blank_first b bytes is).1
in_class b bytes (line_comment is) = at_class class.Slash b bytes (line_first b bytes is) (inr (inl is))
in_class b bytes (block_comment is) = at_class class.Slash b bytes (block_first b bytes is) (inr (inr is))
in_class b bytes (open_comment is) =
    let first : b ≡ 47 = cc in
    let second : bytes ≡ 42 ∷ [] = cc in
    at_class class.Slash b bytes (rw first refl) (inl (inr second))
in_class b bytes (open_string is) =
    let first : b ≡ 34 = cc in
    let none : bytes ≡ [] = cc in
    at_class class.Quote b bytes (rw first refl) (inl none)

-- where the class of the first byte is known
pub in_known : (c : Class) (b : ℕ) (bytes : List ℕ) → class_of b ≡ c → IsLexeme (b ∷ bytes) → InClass c b bytes
in_known c b bytes is lexeme = rw is at (in_class b bytes lexeme)

some_sign : (s : Sign) → IsShaped s → spelling_of_sign s ≡ [] → ⊥
some_sign s (one b spelled found other) none = let empty : b ∷ [] ≡ [] = sym spelled ∙ none in cc
some_sign s (two a b spelled found other) none = let empty : a ∷ b ∷ [] ≡ [] = sym spelled ∙ none in cc
some_sign s (slash same) none = let empty : spelling_of_sign sign.Slash ≡ [] = ap spelling_of_sign (sym same) ∙ none in cc

-- no lexeme is empty
pub lexeme_some : (bytes : List ℕ) → IsLexeme bytes → bytes ≡ [] → ⊥
lexeme_some bytes (word is) none = let empty : IsTrue (is_word []) = rw none at is in absurd cc
lexeme_some bytes (digits is) none = let empty : IsTrue (is_digits []) = rw none at is in absurd cc
lexeme_some bytes (quoted content is) none = let empty : [] ≡ 34 ∷ is.inside ++ 34 ∷ [] = sym none ∙ is.quoted in absurd cc
lexeme_some bytes (sign_lexeme s is) none = some_sign s (shape s) (sym is ∙ none)
lexeme_some bytes (blank is) none = let empty : [] ≡ is.byte ∷ [] = sym none ∙ is.one in absurd cc
lexeme_some bytes (line_comment is) none = let empty : [] ≡ codes "//" ++ is.inside = sym none ∙ is.marked in absurd cc
lexeme_some bytes (block_comment is) none = let empty : [] ≡ codes "/*" ++ is.inside ++ codes "*/" = sym none ∙ is.marked in absurd cc
lexeme_some bytes (open_comment is) none = let empty : [] ≡ codes "/*" = sym none ∙ is in absurd cc
lexeme_some bytes (open_string is) none = let empty : [] ≡ codes "\"" = sym none ∙ is in absurd cc
