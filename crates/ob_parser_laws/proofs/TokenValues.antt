-- What the tokens of a text represent is in range: its names are names, its numbers are of 64 bits, and its strings are
-- texts.
use Rattle.std.proofs.Common.{ℕ, zero, suc, ◌≡◌, ◌≤◌, ◌<◌, ◌^◌, nat_le, true, List, [], ◌∷◌, ◌++◌, length, IsTrue, sym, ap, subst, ◌∙◌, arith, append_assoc}
use Rattle.std.specs.Prelude.{⊤}
use Rattle.std.specs.List.{AllByRecursion, list_all}
use Rattle.std.specs.Str.{IsAscii, IsUtf8, is_utf8}
use Rattle.std.proofs.lemmas.Bool.{and_parts, and_from, leb-true, le-leb, lt-ltb}
use Rattle.std.proofs.lemmas.Bool.Decides.{nat_tests}
use Rattle.std.proofs.lemmas.Str.{IsUtf8-from_ascii, is_utf8-from_IsUtf8}
use Rattle.ob_base.specs.Limits.{longest_name, longest_string}
use Rattle.ob_base.specs.Names.{is_letter_or_digit, begins_with_letter, is_word, is_name, is_text}
use Rattle.ob_base.specs.Numbers.{is_int}
use Rattle.ob_lexer.specs.declared.token.Token.{Token}
use Rattle.ob_lexer.specs.declared.token.TokenKind.{TokenKind}
use Rattle.ob_lexer.specs.declared.token.TokenKind.TheVariants as kind
use Rattle.ob_lexer.specs.declared.lexer.Lexed.{Lexed}
use Rattle.ob_lexer.specs.Spelling.{IsString, IsSpelling, value_of_digits}
use Rattle.ob_lexer.specs.Lexis.{Element, space, comment, token, IsElement, Piece, text_of, ArePieces, token_in, tokens_of, HasTokens}
use Rattle.ob_lexer.proofs.StringTexts.{after_quote, content_is_text}

-- if a token of this kind is a name, a number or a string, then what it represents is in range
abbrev pub IsInRange : TokenKind → Type 0
IsInRange (kind.Name name) = IsTrue (is_name name)
IsInRange (kind.Number number) = IsTrue (is_int number)
IsInRange (kind.Text text) = IsTrue (is_text text)
IsInRange _ = ⊤

-- and so for each token
abbrev pub AreInRange : List Token → Type 0
AreInRange tokens = AllByRecursion (λ (t : Token). IsInRange t.kind) tokens

both_in_range : (front back : List Token) → AreInRange front → AreInRange back → AreInRange (front ++ back)
both_in_range [] back ranges others = others
both_in_range (t ∷ front) back ranges others = (ranges.0, both_in_range front back ranges.1 others)

-- the content of a string is a text where all that stands around it is UTF-8
string_is_text : (before bytes rest content : List ℕ) → IsUtf8 (before ++ (bytes ++ rest)) → IsString bytes content
    → length content ≤ longest_string → IsTrue (is_text content)
string_is_text before bytes rest content utf8 is short =
    let whole : bytes ++ rest ≡ 34 ∷ (is.inside ++ 34 ∷ rest) =
    ap (λ (l : List ℕ). l ++ rest) is.quoted ∙ ap (λ (l : List ℕ). 34 ∷ l) (append_assoc is.inside (34 ∷ []) rest) in
    let behind : IsUtf8 (is.inside ++ 34 ∷ rest) =
    after_quote before (is.inside ++ 34 ∷ rest) (subst (λ (l : List ℕ). IsUtf8 (before ++ l)) whole utf8) in
    content_is_text is.inside content rest behind is.stands short

spelled_in_range : (k : TokenKind) (before bytes rest : List ℕ) → IsUtf8 (before ++ (bytes ++ rest))
    → IsSpelling k bytes → IsInRange k
spelled_in_range (kind.Name name) before bytes rest utf8 is = subst (λ b. IsTrue (is_name b)) is.0 is.1
spelled_in_range (kind.Number number) before bytes rest utf8 is =
    subst (λ z. IsTrue (is_int z)) (sym is.1) (lt-ltb (value_of_digits bytes) (2 ^ 63) is.2)
spelled_in_range (kind.Text content) before bytes rest utf8 is =
    string_is_text before bytes rest content utf8 is.0 is.1
spelled_in_range _ before bytes rest utf8 is = tt

element_in_range : (e : Element) (before bytes rest : List ℕ) → IsUtf8 (before ++ (bytes ++ rest)) → IsElement e bytes
    → AreInRange (token_in before e bytes)
element_in_range space before bytes rest utf8 is = tt
element_in_range comment before bytes rest utf8 is = tt
element_in_range (token k) before bytes rest utf8 is = (spelled_in_range k before bytes rest utf8 is, tt)

pieces_in_range : (before : List ℕ) (pieces : List Piece) → IsUtf8 (before ++ text_of pieces) → ArePieces pieces []
    → AreInRange (tokens_of before pieces)
pieces_in_range before [] utf8 are = tt
pieces_in_range before (p ∷ pieces) utf8 are =
    both_in_range (token_in before p.element p.bytes) (tokens_of (before ++ p.bytes) pieces)
    (element_in_range p.element before p.bytes (text_of pieces) utf8 are.0)
    (pieces_in_range (before ++ p.bytes) pieces
    (subst IsUtf8 (sym (append_assoc before p.bytes (text_of pieces))) utf8) are.2)

pub text_in_range : (text : List ℕ) (lexed : Lexed) → HasTokens text lexed → AreInRange lexed.tokens
text_in_range text lexed has =
    subst AreInRange (sym has.tokens) (pieces_in_range [] has.pieces (subst IsUtf8 has.whole has.utf8) has.spelled)

-- ---- a name is a text

letter_low : (b : ℕ) → is_letter_or_digit b ≡ true → b < 128
letter_low b is = grind (arith, nat_tests)

letters_ascii : (bytes : List ℕ) → list_all is_letter_or_digit bytes ≡ true → IsAscii bytes
letters_ascii [] all i = omega arith
letters_ascii (b ∷ bytes) all zero =
    letter_low b (and_parts (is_letter_or_digit b) (list_all is_letter_or_digit bytes) all).0
letters_ascii (b ∷ bytes) all (suc i) =
    letters_ascii bytes (and_parts (is_letter_or_digit b) (list_all is_letter_or_digit bytes) all).1 i

pub name_is_text : (bytes : List ℕ) → IsTrue (is_name bytes) → IsTrue (is_text bytes)
name_is_text bytes is =
    let parts = and_parts (nat_le (length bytes) longest_name) (is_word bytes) is in
    let letters = and_parts (begins_with_letter bytes) (list_all is_letter_or_digit bytes) parts.1 in
    let short : length bytes ≤ longest_name = leb-true (length bytes) longest_name parts.0 in
    and_from (nat_le (length bytes) longest_string) (is_utf8 bytes) (le-leb (length bytes) longest_string (omega (arith, short)))
    (is_utf8-from_IsUtf8 bytes (IsUtf8-from_ascii bytes (letters_ascii bytes letters.1)))
