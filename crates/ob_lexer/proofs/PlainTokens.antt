-- The tokens but for strings are made of characters of one byte on one line.
use Rattle.std.proofs.Common.{ℕ, ◌≡◌, nat_le, true, List, [], ◌∷◌, length, IsTrue, refl, arith}
use Rattle.std.specs.List.{list_all}
use Rattle.std.proofs.lemmas.Bool.{and_from, and_parts}
use Rattle.std.proofs.lemmas.Bool.Decides.{nat_tests}
use Rattle.ob_base.specs.Limits.{longest_name}
use Rattle.ob_base.specs.Names.{is_digit, is_letter_or_digit, begins_with_letter, is_word}
use Rattle.ob_lexer.specs.declared.token.TokenKind.{TokenKind}
use Rattle.ob_lexer.specs.declared.token.TokenKind.TheVariants as kind
use Rattle.ob_lexer.specs.declared.token.Sign.{Sign}
use Rattle.ob_lexer.specs.declared.token.Sign.TheVariants as sign
use Rattle.ob_lexer.specs.Spelling.{spelling_of_word, spelling_of_sign, IsSpelling}
use Rattle.ob_lexer.proofs.PlaceLemmas.{is_plain}
use Rattle.ob_lexer.proofs.Reserved.{word_is_word}

plain_letter : (b : ℕ) → is_letter_or_digit b ≡ true → is_plain b ≡ true
plain_letter b is = grind (arith, nat_tests)

plain_digit : (b : ℕ) → is_digit b ≡ true → is_plain b ≡ true
plain_digit b is = grind (arith, nat_tests)

plain_letters : (bytes : List ℕ) → IsTrue (list_all is_letter_or_digit bytes) → IsTrue (list_all is_plain bytes)
plain_letters [] are = refl
plain_letters (b ∷ bytes) are =
    let parts = and_parts (is_letter_or_digit b) (list_all is_letter_or_digit bytes) are in
    and_from (is_plain b) (list_all is_plain bytes) (plain_letter b parts.0) (plain_letters bytes parts.1)

plain_digits : (bytes : List ℕ) → IsTrue (list_all is_digit bytes) → IsTrue (list_all is_plain bytes)
plain_digits [] are = refl
plain_digits (b ∷ bytes) are =
    let parts = and_parts (is_digit b) (list_all is_digit bytes) are in
    and_from (is_plain b) (list_all is_plain bytes) (plain_digit b parts.0) (plain_digits bytes parts.1)

plain_word : (bytes : List ℕ) → IsTrue (is_word bytes) → IsTrue (list_all is_plain bytes)
plain_word bytes is =
    plain_letters bytes (and_parts (begins_with_letter bytes) (list_all is_letter_or_digit bytes) is).1

plain_sign : (s : Sign) → IsTrue (list_all is_plain (spelling_of_sign s))
plain_sign sign.OpenBrace = refl
plain_sign sign.CloseBrace = refl
plain_sign sign.OpenParen = refl
plain_sign sign.CloseParen = refl
plain_sign sign.OpenBracket = refl
plain_sign sign.CloseBracket = refl
plain_sign sign.Semicolon = refl
plain_sign sign.Comma = refl
plain_sign sign.Dot = refl
plain_sign sign.At = refl
plain_sign sign.Bar = refl
plain_sign sign.DoubleColon = refl
plain_sign sign.Arrow = refl
plain_sign sign.DoubleGreater = refl
plain_sign sign.Equals = refl
plain_sign sign.DoubleEquals = refl
plain_sign sign.NotEquals = refl
plain_sign sign.Less = refl
plain_sign sign.LessEquals = refl
plain_sign sign.Greater = refl
plain_sign sign.GreaterEquals = refl
plain_sign sign.Plus = refl
plain_sign sign.Minus = refl
plain_sign sign.Star = refl
plain_sign sign.Slash = refl
plain_sign sign.Percent = refl
plain_sign sign.Not = refl
plain_sign sign.DoubleAmpersand = refl
plain_sign sign.DoubleBar = refl

pub plain_token : (k : TokenKind) (bytes : List ℕ) → IsSpelling k bytes → ((text : List ℕ) → k ≡ kind.Text text → ⊥) → IsTrue (list_all is_plain bytes)
plain_token (kind.Name name) bytes is other = plain_word bytes (and_parts (nat_le (length bytes) longest_name) (is_word bytes) is.1).1
plain_token (kind.Number number) bytes is other =
    plain_digits bytes (and_parts (nat_le 1 (length bytes)) (list_all is_digit bytes) is.0).1
plain_token (kind.Text text) bytes is other = absurd (other text refl)
plain_token (kind.Word w) bytes is other = rw is (plain_word (spelling_of_word w) (word_is_word w))
plain_token (kind.Sign s) bytes is other = rw is (plain_sign s)
