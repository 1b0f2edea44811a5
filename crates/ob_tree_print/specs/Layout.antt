-- The canonical layout of tokens, as bytes (this project's own).
use Rattle.std.specs.Prelude.{ℕ, ◌==◌, if◌then◌else◌, List, [], ◌∷◌, ◌++◌}
use Rattle.std.specs.Fmt.{signed_decimal}
use Rattle.std.specs.List.{flat_map}
use Rattle.ob_lexer.specs.Spelling.{spelling_of_word, spelling_of_sign}
use Rattle.ob_lexer.specs.declared.token.TokenKind.{TokenKind}
use Rattle.ob_lexer.specs.declared.token.TokenKind.TheVariants as kind
use Rattle.ob_lexer.specs.declared.token.Sign.{Sign}
use Rattle.ob_lexer.specs.declared.token.Sign.TheVariants as sign

-- a byte of a string, or the escape that represents it: `\"`, `\\`, `\n` or `\t`
abbrev pub escape_of : ℕ → List ℕ
escape_of b =
    if b == 34 then 92 ∷ 34 ∷ [] else (if b == 92 then 92 ∷ 92 ∷ [] else (if b == 10 then 92 ∷ 110 ∷ [] else (if b == 9 then 92 ∷ 116 ∷ [] else b ∷ [])))

-- a string between its quotes
abbrev pub quoted : List ℕ → List ℕ
quoted text = (34 ∷ flat_map escape_of text) ++ (34 ∷ [])

-- the bytes of a token
abbrev pub spelling_of : TokenKind → List ℕ
spelling_of (kind.Name name) = name
spelling_of (kind.Number number) = signed_decimal number
spelling_of (kind.Text text) = quoted text
spelling_of (kind.Word word) = spelling_of_word word
spelling_of (kind.Sign s) = spelling_of_sign s

-- a newline after `;`, `{` and `}`, a space after each other sign
abbrev pub gap_of_sign : Sign → ℕ
gap_of_sign sign.Semicolon = 10
gap_of_sign sign.OpenBrace = 10
gap_of_sign sign.CloseBrace = 10
gap_of_sign _ = 32

-- and a space after each other token
abbrev pub gap_after : TokenKind → ℕ
gap_after (kind.Sign s) = gap_of_sign s
gap_after _ = 32

-- a token and what stands after it
abbrev pub laid_out : TokenKind → List ℕ
laid_out token = spelling_of token ++ (gap_after token ∷ [])

-- tokens, one after another
abbrev pub layout : List TokenKind → List ℕ
layout tokens = flat_map laid_out tokens
