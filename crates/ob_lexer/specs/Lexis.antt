-- What tokens a text spells: a relation on the whole text, which says nothing of left to right (the Obsidian language
-- documentation, "Lexical structure"; that the longest is taken is the usual rule: The Java Language Specification, 3.2).
use Rattle.std.specs.Prelude.{ℕ, ◌≡◌, ◌≢◌, ◌≤◌, ◌==◌, ◌||◌, not, ⊤, Bool, List, [], ◌∷◌, ◌++◌, length, codes, IsTrue}
use Rattle.std.specs.List.{list_all, flat_map}
use Rattle.std.specs.Str.{IsUtf8}
use Rattle.ob_base.specs.Limits.{longest_program}
use Rattle.ob_base.specs.Names.{is_word}
use Rattle.ob_lexer.specs.Spelling.{spelling_of_sign, is_digits, IsString, IsSpelling}
use Rattle.ob_lexer.specs.Spans.{is_newline, span_of}
use Rattle.ob_lexer.specs.declared.token.Sign.{Sign}
use Rattle.ob_lexer.specs.declared.token.Token.{Token}
use Rattle.ob_lexer.specs.declared.token.TokenKind.{TokenKind}
use Rattle.ob_lexer.specs.declared.lexer.Lexed.{Lexed}

-- a space, a tab, a carriage return or a newline
abbrev pub is_blank : ℕ → Bool
is_blank b = b == 32 || b == 9 || b == 13 || b == 10

-- one blank
pub record IsBlank (bytes : List ℕ) : Type 0 where
  pub byte : ℕ
  pub one : bytes ≡ byte ∷ []
  pub blank : IsTrue (is_blank byte)

-- `//` and no newline after it
pub record IsLineComment (bytes : List ℕ) : Type 0 where
  pub inside : List ℕ
  pub marked : bytes ≡ codes "//" ++ inside
  pub on_line : IsTrue (list_all (λ b. not (is_newline b)) inside)

-- `*/` stands somewhere
pub record HasClose (bytes : List ℕ) : Type 0 where
  pub before : List ℕ
  pub after : List ℕ
  pub closed : bytes ≡ before ++ codes "*/" ++ after

-- `/*` up to the first `*/` after it, with which it shares no character
pub record IsBlockComment (bytes : List ℕ) : Type 0 where
  pub inside : List ℕ
  pub marked : bytes ≡ codes "/*" ++ inside ++ codes "*/"
  pub first : ¬ (HasClose (inside ++ codes "*"))

-- What the longest is taken of: what could be a token, if names, numbers and strings had no limits, a blank, a comment,
-- and the marks that open a comment and a string.
pub data IsLexeme (bytes : List ℕ) : Type 0 where
  word : IsTrue (is_word bytes) → IsLexeme bytes
  digits : IsTrue (is_digits bytes) → IsLexeme bytes
  quoted : (content : List ℕ) → IsString bytes content → IsLexeme bytes
  sign : (s : Sign) → bytes ≡ spelling_of_sign s → IsLexeme bytes
  blank : IsBlank bytes → IsLexeme bytes
  line_comment : IsLineComment bytes → IsLexeme bytes
  block_comment : IsBlockComment bytes → IsLexeme bytes
  open_comment : bytes ≡ codes "/*" → IsLexeme bytes
  open_string : bytes ≡ codes "\"" → IsLexeme bytes

-- No longer front of the text is one of these.
abbrev pub IsLongest : List ℕ → List ℕ → Type 0
IsLongest bytes rest = (more others : List ℕ) → rest ≡ more ++ others → more ≢ [] → ¬ (IsLexeme (bytes ++ more))

-- what a text is made of
pub data Element : Type 0 where
  space : Element
  comment : Element
  token : TokenKind → Element

-- a comment of either kind
pub data IsComment (bytes : List ℕ) : Type 0 where
  of_line : IsLineComment bytes → IsComment bytes
  of_block : IsBlockComment bytes → IsComment bytes

-- these bytes are such an element
abbrev pub IsElement : Element → List ℕ → Type 0
IsElement space bytes = IsBlank bytes
IsElement comment bytes = IsComment bytes
IsElement (token kind) bytes = IsSpelling kind bytes

-- an element of a text, with its bytes
pub record Piece : Type 0 where
  pub element : Element
  pub bytes : List ℕ

-- the bytes of pieces, one after the other
abbrev pub text_of : List Piece → List ℕ
text_of pieces = flat_map (λ p. p.bytes) pieces

-- Each piece is such an element, and the longest that begins at its position, where the rest follows them.
abbrev pub ArePieces : List Piece → List ℕ → Type 0
ArePieces [] rest = ⊤
ArePieces (p ∷ pieces) rest = IsElement p.element p.bytes × IsLongest p.bytes (text_of pieces ++ rest) × ArePieces pieces rest

-- the token that a piece is, if it is one, after these bytes
abbrev pub token_in : List ℕ → Element → List ℕ → List Token
token_in before space bytes = []
token_in before comment bytes = []
token_in before (token kind) bytes = record { kind = kind; span = span_of before bytes } ∷ []

-- the tokens among pieces after these bytes
abbrev pub tokens_of : List ℕ → List Piece → List Token
tokens_of before [] = []
tokens_of before (p ∷ pieces) = token_in before p.element p.bytes ++ tokens_of (before ++ p.bytes) pieces

-- A text of at most `longest_program` bytes of UTF-8 is made of pieces, and these are the tokens among them and its end.
pub record HasTokens (text : List ℕ) (lexed : Lexed) : Type 0 where
  pub short : length text ≤ longest_program
  pub utf8 : IsUtf8 text
  pub pieces : List Piece
  pub whole : text ≡ text_of pieces
  pub spelled : ArePieces pieces []
  pub tokens : lexed.tokens ≡ tokens_of [] pieces
  pub end : lexed.end ≡ span_of text []
