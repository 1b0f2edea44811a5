-- How each token is spelled (the Obsidian language documentation, "Lexical structure").
use Rattle.std.specs.Prelude.{ℕ, ◌≡◌, ◌+◌, ◌-◌, ◌*◌, ◌<◌, ◌≤◌, ◌^◌, ◌&&◌, ◌||◌, ◌==◌, not, nat_le, pos, if◌then◌else◌, ⊤, Bool, Option, Some, None, List, [], ◌∷◌, ◌++◌, length, map, codes, fold, IsTrue}
use Rattle.std.specs.List.{list_all, flat_map}
use Rattle.ob_base.specs.Limits.{longest_string}
use Rattle.ob_base.specs.Names.{is_digit, is_name}
use Rattle.ob_lexer.specs.declared.token.TokenKind.{TokenKind}
use Rattle.ob_lexer.specs.declared.token.TokenKind.TheVariants as kind
use Rattle.ob_lexer.specs.declared.token.Word.{Word}
use Rattle.ob_lexer.specs.declared.token.Word.TheVariants as word
use Rattle.ob_lexer.specs.declared.token.Sign.{Sign}
use Rattle.ob_lexer.specs.declared.token.Sign.TheVariants as sign

-- the bytes of a reserved word
abbrev pub spelling_of_word : Word → List ℕ
spelling_of_word word.Contract = codes "contract"
spelling_of_word word.Asset = codes "asset"
spelling_of_word word.Main = codes "main"
spelling_of_word word.Interface = codes "interface"
spelling_of_word word.Implements = codes "implements"
spelling_of_word word.State = codes "state"
spelling_of_word word.Transaction = codes "transaction"
spelling_of_word word.Private = codes "private"
spelling_of_word word.Returns = codes "returns"
spelling_of_word word.Available = codes "available"
spelling_of_word word.In = codes "in"
spelling_of_word word.If = codes "if"
spelling_of_word word.Else = codes "else"
spelling_of_word word.While = codes "while"
spelling_of_word word.Return = codes "return"
spelling_of_word word.Revert = codes "revert"
spelling_of_word word.Disown = codes "disown"
spelling_of_word word.New = codes "new"
spelling_of_word word.This = codes "this"
spelling_of_word word.True = codes "true"
spelling_of_word word.False = codes "false"
spelling_of_word word.Int = codes "int"
spelling_of_word word.Bool = codes "bool"
spelling_of_word word.String = codes "string"
spelling_of_word word.Owned = codes "Owned"
spelling_of_word word.Unowned = codes "Unowned"
spelling_of_word word.Shared = codes "Shared"
spelling_of_word word.Where = codes "where"
spelling_of_word word.Is = codes "is"

-- the bytes of a sign
abbrev pub spelling_of_sign : Sign → List ℕ
spelling_of_sign sign.OpenBrace = codes "{"
spelling_of_sign sign.CloseBrace = codes "}"
spelling_of_sign sign.OpenParen = codes "("
spelling_of_sign sign.CloseParen = codes ")"
spelling_of_sign sign.OpenBracket = codes "["
spelling_of_sign sign.CloseBracket = codes "]"
spelling_of_sign sign.Semicolon = codes ";"
spelling_of_sign sign.Comma = codes ","
spelling_of_sign sign.Dot = codes "."
spelling_of_sign sign.At = codes "@"
spelling_of_sign sign.Bar = codes "|"
spelling_of_sign sign.DoubleColon = codes "::"
spelling_of_sign sign.Arrow = codes "->"
spelling_of_sign sign.DoubleGreater = codes ">>"
spelling_of_sign sign.Equals = codes "="
spelling_of_sign sign.DoubleEquals = codes "=="
spelling_of_sign sign.NotEquals = codes "!="
spelling_of_sign sign.Less = codes "<"
spelling_of_sign sign.LessEquals = codes "<="
spelling_of_sign sign.Greater = codes ">"
spelling_of_sign sign.GreaterEquals = codes ">="
spelling_of_sign sign.Plus = codes "+"
spelling_of_sign sign.Minus = codes "-"
spelling_of_sign sign.Star = codes "*"
spelling_of_sign sign.Slash = codes "/"
spelling_of_sign sign.Percent = codes "%"
spelling_of_sign sign.Not = codes "!"
spelling_of_sign sign.DoubleAmpersand = codes "&&"
spelling_of_sign sign.DoubleBar = codes "||"

-- the bytes of some reserved word
abbrev pub IsReserved : List ℕ → Type 0
IsReserved bytes = (w : Word) × (bytes ≡ spelling_of_word w)

-- one digit or more
abbrev pub is_digits : List ℕ → Bool
is_digits bytes = nat_le 1 (length bytes) && list_all is_digit bytes

-- the number that digits represent, in base ten
abbrev pub value_of_digits : List ℕ → ℕ
value_of_digits digits = fold (λ value digit. value * 10 + (digit - 48)) 0 digits

-- ---- strings

-- the byte that a backslash and this letter represent: `"`, a backslash, a newline or a tab
abbrev pub escaped : ℕ → Option ℕ
escaped letter =
    if letter == 34 then Some 34 else (if letter == 92 then Some 92 else (if letter == 110 then Some 10 else (if letter == 116 then Some 9 else None)))

-- a part of a string: a byte that represents itself, or a backslash and a letter that represent a byte
pub data StringPart : Type 0 where
  itself : ℕ → StringPart
  escape : ℕ → ℕ → StringPart

-- any byte but `"`, a backslash and a newline represents itself
abbrev pub IsPart : StringPart → Type 0
IsPart (itself b) = IsTrue (not (b == 34 || b == 92 || b == 10))
IsPart (escape letter value) = escaped letter ≡ Some value

-- each is such a part
abbrev pub AreParts : List StringPart → Type 0
AreParts [] = ⊤
AreParts (p ∷ parts) = IsPart p × AreParts parts

-- the bytes of a part
abbrev pub spelling_of_part : StringPart → List ℕ
spelling_of_part (itself b) = b ∷ []
spelling_of_part (escape letter value) = 92 ∷ letter ∷ []

-- the byte that it represents
abbrev pub value_of_part : StringPart → ℕ
value_of_part (itself b) = b
value_of_part (escape letter value) = value

-- These bytes, between quotes, represent that content.
pub record SpellsContent (bytes content : List ℕ) : Type 0 where
  pub parts : List StringPart
  pub are : AreParts parts
  pub spelled : bytes ≡ flat_map spelling_of_part parts
  pub means : content ≡ map value_of_part parts

-- a string of that content, with its quotes
pub record IsString (bytes content : List ℕ) : Type 0 where
  pub inside : List ℕ
  pub quoted : bytes ≡ 34 ∷ inside ++ 34 ∷ []
  pub stands : SpellsContent inside content

-- ---- tokens

-- these bytes are a spelling of a token of this kind: a number may have zeros in front
abbrev pub IsSpelling : TokenKind → List ℕ → Type 0
IsSpelling (kind.Name name) bytes = (bytes ≡ name) × IsTrue (is_name bytes) × ¬ (IsReserved bytes)
IsSpelling (kind.Number number) bytes = IsTrue (is_digits bytes) × (number ≡ pos (value_of_digits bytes)) × (value_of_digits bytes < 2 ^ 63)
IsSpelling (kind.Text text) bytes = IsString bytes text × (length text ≤ longest_string)
IsSpelling (kind.Word w) bytes = bytes ≡ spelling_of_word w
IsSpelling (kind.Sign s) bytes = bytes ≡ spelling_of_sign s
