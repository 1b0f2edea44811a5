-- The symbols of the grammar: tokens without what they represent.
use Rattle.std.specs.Prelude.{ℕ, List, [], ◌∷◌}
use Rattle.ob_lexer.specs.declared.token.TokenKind.{TokenKind}
use Rattle.ob_lexer.specs.declared.token.TokenKind.TheVariants as kind
use Rattle.ob_lexer.specs.declared.token.Word.{Word}
use Rattle.ob_lexer.specs.declared.token.Word.TheVariants as word'
use Rattle.ob_lexer.specs.declared.token.Sign.{Sign}
use Rattle.ob_lexer.specs.declared.token.Sign.TheVariants as sign'

-- what the grammar tells tokens apart by
pub data Symbol : Type 0 where
  a_name : Symbol
  a_number : Symbol
  a_text : Symbol
  a_word : Word → Symbol
  a_sign : Sign → Symbol

-- the symbol that a token is
abbrev pub symbol_of : TokenKind → Symbol
symbol_of (kind.Name n) = a_name
symbol_of (kind.Number z) = a_number
symbol_of (kind.Text s) = a_text
symbol_of (kind.Word w) = a_word w
symbol_of (kind.Sign s) = a_sign s

-- symbols are numbered, so that sets of them are lists of numbers
abbrev pub number_of_word : Word → ℕ
number_of_word word'.Contract = 3
number_of_word word'.Asset = 4
number_of_word word'.Main = 5
number_of_word word'.Interface = 6
number_of_word word'.Implements = 7
number_of_word word'.State = 8
number_of_word word'.Transaction = 9
number_of_word word'.Private = 10
number_of_word word'.Returns = 11
number_of_word word'.Available = 12
number_of_word word'.In = 13
number_of_word word'.If = 14
number_of_word word'.Else = 15
number_of_word word'.While = 16
number_of_word word'.Return = 17
number_of_word word'.Revert = 18
number_of_word word'.Disown = 19
number_of_word word'.New = 20
number_of_word word'.This = 21
number_of_word word'.True = 22
number_of_word word'.False = 23
number_of_word word'.Int = 24
number_of_word word'.Bool = 25
number_of_word word'.String = 26
number_of_word word'.Owned = 27
number_of_word word'.Unowned = 28
number_of_word word'.Shared = 29
number_of_word word'.Where = 30
number_of_word word'.Is = 31

-- the numbers of the signs follow those of the words
abbrev pub number_of_sign : Sign → ℕ
number_of_sign sign'.OpenBrace = 32
number_of_sign sign'.CloseBrace = 33
number_of_sign sign'.OpenParen = 34
number_of_sign sign'.CloseParen = 35
number_of_sign sign'.OpenBracket = 36
number_of_sign sign'.CloseBracket = 37
number_of_sign sign'.Semicolon = 38
number_of_sign sign'.Comma = 39
number_of_sign sign'.Dot = 40
number_of_sign sign'.At = 41
number_of_sign sign'.Bar = 42
number_of_sign sign'.DoubleColon = 43
number_of_sign sign'.Arrow = 44
number_of_sign sign'.DoubleGreater = 45
number_of_sign sign'.Equals = 46
number_of_sign sign'.DoubleEquals = 47
number_of_sign sign'.NotEquals = 48
number_of_sign sign'.Less = 49
number_of_sign sign'.LessEquals = 50
number_of_sign sign'.Greater = 51
number_of_sign sign'.GreaterEquals = 52
number_of_sign sign'.Plus = 53
number_of_sign sign'.Minus = 54
number_of_sign sign'.Star = 55
number_of_sign sign'.Slash = 56
number_of_sign sign'.Percent = 57
number_of_sign sign'.Not = 58
number_of_sign sign'.DoubleAmpersand = 59
number_of_sign sign'.DoubleBar = 60

-- the number of a symbol
abbrev pub number : Symbol → ℕ
number a_name = 0
number a_number = 1
number a_text = 2
number (a_word w) = number_of_word w
number (a_sign s) = number_of_sign s

-- all symbols, in the order of their numbers
abbrev pub symbols : List Symbol
symbols =
    a_name ∷ a_number ∷ a_text
    ∷ a_word word'.Contract ∷ a_word word'.Asset ∷ a_word word'.Main ∷ a_word word'.Interface ∷ a_word word'.Implements ∷ a_word word'.State
    ∷ a_word word'.Transaction ∷ a_word word'.Private ∷ a_word word'.Returns ∷ a_word word'.Available ∷ a_word word'.In ∷ a_word word'.If
    ∷ a_word word'.Else ∷ a_word word'.While ∷ a_word word'.Return ∷ a_word word'.Revert ∷ a_word word'.Disown ∷ a_word word'.New
    ∷ a_word word'.This ∷ a_word word'.True ∷ a_word word'.False ∷ a_word word'.Int ∷ a_word word'.Bool ∷ a_word word'.String
    ∷ a_word word'.Owned ∷ a_word word'.Unowned ∷ a_word word'.Shared ∷ a_word word'.Where ∷ a_word word'.Is
    ∷ a_sign sign'.OpenBrace ∷ a_sign sign'.CloseBrace ∷ a_sign sign'.OpenParen ∷ a_sign sign'.CloseParen ∷ a_sign sign'.OpenBracket ∷ a_sign sign'.CloseBracket
    ∷ a_sign sign'.Semicolon ∷ a_sign sign'.Comma ∷ a_sign sign'.Dot ∷ a_sign sign'.At ∷ a_sign sign'.Bar ∷ a_sign sign'.DoubleColon
    ∷ a_sign sign'.Arrow ∷ a_sign sign'.DoubleGreater ∷ a_sign sign'.Equals ∷ a_sign sign'.DoubleEquals ∷ a_sign sign'.NotEquals ∷ a_sign sign'.Less
    ∷ a_sign sign'.LessEquals ∷ a_sign sign'.Greater ∷ a_sign sign'.GreaterEquals ∷ a_sign sign'.Plus ∷ a_sign sign'.Minus ∷ a_sign sign'.Star
    ∷ a_sign sign'.Slash ∷ a_sign sign'.Percent ∷ a_sign sign'.Not ∷ a_sign sign'.DoubleAmpersand ∷ a_sign sign'.DoubleBar
    ∷ []
