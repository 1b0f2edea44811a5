-- What is read of a text at a position.
use Rattle.std.specs.Prelude.{ℕ, ◌≡◌, ◌+◌, ◌≤◌, ⊤, List, [], ◌∷◌, ◌++◌, length, take, drop, fold}
use Rattle.std.specs.Str.{IsUtf8}
use Rattle.ob_base.specs.declared.fault.Span.{Span}
use Rattle.ob_base.specs.declared.fault.ProgramFault.{ProgramFault}
use Rattle.ob_lexer.specs.declared.token.Token.{Token}
use Rattle.ob_lexer.specs.declared.position.Position.{Position}
use Rattle.ob_lexer.specs.declared.step.Step.{Step}
use Rattle.ob_lexer.specs.declared.step.Step.TheVariants as step
use Rattle.ob_lexer.specs.Lexis.{Element, space, comment, token, IsElement, IsLongest}
use Rattle.ob_lexer.specs.Flaws.{Flaw, flaw_at, Begins}
use Rattle.ob_lexer.specs.Lexing.{past}

-- what follows a quote at the text's front is UTF-8
abbrev pub IsUtf8AfterQuote : List ℕ → Type 0
IsUtf8AfterQuote [] = ⊤
IsUtf8AfterQuote (b ∷ rest) = b ≡ 34 → IsUtf8 rest

-- so many bytes at a position
abbrev pub span_at : Position → ℕ → Span
span_at position count = record { start = position.offset; end = position.offset + count; line = position.line; column = position.column }

-- the fault of so many bytes, after others at a position
abbrev pub fault_after : ℕ → Position → List ℕ → ℕ → ProgramFault
fault_after number position before count = record { number = number; span = span_at (fold past position before) count }

-- the text begins with such an element of so many bytes, and no longer one
pub record IsPieceAt (text : List ℕ) (element : Element) (count : ℕ) : Type 0 where
  pub some : 1 ≤ count
  pub within : count ≤ length text
  pub is : IsElement element (take count text)
  pub longest : IsLongest (take count text) (drop count text)

-- the text begins with a fault, so many bytes of it after so many others
pub record IsFlawAt (text : List ℕ) (number before count : ℕ) : Type 0 where
  pub within : before + count ≤ length text
  pub begins : Begins text (flaw_at number (take before text) (take count (drop before text)))

-- a blank or a comment
abbrev pub IsGap : Element → Type 0
IsGap space = ⊤
IsGap comment = ⊤
IsGap (token kind) = ⊥

-- the step says what the text begins with
abbrev pub IsStepAt : List ℕ → Step → Type 0
IsStepAt text (step.Gap count) = (element : Element) × IsGap element × IsPieceAt text element count
IsStepAt text (step.Token kind count) = IsPieceAt text (token kind) count
IsStepAt text (step.Flaw number before count) = IsFlawAt text number before count

-- the token at a position, if the element is one
abbrev pub token_at : Position → Element → ℕ → List Token
token_at position space count = []
token_at position comment count = []
token_at position (token kind) count = record { kind = kind; span = span_at position count } ∷ []

-- A piece of the text was taken up: its token was added, if it is one.
pub record TakesUp (position : Position) (text : List ℕ) (old new : List Token) (count : ℕ) : Type 0 where
  pub element : Element
  pub piece : IsPieceAt text element count
  pub added : new ≡ old ++ token_at position element count

-- The text at the position begins with this fault.
pub record BeginsWith (position : Position) (text : List ℕ) (fault : ProgramFault) : Type 0 where
  pub flaw : Flaw
  pub begins : Begins text flaw
  pub is : fault ≡ fault_after flaw.number position flaw.before (length flaw.bytes)
