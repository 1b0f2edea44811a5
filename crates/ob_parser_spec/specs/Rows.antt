-- What the rows of a grammar are put together from. A row says which tokens it reads, and the load of each: how many of
-- the things that count are open where it is read.
use Rattle.std.specs.Prelude.{ℕ, ◌≡◌, ◌+◌, ◌⊎◌, Bool, true, false, Option, Some, None, List, [], ◌∷◌, ◌++◌, map}
use Rattle.ob_base.specs.declared.fault.Span.{Span}
use Rattle.ob_lexer.specs.declared.token.Token.{Token}
use Rattle.ob_lexer.specs.declared.token.TokenKind.{TokenKind}
use Rattle.ob_lexer.specs.declared.token.TokenKind.TheVariants as kind
use Rattle.ob_lexer.specs.declared.token.Word.{Word}
use Rattle.ob_lexer.specs.declared.token.Sign.{Sign}
use Rattle.ob_tree.specs.declared.name.NamePart.{NamePart}

-- a token and its load, counted from where its row begins
pub record Loaded : Type 0 where
  pub token : Token
  pub load : ℕ

-- which tokens a row reads
abbrev pub Row : Type 1
Row = List Loaded → Type 0

-- what no tokens spell
pub data Never : Type 0 where

-- what nothing spells
abbrev pub never : Row
never read = Never

-- no tokens
abbrev pub nothing : Row
nothing read = read ≡ []

-- this token alone, with this load
abbrev pub loaded : TokenKind → Span → ℕ → Row
loaded k span load read = read ≡ record { token = record { kind = k; span = span }; load = load } ∷ []

-- a token of this kind, at this place
abbrev pub token_at : TokenKind → Span → Row
token_at k span = loaded k span 0

-- a token of this kind
abbrev pub token : TokenKind → Row
token k read = (span : Span) × token_at k span read

-- a reserved word
abbrev pub word : Word → Row
word w = token (kind.Word w)

-- a sign
abbrev pub sign : Sign → Row
sign s = token (kind.Sign s)

-- a sign that opens what counts
abbrev pub opening : Sign → Row
opening s read = (span : Span) × loaded (kind.Sign s) span 1 read

-- NAME
abbrev pub name : NamePart → Row
name part = token_at (kind.Name part.name) part.span

infixr 5 ◌⨟◌
-- the tokens of one row, and after them those of another
abbrev pub ◌⨟◌ : Row → Row → Row
(first ⨟ second) read = (front back : List Loaded) × (read ≡ front ++ back) × first front × second back

-- the tokens of one row or of another
abbrev pub either : Row → Row → Row
either first second read = first read ⊎ second read

-- a row where this holds
abbrev pub provided : Type 0 → Row → Row
provided holds row read = holds × row read

-- a token under so many more that are open
abbrev pub raise : ℕ → Loaded → Loaded
raise more l = record { token = l.token; load = more + l.load }

-- a row under so many more that are open
abbrev pub raised : ℕ → Row → Row
raised more row read = (low : List Loaded) × (read ≡ map (raise more) low) × row low

-- a row between two signs that count
abbrev pub counted : Sign → Row → Sign → Row
counted left row right = opening left ⨟ raised 1 row ⨟ sign right

-- ["w"]
abbrev pub flag : Word → Bool → Row
flag w true = word w
flag w false = nothing

-- [row]
abbrev pub maybe : {A : Type 0} → (A → Row) → Option A → Row
maybe row None = nothing
maybe row (Some x) = row x

-- {row}
abbrev pub each : {A : Type 0} → (A → Row) → List A → Row
each row [] = nothing
each row (x ∷ xs) = row x ⨟ each row xs

-- row {"s" row}
abbrev pub parted : {A : Type 0} → Sign → (A → Row) → List A → Row
parted s row [] = never
parted s row (x ∷ xs) = row x ⨟ each (λ y. sign s ⨟ row y) xs

-- [row {"s" row}]
abbrev pub maybe_parted : {A : Type 0} → Sign → (A → Row) → List A → Row
maybe_parted s row [] = nothing
maybe_parted s row (x ∷ xs) = parted s row (x ∷ xs)

-- the place from the beginning of one to the end of another
abbrev pub joined : Span → Span → Span
joined from to = record { start = from.start; end = to.end; line = from.line; column = from.column }

-- the place from the first of these tokens to the last
pub record Covers (span : Span) (read : List Loaded) : Type 0 where
  pub first : Loaded
  pub others : List Loaded
  pub begins : read ≡ first ∷ others
  pub before : List Loaded
  pub last : Loaded
  pub ends : read ≡ before ++ last ∷ []
  pub whole : span ≡ joined first.token.span last.token.span

-- a row whose tokens have this place
abbrev pub spanning : Span → Row → Row
spanning span row read = Covers span read × row read
