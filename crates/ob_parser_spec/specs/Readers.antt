-- Readers: what the parser computes of tokens, a piece for each way to put rows of the grammar together.
use Rattle.std.specs.Prelude.{ℕ, zero, suc, ◌-◌, Bool, false, cond, ◌&&◌, nat_eq, nat_le, Option, Some, None, option_map, List, [], ◌∷◌, length, take, map}
use Rattle.std.specs.List.{find, list_any}
use Rattle.ob_base.specs.declared.fault.Span.{Span}
use Rattle.ob_lexer.specs.declared.token.Token.{Token}
use Rattle.ob_lexer.specs.declared.token.TokenKind.{TokenKind}
use Rattle.ob_lexer.specs.declared.token.TokenKind.TheVariants as kind
use Rattle.ob_tree.specs.declared.name.NamePart.{NamePart}
use Rattle.ob_parser_spec.specs.Rows.{joined}
use Rattle.ob_parser_spec.specs.Symbols.{Symbol, symbol_of, number}

-- what a reader answers, with the tokens that are left: what it has read, or that the first of them isn't expected, or
-- that the load passes the limit there
pub data Read (A : Type 0) : Type 0 where
  done : A → List Token → Read A
  stop : List Token → Read A
  deep : List Token → Read A

-- reads the first of these tokens
abbrev pub Reader : Type 0 → Type 0
Reader A = List Token → Read A

infixl 10 ◌>>=◌
-- goes on with what has been read
abbrev pub ◌>>=◌ : {A B : Type 0} → Read A → (A → List Token → Read B) → Read B
done x rest >>= f = f x rest
stop rest >>= f = stop rest
deep rest >>= f = deep rest

-- the number of a token's symbol
abbrev pub number_of_kind : TokenKind → ℕ
number_of_kind k = number (symbol_of k)

-- whether a token is of one of these kinds
abbrev pub is_of : List ℕ → Token → Bool
is_of kinds t = list_any (nat_eq (number_of_kind t.kind)) kinds

-- whether tokens begin with one of these kinds
abbrev pub begin_with : List ℕ → List Token → Bool
begin_with kinds [] = false
begin_with kinds (t ∷ ts) = is_of kinds t

-- a token that is this, or isn't expected
abbrev pub read_if : {A : Type 0} → Option A → Token → List Token → Read A
read_if (Some x) t ts = done x ts
read_if None t ts = stop (t ∷ ts)

-- the place of a token of this symbol
abbrev pub span_if : Symbol → Token → Option Span
span_if s t = cond (is_of (number s ∷ []) t) (Some t.span) None

-- the first of these whose symbol a token is
abbrev pub one_among : {A : Type 0} → (A → Symbol) → List A → Token → Option A
one_among symbol among t = find (λ x. is_of (number (symbol x) ∷ []) t) among

-- the first of these whose symbol a token is, with the token's place
abbrev pub one_if : {A : Type 0} → (A → Symbol) → List A → Token → Option (A × Span)
one_if symbol among t = option_map (λ x. (x, t.span)) (one_among symbol among t)

-- the kinds of the symbols of these
abbrev pub kinds_among : {A : Type 0} → (A → Symbol) → List A → List ℕ
kinds_among symbol among = map (λ x. number (symbol x)) among

-- a name with its place
abbrev pub name_of : TokenKind → Span → Option NamePart
name_of (kind.Name n) span = Some (record { name = n; span = span })
name_of k span = None

-- the name that a token is, with its place
abbrev pub name_if : Token → Option NamePart
name_if t = name_of t.kind t.span

-- one token, of which this is read
abbrev pub read_token : {A : Type 0} → (Token → Option A) → Reader A
read_token f [] = stop []
read_token f (t ∷ ts) = read_if (f t) t ts

-- what the row that follows gives after what has been read
abbrev pub and_after : {A B : Type 0} → (A → Reader B) → A → List Token → Read (A × B)
and_after q x mid = q x mid >>= (λ y rest. done (x, y) rest)

-- a row, and after it the one that follows what has been read
abbrev pub read_then : {A B : Type 0} → Reader A → (A → Reader B) → Reader (A × B)
read_then p q ts = p ts >>= and_after q

-- one row after another
abbrev pub read_both : {A B : Type 0} → Reader A → Reader B → Reader (A × B)
read_both p q = read_then p (λ x. q)

-- one of two rows, as the first token says
abbrev pub read_either : {A : Type 0} → List ℕ → Reader A → Reader A → Reader A
read_either kinds p q ts = cond (begin_with kinds ts) (p ts) (q ts)

-- whether tokens begin with one of these kinds, and after it one of others
abbrev pub begin_with_both : List ℕ → List ℕ → List Token → Bool
begin_with_both kinds others [] = false
begin_with_both kinds others (t ∷ ts) = is_of kinds t && begin_with others ts

-- one of two rows, as the first two tokens say
abbrev pub read_ahead : {A : Type 0} → List ℕ → List ℕ → Reader A → Reader A → Reader A
read_ahead kinds others p q ts = cond (begin_with_both kinds others ts) (p ts) (q ts)

-- something made of what a row reads
abbrev pub read_as : {A B : Type 0} → (A → B) → Reader A → Reader B
read_as f p ts = p ts >>= (λ x rest. done (f x) rest)

-- a token under so many that are open, if there is room, and after it a row in the room that is left
abbrev pub open_if : {A B : Type 0} → Option A → ℕ → ℕ → (ℕ → Reader B) → Token → List Token → Read (A × B)
open_if (Some x) more room p t ts = cond (nat_le more room) (p (room - more) ts >>= (λ y rest. done (x, y) rest)) (deep (t ∷ ts))
open_if None more room p t ts = stop (t ∷ ts)

-- a token that opens so many, and after it a row in the room that is left
abbrev pub read_opened : {A B : Type 0} → (Token → Option A) → ℕ → ℕ → (ℕ → Reader B) → Reader (A × B)
read_opened f more room p [] = stop []
read_opened f more room p (t ∷ ts) = open_if (f t) more room p t ts

-- a row that may be left out
abbrev pub read_maybe : {A : Type 0} → List ℕ → Reader A → Reader (Option A)
read_maybe kinds p ts = cond (begin_with kinds ts) (p ts >>= (λ x rest. done (Some x) rest)) (done None ts)

-- the place of the last of these tokens
abbrev pub last_span : Token → List Token → Span
last_span t [] = t.span
last_span t (u ∷ us) = last_span u us

-- the place from the first of these tokens to the last
abbrev pub span_of_tokens : List Token → Span
span_of_tokens [] = record { start = 0; end = 0; line = 0; column = 0 }
span_of_tokens (t ∷ ts) = joined t.span (last_span t ts)

-- the place of what stands before the tokens that are left
abbrev pub span_between : List Token → List Token → Span
span_between ts rest = span_of_tokens (take (length ts - length rest) ts)

-- a row with its place
abbrev pub read_spanned : {A : Type 0} → Reader A → Reader (A × Span)
read_spanned p ts = p ts >>= (λ x rest. done (x, span_between ts rest) rest)

-- an element before others
abbrev pub put_before : {A : Type 0} → A × List A → List A
put_before pair = pair.0 ∷ pair.1

-- Rows one after the other, while the next token begins one; so many of them at most. What is read of one may say how the
-- next one is read.
abbrev pub read_each : {A S : Type 0} → List ℕ → (S → Reader A) → (S → A → S) → ℕ → S → Reader (List A)
read_each kinds p next zero s = λ ts. done [] ts
read_each kinds p next (suc n) s = read_either kinds (read_as put_before (read_then (p s) (λ x. read_each kinds p next n (next s x)))) (λ ts. done [] ts)

-- as many as there are
abbrev pub read_many_from : {A S : Type 0} → List ℕ → (S → Reader A) → (S → A → S) → S → Reader (List A)
read_many_from kinds p next s ts = read_each kinds p next (suc (length ts)) s ts

-- rows that are read alike
abbrev pub read_many : {A : Type 0} → List ℕ → Reader A → Reader (List A)
read_many kinds p = read_many_from {S = Unit {0}} kinds (λ u. p) (λ u x. u) tt
