-- The short forms of the laws: rows, readers and lists of kinds needn't be named where those of the parts say all.
use Rattle.std.proofs.Common.{ℕ, ◌≡◌, Bool, true, false, ◌&&◌, List, [], ◌∷◌, ◌++◌, Option, refl, sym, append-nil}
use Rattle.ob_base.specs.declared.fault.Span.{Span}
use Rattle.ob_lexer.specs.declared.token.Token.{Token}
use Rattle.ob_lexer.specs.declared.token.TokenKind.TheVariants as kind
use Rattle.ob_lexer.specs.declared.token.Word.{Word}
use Rattle.ob_lexer.specs.declared.token.Sign.{Sign}
use Rattle.ob_parser_spec.specs.Rows.{Row, Loaded, nothing, ◌⨟◌, token_at, maybe}
use Rattle.ob_parser_spec.specs.Symbols.{a_name, a_word, number}
use Rattle.ob_parser_spec.specs.Readers.{Reader, read_token, read_both, read_either, read_as, read_maybe, read_spanned}
use Rattle.ob_parser_spec.specs.NameReaders.{on}
use Rattle.ob_parser_spec.specs.StmtReaders.{read_word, read_sign}
use Rattle.ob_parser_spec.proofs.Laws.{SpellsAsWell, Ends, Laws, disjoint}
use Rattle.ob_parser_spec.proofs.One.{took, Takes, one_laws}
use Rattle.ob_parser_spec.proofs.Both.{both, more_of, first_of, both_laws}
use Rattle.ob_parser_spec.proofs.Mapped.{Makes, as_laws}
use Rattle.ob_parser_spec.proofs.Either.{same_laws, cast_laws, one_of, either_laws}
use Rattle.ob_parser_spec.proofs.Maybe.{maybe_laws}
use Rattle.ob_parser_spec.proofs.Spanned.{with_span, spanned_laws}
use Rattle.ob_parser_spec.proofs.Symbols.{takes_symbol}
use Rattle.ob_parser_spec.proofs.TokenRows.{sign_to, sign_from, word_to, word_from}

-- ---- rows of one token

abbrev pub sign_at : Sign → Span → Row
sign_at s = token_at (kind.Sign s)

abbrev pub word_at : Word → Span → Row
word_at w = token_at (kind.Word w)

-- the kind that a word is, and that of names
abbrev pub at_word : Word → List ℕ
at_word w = number (a_word w) ∷ []

abbrev pub at_name : List ℕ
at_name = number a_name ∷ []

-- a token of which this is read, by the row that it spells
pub token_laws :
    {A : Type 0} {f : Token → Option A} {kinds : List ℕ} (room : ℕ) (row : A → Row) →
    SpellsAsWell (took f) row → SpellsAsWell row (took f) → Takes f kinds → Laws room row (read_token f) kinds [] false
token_laws {f = f} {kinds = kinds} room row to from takes =
    same_laws room (took f) row (read_token f) kinds [] false to from (one_laws room f kinds takes)

pub sign_laws : (room : ℕ) (s : Sign) → Laws room (sign_at s) (read_sign s) (on s) [] false
sign_laws room s = token_laws room (sign_at s) (sign_to s 0) (sign_from s 0) (takes_symbol (kind.Sign s))

pub word_laws : (room : ℕ) (w : Word) → Laws room (word_at w) (read_word w) (at_word w) [] false
word_laws room w = token_laws room (word_at w) (word_to w 0) (word_from w 0) (takes_symbol (kind.Word w))

-- ---- one row after another, and one of two

pub after_laws :
    {A B : Type 0} {room : ℕ} {first : A → Row} {second : B → Row} {p : Reader A} {q : Reader B} →
    {first_p more_p first_q more_q : List ℕ} {null_p null_q : Bool} →
    Laws room first p first_p more_p null_p → Laws room second q first_q more_q null_q → disjoint first_q more_p ≡ true →
    Laws room (both first second) (read_both p q) (first_of null_p first_p first_q) (more_of null_q more_p more_q) (null_p && null_q)
after_laws {room = room} {first = first} {second = second} {p = p} {q = q} {first_p} {more_p} {first_q} {more_q} {null_p} {null_q} a b apart =
    both_laws room first second p q first_p more_p first_q more_q null_p null_q a b apart

pub choice_laws :
    {A : Type 0} {room : ℕ} {first second : A → Row} {p q : Reader A} →
    {first_p more_p first_q more_q : List ℕ} {null_q : Bool} →
    Laws room first p first_p more_p false → Laws room second q first_q more_q null_q → disjoint first_q first_p ≡ true →
    Laws room (one_of first second) (read_either first_p p q) (first_p ++ first_q) (more_of null_q first_p (more_p ++ more_q)) null_q
choice_laws {room = room} {first = first} {second = second} {p = p} {q = q} {first_p} {more_p} {first_q} {more_q} {null_q} a b apart =
    either_laws room first second p q first_p more_p first_q more_q null_q a b apart

-- ---- a row with its place, and one that may be left out

module _ {A : Type 0} {room : ℕ} {reads : A → Row} {p : Reader A} {first more : List ℕ} where
  pub span_laws : Laws room reads p first more false → Laws room (with_span reads) (read_spanned p) first more false
  span_laws a = spanned_laws room reads p first more a

  pub option_laws : Laws room reads p first more false → Laws room (maybe reads) (read_maybe first p) first (more ++ first) true
  option_laws a = maybe_laws room reads p first more a refl

-- ---- what is made of what a row reads, and rows that say the same

-- what is made so, spelled as that of which it is made
abbrev pub made : {A B : Type 0} → (A → B) → (A → Row) → B → Row
made {A} f parts y read = (x : A) × (y ≡ f x) × parts x read

module _ {A : Type 0} {room : ℕ} {reads : A → Row} {p : Reader A} {first more : List ℕ} {null : Bool} where
  -- spelled as is shown
  pub makes_laws :
      {B : Type 0} {f : A → B} {whole : B → Row} →
      Makes f reads whole → Laws room reads p first more null → Laws room whole (read_as f p) first more null
  makes_laws {f = f} {whole = whole} makes a = as_laws room f reads whole p first more null makes a

  -- spelled as its parts are
  pub made_laws : {B : Type 0} (f : A → B) → Laws room reads p first more null → Laws room (made f reads) (read_as f p) first more null
  made_laws f a = makes_laws (record { to = λ x read is. (x, refl, is); from = λ y read is. is }) a

  -- by other rows that say the same
  pub alike_laws :
      (others : A → Row) → SpellsAsWell reads others → SpellsAsWell others reads →
      Laws room reads p first more null → Laws room others p first more null
  alike_laws others to from a = same_laws room reads others p first more null to from a

  -- with another list of what they may go on with
  pub ends_laws :
      {more' : List ℕ} → ((ts : List Token) → Ends more' ts → Ends more ts) →
      Laws room reads p first more null → Laws room reads p first more' null
  ends_laws {more' = more'} ends a = cast_laws room reads p first first more more' null (λ t is. is) (λ t is. is) ends a

-- ---- a row beside nothing

module _ {row : Row} {read : List Loaded} where
  pub nothing_before : (nothing ⨟ row) read → row read
  nothing_before is = rw (is.2, is.3) is.4

  pub nothing_after : (row ⨟ nothing) read → row read
  nothing_after is = rw (is.2, is.4, append-nil is.0) is.3

  pub with_nothing_before : row read → (nothing ⨟ row) read
  with_nothing_before is = ([], read, refl, refl, is)

  pub with_nothing_after : row read → (row ⨟ nothing) read
  with_nothing_after is = (read, [], sym (append-nil read), is, refl)
