-- What a row says of the tree whose tokens it reads, where what these represent is in range.
use Rattle.std.proofs.Common.{ℕ, ◌⊎◌, inl, inr, List, [], ◌∷◌, ◌++◌, map, IsTrue, subst}
use Rattle.std.specs.List.{AllByRecursion}
use Rattle.ob_base.specs.Names.{is_name}
use Rattle.ob_base.specs.declared.fault.Span.{Span}
use Rattle.ob_lexer.specs.declared.token.Sign.{Sign}
use Rattle.ob_lexer.specs.declared.token.TokenKind.{TokenKind}
use Rattle.ob_lexer.specs.declared.token.TokenKind.TheVariants as kind
use Rattle.ob_parser_spec.specs.Rows.{Row, Loaded, never, ◌⨟◌, token, token_at, either, provided, raise, raised, counted, each, spanning}
use Rattle.ob_parser_spec.specs.Grammar.{tokens_of}
use Rattle.ob_parser_laws.proofs.TokenValues.{IsInRange, AreInRange}

-- what the tokens that were read represent is in range
abbrev pub ReadInRange : List Loaded → Type 0
ReadInRange read = AllByRecursion (λ (l : Loaded). IsInRange l.token.kind) read

-- this holds where the row reads tokens that are in range
pub record Says (row : Row) (Holds : Type 0) : Type 0 where
  pub says : (read : List Loaded) → ReadInRange read → row read → Holds

pub tokens_in_range : (read : List Loaded) → AreInRange (tokens_of read) → ReadInRange read
tokens_in_range [] ranges = tt
tokens_in_range (l ∷ read) ranges = (ranges.0, tokens_in_range read ranges.1)

front_in_range : (front back : List Loaded) → ReadInRange (front ++ back) → ReadInRange front
front_in_range [] back ranges = tt
front_in_range (l ∷ front) back ranges = (ranges.0, front_in_range front back ranges.1)

back_in_range : (front back : List Loaded) → ReadInRange (front ++ back) → ReadInRange back
back_in_range [] back ranges = ranges
back_in_range (l ∷ front) back ranges = back_in_range front back ranges.1

low_in_range : (more : ℕ) (low : List Loaded) → ReadInRange (map (raise more) low) → ReadInRange low
low_in_range more [] ranges = tt
low_in_range more (l ∷ low) ranges = (ranges.0, low_in_range more low ranges.1)

-- ---- rows

pub never_says : {Holds : Type 0} → Says never Holds
never_says = record { says = λ read ranges is. elim is [ ] }

-- what holds anyway
pub holds : {row : Row} {Holds : Type 0} → Holds → Says row Holds
holds h = record { says = λ read ranges is. h }

pub both_say : {row : Row} {One Other : Type 0} → Says row One → Says row Other → Says row (One × Other)
both_say a b = record { says = λ read ranges is. (a.says read ranges is, b.says read ranges is) }

pub so_says : {row : Row} {One Other : Type 0} → (One → Other) → Says row One → Says row Other
so_says f a = record { says = λ read ranges is. f (a.says read ranges is) }

pub name_says : {name : List ℕ} {span : Span} → Says (token_at (kind.Name name) span) (IsTrue (is_name name))
name_says = record { says = λ read ranges is. (subst ReadInRange is ranges).0 }

-- of the token of a number or a string
pub token_says : {k : TokenKind} → Says (token k) (IsInRange k)
token_says = record { says = λ read ranges is. (subst ReadInRange is.1 ranges).0 }

pub first_says : {row others : Row} {Holds : Type 0} → Says row Holds → Says (row ⨟ others) Holds
first_says a =
    record { says = λ read ranges is. a.says is.0 (front_in_range is.0 is.1 (subst ReadInRange is.2 ranges)) is.3 }

pub then_says : {first row : Row} {Holds : Type 0} → Says row Holds → Says (first ⨟ row) Holds
then_says a =
    record { says = λ read ranges is. a.says is.1 (back_in_range is.0 is.1 (subst ReadInRange is.2 ranges)) is.4 }

pub spanning_says : {span : Span} {row : Row} {Holds : Type 0} → Says row Holds → Says (spanning span row) Holds
spanning_says a = record { says = λ read ranges is. a.says read ranges is.1 }

pub provided_says : {condition Holds : Type 0} {row : Row} → (condition → Says row Holds)
    → Says (provided condition row) Holds
provided_says f = record { says = λ read ranges is. (f is.0).says read ranges is.1 }

pub either_says : {one other : Row} {Holds : Type 0} → Says one Holds → Says other Holds → Says (either one other) Holds
either_says {one} {other} {Holds} a b = record { says = by }
  where
    by : (read : List Loaded) → ReadInRange read → one read ⊎ other read → Holds
    by read ranges (inl is) = a.says read ranges is
    by read ranges (inr is) = b.says read ranges is

pub raised_says : (more : ℕ) {row : Row} {Holds : Type 0} → Says row Holds → Says (raised more row) Holds
raised_says more a =
    record { says = λ read ranges is. a.says is.0 (low_in_range more is.0 (subst ReadInRange is.1 ranges)) is.2 }

pub counted_says : {left right : Sign} {row : Row} {Holds : Type 0} → Says row Holds
    → Says (counted left row right) Holds
counted_says a = then_says (first_says (raised_says 1 a))

pub each_says : {A : Type 0} (row : A → Row) (Holds : A → Type 0) → ((x : A) → Says (row x) (Holds x)) → (xs : List A)
    → Says (each row xs) (AllByRecursion Holds xs)
each_says row Holds all [] = holds tt
each_says row Holds all (x ∷ xs) = both_say (first_says (all x)) (then_says (each_says row Holds all xs))
