-- The laws of literals, and of primary expressions.
use Rattle.std.proofs.Common.{ℕ, ◌≡◌, nat_le, Bool, true, false, List, [], ◌∷◌, ◌++◌, Some, None, IsTrue, inl, inr, refl, sym, ap, subst, ◌∙◌}
use Rattle.std.proofs.lemmas.Bool.{false≢true}
use Rattle.ob_base.specs.declared.fault.Span.{Span}
use Rattle.ob_base.specs.declared.operator.Operator.{Operator}
use Rattle.ob_base.specs.declared.operator.Operator.TheVariants as op
use Rattle.ob_lexer.specs.declared.token.TokenKind.{TokenKind}
use Rattle.ob_lexer.specs.declared.token.TokenKind.TheVariants as kind
use Rattle.ob_lexer.specs.declared.token.Word.TheVariants as word'
use Rattle.ob_lexer.specs.declared.token.Sign.TheVariants as sign'
use Rattle.ob_tree.specs.Names.{Ref}
use Rattle.ob_tree.specs.Exprs.{Expr, number_expr, text_expr, bool_expr, name_expr, this_expr, unary_expr, binary_expr, call_expr, new_expr, call_with}
use Rattle.ob_tree.specs.Operators.{level_of, level}
use Rattle.ob_tree.specs.Words.{word_of_bool}
use Rattle.ob_tree.specs.declared.name.Subject.TheVariants as subject'
use Rattle.ob_parser_spec.specs.Rows.{Row, Loaded, Covers, never, token}
use Rattle.ob_parser_spec.specs.ExprRows.{spelled}
use Rattle.ob_parser_spec.specs.Symbols.{a_name, a_word, a_sign, number}
use Rattle.ob_parser_spec.specs.Readers.{Reader, is_of, read_token}
use Rattle.ob_parser_spec.specs.NameReaders.{on}
use Rattle.ob_parser_spec.specs.Chains.{Counted}
use Rattle.ob_parser_spec.specs.Primaries.{expr_first, literal_of, literal_if, literals, read_primary}
use Rattle.ob_parser_spec.specs.StmtReaders.{call_signs}
use Rattle.ob_parser_spec.proofs.Laws.{SpellsAsWell, Sample, Laws, disjoint}
use Rattle.ob_parser_spec.proofs.One.{token_of, somewhere, free, took, Takes}
use Rattle.ob_parser_spec.proofs.Either.{one_of}
use Rattle.ob_parser_spec.proofs.Spanned.{covers_one, one_covers}
use Rattle.ob_parser_spec.proofs.RowLaws.{token_laws, choice_laws, alike_laws}
use Rattle.ob_parser_spec.proofs.NameLaws.{InnerRefs}
use Rattle.ob_parser_spec.proofs.Chains.{at_level}
use Rattle.ob_parser_spec.proofs.Groups.{only_group, group_laws}
use Rattle.ob_parser_spec.proofs.PrimaryLaws.{plain, only_new, only_this, only_name, Inner, new_laws, this_laws, name_tail_laws}

-- ---- literals

abbrev only_literal : Counted → Row
only_literal (number_expr value span, n) = plain (number_expr value span, n)
only_literal (text_expr value span, n) = plain (text_expr value span, n)
only_literal (bool_expr value span, n) = plain (bool_expr value span, n)
only_literal c = never

literal_in : (k : TokenKind) (span : Span) (c : Counted) → literal_of k span ≡ Some c → (read : List Loaded) → read ≡ free (token_of k span) ∷ [] → only_literal c read
literal_in (kind.Number value) span c e read is = let same : (number_expr value span, 0) ≡ c = cc in rw (← same) (one_covers is, refl, (refl, (span, is)))
literal_in (kind.Text value) span c e read is = let same : (text_expr value span, 0) ≡ c = cc in rw (← same) (one_covers is, refl, (refl, (span, is)))
literal_in (kind.Word word'.True) span c e read is = let same : (bool_expr true span, 0) ≡ c = cc in rw (← same) (one_covers is, refl, (refl, (span, is)))
literal_in (kind.Word word'.False) span c e read is = let same : (bool_expr false span, 0) ≡ c = cc in rw (← same) (one_covers is, refl, (refl, (span, is)))
literal_in k span c e read is = absurd cc

literal_to : SpellsAsWell (took literal_if) only_literal
literal_to c read is = literal_in is.0.kind is.0.span c is.1 read is.2

bool_read : (value : Bool) (span : Span) → literal_of (kind.Word (word_of_bool value)) span ≡ Some (bool_expr value span, 0)
bool_read true span = refl
bool_read false span = refl

-- a token of which this is read wherever it stands
literal_at : (literal : Span → Expr) (k : TokenKind) → ((at : Span) → literal_of k at ≡ Some (literal at, 0)) → (span : Span) (n : ℕ) (read : List Loaded) →
    Covers span read → n ≡ 0 → token k read → took literal_if (literal span, n) read
literal_at literal k reads span n read cov none (at, is) =
    (token_of k at, reads at ∙ ap (λ s. Some (literal s, 0)) (sym (covers_one is cov)) ∙ ap (λ m. Some (literal span, m)) (sym none), is)

literal_from : SpellsAsWell only_literal (took literal_if)
literal_from (number_expr value span, n) read is = literal_at (number_expr value) (kind.Number value) (λ at. refl) span n read is.0 is.1 is.2.1
literal_from (text_expr value span, n) read is = literal_at (text_expr value) (kind.Text value) (λ at. refl) span n read is.0 is.1 is.2.1
literal_from (bool_expr value span, n) read is = literal_at (bool_expr value) (kind.Word (word_of_bool value)) (bool_read value) span n read is.0 is.1 is.2.1
literal_from c read is = elim is [ ]

literal_listed : (k : TokenKind) (span : Span) (c : Counted) → literal_of k span ≡ Some c → IsTrue (is_of literals (token_of k span))
literal_listed (kind.Number value) span c e = refl
literal_listed (kind.Text value) span c e = refl
literal_listed (kind.Word word'.True) span c e = refl
literal_listed (kind.Word word'.False) span c e = refl
literal_listed k span c e = absurd cc

-- (the clause for one sign has the last one checked sign by sign)
some_literal : (k : TokenKind) (span : Span) → IsTrue (is_of literals (token_of k span)) → (c : Counted) × (literal_of k span ≡ Some c)
some_literal (kind.Number value) span is = ((number_expr value span, 0), refl)
some_literal (kind.Text value) span is = ((text_expr value span, 0), refl)
some_literal (kind.Word word'.True) span is = ((bool_expr true span, 0), refl)
some_literal (kind.Word word'.False) span is = ((bool_expr false span, 0), refl)
some_literal (kind.Sign sign'.At) span is = absurd cc
some_literal k span is = absurd cc

takes_literal : Takes literal_if literals
takes_literal = record {
  of = λ t is. some_literal t.kind t.span is;
  is = λ t c e. literal_listed t.kind t.span c e;
  token = token_of (kind.Word word'.True) somewhere;
  value = (bool_expr true somewhere, 0);
  one = refl;
}

literal_laws : (room : ℕ) → Laws room only_literal (read_token literal_if) literals [] false
literal_laws room = token_laws room only_literal literal_to literal_from takes_literal

-- ---- primary expressions

abbrev all : Counted → Row
all = one_of only_group (one_of only_new (one_of only_name (one_of only_this only_literal)))

-- an expression of the tightest level
settled : (e : Expr) (n : ℕ) (read : List Loaded) → IsTrue (nat_le 8 (level e)) → plain (e, n) read → at_level 8 (e, n) read
settled e n read high is = (is.0, inl (high, subst (λ k. spelled e k read) (sym is.1) is.2))

new_in : SpellsAsWell only_new (at_level 8)
new_in (new_expr of args span, n) read is = settled (new_expr of args span) n read refl is
new_in c read is = elim is [ ]

name_in : SpellsAsWell only_name (at_level 8)
name_in (name_expr part span, n) read is = settled (name_expr part span) n read refl is
name_in (call_expr (call_with None part args) span, n) read is = settled (call_expr (call_with None part args) span) n read refl is
name_in (call_expr (call_with (Some (subject'.Name x)) part args) span, n) read is = settled (call_expr (call_with (Some (subject'.Name x)) part args) span) n read refl is
name_in c read is = elim is [ ]

this_in : SpellsAsWell only_this (at_level 8)
this_in (this_expr place span, n) read is = settled (this_expr place span) n read refl is
this_in (call_expr (call_with (Some (subject'.This x)) part args) span, n) read is = settled (call_expr (call_with (Some (subject'.This x)) part args) span) n read refl is
this_in c read is = elim is [ ]

literal_settled : SpellsAsWell only_literal (at_level 8)
literal_settled (number_expr value span, n) read is = settled (number_expr value span) n read refl is
literal_settled (text_expr value span, n) read is = settled (text_expr value span) n read refl is
literal_settled (bool_expr value span, n) read is = settled (bool_expr value span) n read refl is
literal_settled c read is = elim is [ ]

all_to : SpellsAsWell all (at_level 8)
all_to c read (inl is) = (is.0, inr (is.1, is.2, is.3, is.4))
all_to c read (inr (inl is)) = new_in c read is
all_to c read (inr (inr (inl is))) = name_in c read is
all_to c read (inr (inr (inr (inl is)))) = this_in c read is
all_to c read (inr (inr (inr (inr is)))) = literal_settled c read is

-- (a clause for one operator has the next one checked for each of the others)
too_low : (o : Operator) → ¬ (IsTrue (nat_le 8 (level_of o)))
too_low op.Add is = false≢true is
too_low o is = false≢true is

all_from : (e : Expr) (n : ℕ) (read : List Loaded) → at_level 8 (e, n) read → all (e, n) read
all_from e n read (cov, inr is) = inl (cov, is.0, is.1, is.2, is.3)
all_from (number_expr value span) n read (cov, inl is) = inr (inr (inr (inr (cov, is.1.0, (refl, is.1.1)))))
all_from (text_expr value span) n read (cov, inl is) = inr (inr (inr (inr (cov, is.1.0, (refl, is.1.1)))))
all_from (bool_expr value span) n read (cov, inl is) = inr (inr (inr (inr (cov, is.1.0, (refl, is.1.1)))))
all_from (name_expr part span) n read (cov, inl is) = inr (inr (inl (cov, is.1.0, (refl, is.1.1))))
all_from (this_expr place span) n read (cov, inl is) = inr (inr (inr (inl (cov, is.1.0, (refl, is.1.1)))))
all_from (unary_expr o place operand span) n read (cov, inl is) = absurd (too_low o is.0)
all_from (binary_expr o place left right span) n read (cov, inl is) = absurd (too_low o is.0)
all_from (call_expr (call_with None part args) span) n read (cov, inl is) = inr (inr (inl (cov, is.1.0, (refl, is.1.1))))
all_from (call_expr (call_with (Some (subject'.Name x)) part args) span) n read (cov, inl is) = inr (inr (inl (cov, is.1.0, (refl, is.1.1))))
all_from (call_expr (call_with (Some (subject'.This x)) part args) span) n read (cov, inl is) = inr (inr (inr (inl (cov, is.1.0, (refl, is.1.1)))))
all_from (new_expr of args span) n read (cov, inl is) = inr (inl (cov, is.1.0, (refl, is.1.1)))

-- what a primary expression begins with
abbrev pub primary_first : List ℕ
primary_first = number (a_sign sign'.OpenParen) ∷ number (a_word word'.New) ∷ number a_name ∷ number (a_word word'.This) ∷ literals

module _ (room : ℕ) (refs : ℕ → Reader Ref) (inner : ℕ → Reader Counted) (more : List ℕ) (sample : Sample (at_level 1))
    (r : InnerRefs room refs) (a : Inner room inner more) (apart : disjoint (on sign'.Comma) more ≡ true)
    (closes : disjoint (on sign'.CloseParen) ((more ++ on sign'.Comma) ++ expr_first) ≡ true) (shut : disjoint (on sign'.CloseParen) more ≡ true) where
  pub primary_laws : Laws room (at_level 8) (read_primary refs inner room) primary_first (call_signs ++ on sign'.Dot) false
  primary_laws =
      let this' = choice_laws (this_laws room refs inner more r a apart closes) (literal_laws room) refl in
      let named = choice_laws (name_tail_laws room refs inner more r a apart closes) this' refl in
      let new = choice_laws (new_laws room refs inner more r a apart closes) named refl in
      let group = choice_laws (group_laws room inner expr_first more sample a shut) new refl in
      alike_laws (at_level 8) all_to (λ c. all_from c.0 c.1) group
