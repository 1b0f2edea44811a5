-- The laws of operators with one operand.
use Rattle.std.proofs.Common.{ℕ, ◌≡◌, ◌-◌, ◌≤◌, nat_eq, true, false, List, [], ◌∷◌, ◌++◌, map, IsTrue, inl, inr, refl, ap, ◌∙◌, arith}
use Rattle.std.proofs.lemmas.Bool.{eqb-true, eq-eqb, leb-true, le-leb}
use Rattle.ob_base.specs.declared.fault.Span.{Span}
use Rattle.ob_base.specs.declared.operator.Operator.{Operator}
use Rattle.ob_base.specs.declared.operator.Operator.TheVariants as op
use Rattle.ob_lexer.specs.declared.token.Token.{Token}
use Rattle.ob_lexer.specs.declared.token.TokenKind.TheVariants as kind
use Rattle.ob_tree.specs.Exprs.{Expr, unary_expr, binary_expr}
use Rattle.ob_tree.specs.Operators.{sign_of_operator, level_of}
use Rattle.ob_parser_spec.specs.Rows.{Row, Loaded, Covers, never, raise}
use Rattle.ob_parser_spec.specs.ExprRows.{spelled, placed, negation}
use Rattle.ob_parser_spec.specs.Readers.{Reader, read_as, read_either, read_opened, read_spanned}
use Rattle.ob_parser_spec.specs.Chains.{Counted}
use Rattle.ob_parser_spec.specs.ExprReaders.{unary_if, unary_signs, negated}
use Rattle.ob_parser_spec.proofs.Laws.{SpellsAsWell, Sample, Laws, disjoint, ends-twice}
use Rattle.ob_parser_spec.proofs.One.{token_of, free}
use Rattle.ob_parser_spec.proofs.Mapped.{Makes}
use Rattle.ob_parser_spec.proofs.Either.{one_of}
use Rattle.ob_parser_spec.proofs.Opened.{loaded_at, opened, opened_laws}
use Rattle.ob_parser_spec.proofs.Spanned.{with_span}
use Rattle.ob_parser_spec.proofs.RowLaws.{choice_laws, span_laws, made, makes_laws, alike_laws, ends_laws}
use Rattle.ob_parser_spec.proofs.Chains.{Operates, at_level, lower}
use Rattle.ob_parser_spec.proofs.Operators.{operates, takes_row}

-- ---- which tokens they are

-- the token that an operator is
abbrev operator_token : Operator × Span → Token
operator_token x = token_of (kind.Sign (sign_of_operator x.0)) x.1

unary : Operates 7 unary_if
unary = operates 7

-- ---- an operator and its operand

abbrev only_unary : Counted → Row
only_unary (unary_expr o place operand span, n) read = Covers span read × IsTrue (nat_eq (level_of o) 7) × negation o place (placed 7 operand (spelled operand)) n read
only_unary (e, n) read = never read

abbrev unary_parts : ((Operator × Span) × Counted) × Span → Row
unary_parts = with_span (opened unary_if 1 (at_level 7))

only_to : (parts : ((Operator × Span) × Counted) × Span) (read : List Loaded) → unary_parts parts read → only_unary (negated parts) read
only_to ((x, (operand, n)), span) read is =
    let t = is.1.3.0 in
    let low = is.1.4.0 in
    let u = unary.is t x.0 x.1 is.1.3.1 in
    let under : read ≡ map (raise 1) (free t ∷ low) = is.1.2 ∙ ap (λ f. f ++ is.1.1) is.1.3.2 ∙ ap (λ b. loaded_at 1 t ∷ b) is.1.4.1 in
    (is.0, eq-eqb (level_of x.0) 7 u.1, (free t ∷ low, under, (free t ∷ [], low, refl, ap (λ v. free v ∷ []) u.0, is.1.4.2)))

only_from : SpellsAsWell only_unary (made negated unary_parts)
only_from (unary_expr o place operand span, n) read is =
    let t : Token = operator_token (o, place) in
    let low = is.2.2.1 in
    let all : read ≡ loaded_at 1 t ∷ map (raise 1) low = is.2.1 ∙ ap (map (raise 1)) (is.2.2.2 ∙ ap (λ f. f ++ low) is.2.2.3) in (
      (((o, place), (operand, n)), span),
      refl,
      (is.0, (loaded_at 1 t ∷ [], map (raise 1) low, all, (t, unary.of o place (eqb-true (level_of o) 7 is.1), refl), (low, refl, is.2.2.4))),
    )
only_from c read is = elim is [ ]

only_makes : Makes negated unary_parts only_unary
only_makes = record { to = only_to; from = only_from }

-- ---- the row

to : SpellsAsWell (one_of only_unary (at_level 8)) (at_level 7)
to c read (inr is) = lower 7 c read is
to (unary_expr o place operand span, n) read (inl is) = (is.0, inl (le-leb 7 (level_of o) (omega (arith, eqb-true (level_of o) 7 is.1)), (is.1, is.2)))
to c read (inl is) = elim is [ ]

from : (e : Expr) (n : ℕ) (read : List Loaded) → at_level 7 (e, n) read → one_of only_unary (at_level 8) (e, n) read
from e n read (cov, inr is) = inr (cov, inr is)
from (unary_expr o place operand span) n read (cov, inl is) = inl (cov, is.1.0, is.1.1)
from (binary_expr o place left right span) n read (cov, inl is) =
    let many : 7 ≤ level_of o = leb-true 7 (level_of o) is.0 in
    let few : level_of o ≤ 6 = leb-true (level_of o) 6 is.1.0 in
    absurd (omega (arith, many, few))
from e n read (cov, inl is) = inr (cov, inl (refl, is.1))

module _ (first primary_first more : List ℕ) (room : ℕ) (inner : ℕ → Reader Counted) (primary : Reader Counted) (sample : Sample (at_level 7))
    (a : 1 ≤ room → Laws (room - 1) (at_level 7) (inner (room - 1)) first more false) (b : Laws room (at_level 8) primary primary_first more false)
    (apart : disjoint primary_first unary_signs ≡ true) where
  pub unary_laws : Laws room (at_level 7) (read_either unary_signs (read_as negated (read_spanned (read_opened unary_if 1 room inner))) primary) (unary_signs ++ primary_first) more false
  unary_laws =
      let only = makes_laws only_makes (span_laws (opened_laws unary_if 1 room (at_level 7) inner unary_signs first more false (takes_row op.Not) sample a)) in
      ends_laws (ends-twice more) (alike_laws (at_level 7) to (λ c. from c.0 c.1) (choice_laws only b apart))
