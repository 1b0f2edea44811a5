-- Which tokens are the operators of a row.
use Rattle.std.proofs.Common.{ℕ, ◌≡◌, nat_eq, ◌&&◌, [], ◌∷◌, Some, refl, sym, subst, ◌∙◌}
use Rattle.std.proofs.lemmas.Bool.{and_parts, eqb-true}
use Rattle.ob_base.specs.declared.fault.Span.{Span}
use Rattle.ob_base.specs.declared.operator.Operator.{Operator}
use Rattle.ob_base.specs.declared.operator.Operator.TheVariants as op
use Rattle.ob_lexer.specs.declared.token.Token.{Token}
use Rattle.ob_lexer.specs.declared.token.TokenKind.TheVariants as kind
use Rattle.ob_tree.specs.Operators.{operators, sign_of_operator, level_of}
use Rattle.ob_parser_spec.specs.Symbols.{number}
use Rattle.ob_parser_spec.specs.Readers.{is_of}
use Rattle.ob_parser_spec.specs.Operators.{symbol_of_operator, operators_of_level, operator_of, operator_if, signs_of_level}
use Rattle.ob_parser_spec.proofs.One.{token_of, somewhere, Takes}
use Rattle.ob_parser_spec.proofs.TokenRows.{is_sign, token_is}
use Rattle.ob_parser_spec.proofs.Searches.{found, find-filter, some_placed, one_is, takes_among}
use Rattle.ob_parser_spec.proofs.Chains.{Operates}

-- each operator is found by its sign, in its row
stands : (o : Operator) (span : Span) → operator_if (level_of o) (token_of (kind.Sign (sign_of_operator o)) span) ≡ Some (o, span)
stands op.Add span = refl
stands o span = refl

of_its_row : (row : ℕ) (o : Operator) (span : Span) → level_of o ≡ row → operator_if row (token_of (kind.Sign (sign_of_operator o)) span) ≡ Some (o, span)
of_its_row row o span same = subst (λ n. operator_if n (token_of (kind.Sign (sign_of_operator o)) span) ≡ Some (o, span)) same (stands o span)

in_row : (row : ℕ) (t : Token) (o : Operator) → operator_of row t ≡ Some o → level_of o ≡ row
in_row row t o e =
    let test = λ (p : Operator). is_of (number (symbol_of_operator p) ∷ []) t in
    let both = found (λ p. nat_eq (level_of p) row && test p) operators o (sym (find-filter (λ p. nat_eq (level_of p) row) test operators) ∙ e) in
    eqb-true (level_of o) row (and_parts (nat_eq (level_of o) row) (test o) both).0

pub operates : (row : ℕ) → Operates row (operator_if row)
operates row = record {
  is = λ t o span e.
      let one = one_is symbol_of_operator (operators_of_level row) t (o, span) e in
      (token_is t (kind.Sign (sign_of_operator o)) span (is_sign t.kind (sign_of_operator o) one.0) one.1, in_row row t o (some_placed (operator_of row t) t.span (o, span) e).0);
  of = λ o span same. of_its_row row o span same;
}

-- the operators of a row with this one
pub takes_row : (o : Operator) → Takes (operator_if (level_of o)) (signs_of_level (level_of o))
takes_row o = takes_among symbol_of_operator (operators_of_level (level_of o)) (token_of (kind.Sign (sign_of_operator o)) somewhere) (o, somewhere) (stands o somewhere)
