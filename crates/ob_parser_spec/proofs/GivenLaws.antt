-- The laws of statements that change the state.
use Rattle.std.proofs.Common.{ℕ, true, false, List, [], ◌∷◌, Option, Some, None, inl, inr, refl}
use Rattle.ob_lexer.specs.declared.token.Sign.TheVariants as sign'
use Rattle.ob_tree.specs.Exprs.{Expr}
use Rattle.ob_tree.specs.Stmts.{GivenExpr, Stmt}
use Rattle.ob_parser_spec.specs.Rows.{Row, Loaded, name, maybe, maybe_parted}
use Rattle.ob_parser_spec.specs.ExprRows.{expr}
use Rattle.ob_parser_spec.specs.StmtRows.{given, all_given}
use Rattle.ob_parser_spec.specs.Readers.{Reader}
use Rattle.ob_parser_spec.specs.NameReaders.{on}
use Rattle.ob_parser_spec.specs.Primaries.{expr_first}
use Rattle.ob_parser_spec.specs.MemberReaders.{list_of}
use Rattle.ob_parser_spec.specs.StmtReaders.{given_of, read_given, read_all_given, change_of, read_change}
use Rattle.ob_parser_spec.proofs.Laws.{SpellsAsWell, Laws}
use Rattle.ob_parser_spec.proofs.Both.{both}
use Rattle.ob_parser_spec.proofs.Mapped.{Makes}
use Rattle.ob_parser_spec.proofs.Spanned.{with_span}
use Rattle.ob_parser_spec.proofs.RowLaws.{sign_at, at_name, sign_laws, after_laws, span_laws, option_laws, made, makes_laws, made_laws, nothing_before, with_nothing_before}
use Rattle.ob_parser_spec.proofs.Lists.{between_signs, between_laws}
use Rattle.ob_parser_spec.proofs.NameLaws.{name_laws}
use Rattle.ob_parser_spec.proofs.DepthLaws.{after_expr}
use Rattle.ob_parser_spec.proofs.FieldLaws.{maybe_parted_laws}

-- ---- a field and its value

given_makes : Makes given_of (both name (both (sign_at sign'.Equals) expr)) given
given_makes = record {
  to = λ parts read is. (is.0, is.1, is.2, is.3, (is.4.0, is.4.1, is.4.2, (parts.1.0, is.4.3), is.4.4));
  from = λ g read is. ((g.field, (is.4.3.0, g.value)), refl, (is.0, is.1, is.2, is.3, (is.4.0, is.4.1, is.4.2, is.4.3.1, is.4.4)));
}

-- ---- fields with their values, in parentheses

abbrev in_parens : List GivenExpr → Row
in_parens = between_signs sign'.OpenParen (maybe_parted sign'.Comma given) sign'.CloseParen

in_parens_to : SpellsAsWell in_parens all_given
in_parens_to [] read is = inr (is.0, is.1, is.2, is.3, nothing_before is.4)
in_parens_to (g ∷ gs) read is = is

all_to : (o : Option (List GivenExpr)) (read : List Loaded) → maybe in_parens o read → all_given (list_of o) read
all_to None read is = inl is
all_to (Some gs) read is = in_parens_to gs read is

all_from : SpellsAsWell all_given (made list_of (maybe in_parens))
all_from [] read (inl is) = (None, refl, is)
all_from [] read (inr is) = (Some [], refl, (is.0, is.1, is.2, is.3, with_nothing_before is.4))
all_from (g ∷ gs) read is = (Some (g ∷ gs), refl, is)

all_makes : Makes list_of (maybe in_parens) all_given
all_makes = record { to = all_to; from = all_from }

-- ---- the statement

abbrev pub changes : Stmt → Row
changes = made change_of (with_span (both (sign_at sign'.Arrow) (both name (both all_given (sign_at sign'.Semicolon)))))

module _ (room : ℕ) (exprs : Reader Expr) (e : Laws room expr exprs expr_first after_expr false) where
  pub given_laws : Laws room given (read_given exprs) at_name after_expr false
  given_laws = makes_laws given_makes (after_laws (name_laws room) (after_laws (sign_laws room sign'.Equals) e refl) refl)

  all_given_laws : Laws room all_given (read_all_given exprs) (on sign'.OpenParen) (on sign'.OpenParen) true
  all_given_laws =
      let list = maybe_parted_laws sign'.Comma room given (read_given exprs) at_name after_expr given_laws refl in
      makes_laws all_makes (option_laws (between_laws sign'.OpenParen sign'.CloseParen list refl))

  pub change_laws : Laws room changes (read_change exprs) (on sign'.Arrow) [] false
  change_laws =
      let values = after_laws all_given_laws (sign_laws room sign'.Semicolon) refl in
      made_laws change_of (span_laws (after_laws (sign_laws room sign'.Arrow) (after_laws (name_laws room) values refl) refl))
