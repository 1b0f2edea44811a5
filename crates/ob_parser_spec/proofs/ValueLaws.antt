-- The laws of statements that return, revert, disown and assert.
use Rattle.std.proofs.Common.{ℕ, false, [], Option, refl}
use Rattle.ob_base.specs.declared.fault.Span.{Span}
use Rattle.ob_lexer.specs.declared.token.Word.{Word}
use Rattle.ob_lexer.specs.declared.token.Word.TheVariants as word'
use Rattle.ob_lexer.specs.declared.token.Sign.TheVariants as sign'
use Rattle.ob_tree.specs.Exprs.{Expr}
use Rattle.ob_tree.specs.Stmts.{Stmt}
use Rattle.ob_parser_spec.specs.Rows.{Row, name, maybe}
use Rattle.ob_parser_spec.specs.NameRows.{subject, perm}
use Rattle.ob_parser_spec.specs.ExprRows.{expr}
use Rattle.ob_parser_spec.specs.Readers.{Reader}
use Rattle.ob_parser_spec.specs.NameReaders.{on}
use Rattle.ob_parser_spec.specs.Primaries.{expr_first}
use Rattle.ob_parser_spec.specs.StmtReaders.{read_with_value, return_of, read_return, revert_of, read_revert, disown_of, read_disown, assert_of, read_assert}
use Rattle.ob_parser_spec.proofs.Laws.{Laws}
use Rattle.ob_parser_spec.proofs.Both.{both}
use Rattle.ob_parser_spec.proofs.Spanned.{with_span}
use Rattle.ob_parser_spec.proofs.RowLaws.{sign_at, word_at, at_word, sign_laws, word_laws, after_laws, span_laws, option_laws, made, made_laws}
use Rattle.ob_parser_spec.proofs.NameLaws.{name_laws, perm_laws}
use Rattle.ob_parser_spec.proofs.DepthLaws.{after_expr}
use Rattle.ob_parser_spec.proofs.ParamLaws.{subject_laws}

-- ---- rows

-- a word, and the value after it, which may be left out
abbrev pub with_value : Word → (Span × (Option Expr × Span)) × Span → Row
with_value w = with_span (both (word_at w) (both (maybe expr) (sign_at sign'.Semicolon)))

abbrev pub returns : Stmt → Row
returns = made return_of (with_value word'.Return)

abbrev pub reverts : Stmt → Row
reverts = made revert_of (with_value word'.Revert)

abbrev pub disowns : Stmt → Row
disowns = made disown_of (with_span (both (word_at word'.Disown) (both name (sign_at sign'.Semicolon))))

abbrev pub asserts : Stmt → Row
asserts = made assert_of (with_span (both (sign_at sign'.OpenBracket) (both subject (both (sign_at sign'.At) (both perm (both (sign_at sign'.CloseBracket) (sign_at sign'.Semicolon)))))))

-- ---- their laws

module _ (room : ℕ) (exprs : Reader Expr) (e : Laws room expr exprs expr_first after_expr false) where
  with_value_laws : (w : Word) → Laws room (with_value w) (read_with_value w exprs) (at_word w) [] false
  with_value_laws w = span_laws (after_laws (word_laws room w) (after_laws (option_laws e) (sign_laws room sign'.Semicolon) refl) refl)

  pub return_laws : Laws room returns (read_return exprs) (at_word word'.Return) [] false
  return_laws = made_laws return_of (with_value_laws word'.Return)

  pub revert_laws : Laws room reverts (read_revert exprs) (at_word word'.Revert) [] false
  revert_laws = made_laws revert_of (with_value_laws word'.Revert)

pub disown_laws : (room : ℕ) → Laws room disowns read_disown (at_word word'.Disown) [] false
disown_laws room = made_laws disown_of (span_laws (after_laws (word_laws room word'.Disown) (after_laws (name_laws room) (sign_laws room sign'.Semicolon) refl) refl))

pub assert_laws : (room : ℕ) → Laws room asserts read_assert (on sign'.OpenBracket) [] false
assert_laws room =
    let end = after_laws (sign_laws room sign'.CloseBracket) (sign_laws room sign'.Semicolon) refl in
    let with = after_laws (sign_laws room sign'.At) (after_laws (perm_laws room) end refl) refl in
    made_laws assert_of (span_laws (after_laws (sign_laws room sign'.OpenBracket) (after_laws (subject_laws room) with refl) refl))
