-- The laws of what stands before the block of a transaction.
use Rattle.std.proofs.Common.{ℕ, true, false, [], ◌++◌, refl}
use Rattle.ob_lexer.specs.declared.token.TokenKind.TheVariants as kind
use Rattle.ob_lexer.specs.declared.token.Word.TheVariants as word'
use Rattle.ob_lexer.specs.declared.token.Sign.TheVariants as sign'
use Rattle.ob_tree.specs.Names.{Ref, TypeExpr}
use Rattle.ob_parser_spec.specs.Rows.{Row, name, maybe, maybe_parted}
use Rattle.ob_parser_spec.specs.NameRows.{ref, type}
use Rattle.ob_parser_spec.specs.MemberRows.{param, head}
use Rattle.ob_parser_spec.specs.Readers.{Reader}
use Rattle.ob_parser_spec.specs.NameReaders.{on}
use Rattle.ob_parser_spec.specs.MemberReaders.{types, read_param, Head, head_of, read_result, read_head}
use Rattle.ob_parser_spec.proofs.Laws.{Laws}
use Rattle.ob_parser_spec.proofs.Both.{both}
use Rattle.ob_parser_spec.proofs.Mapped.{Makes}
use Rattle.ob_parser_spec.proofs.RowLaws.{sign_at, word_at, at_word, at_name, sign_laws, word_laws, after_laws, option_laws, makes_laws}
use Rattle.ob_parser_spec.proofs.Lists.{after_token, after_token_laws}
use Rattle.ob_parser_spec.proofs.NameLaws.{name_laws}
use Rattle.ob_parser_spec.proofs.ParamLaws.{type_laws, param_laws}
use Rattle.ob_parser_spec.proofs.FieldLaws.{maybe_parted_laws}

-- ---- rows

-- a type after `returns`
abbrev pub returned : TypeExpr → Row
returned = after_token (kind.Word word'.Returns) type

abbrev pub head_row : Head → Row
head_row h = head h.0 h.1.0 h.1.1

head_makes :
    Makes head_of
    (both (word_at word'.Transaction) (both name (both (sign_at sign'.OpenParen) (both (maybe_parted sign'.Comma param) (both (sign_at sign'.CloseParen) (maybe returned))))))
    head_row
head_makes = record {
  to = λ parts read is.
      let a = is.4 in
      let b = a.4 in
      let c = b.4 in
      let d = c.4 in
      (is.0, is.1, is.2, (parts.0, is.3), (a.0, a.1, a.2, a.3, (b.0, b.1, b.2, (parts.1.1.0, b.3), (c.0, c.1, c.2, c.3, (d.0, d.1, d.2, (parts.1.1.1.1.0, d.3), d.4)))));
  from = λ h read is.
      let a = is.4 in
      let b = a.4 in
      let c = b.4 in
      let d = c.4 in (
        (is.3.0, (h.0, (b.3.0, (h.1.0, (d.3.0, h.1.1))))),
        refl,
        (is.0, is.1, is.2, is.3.1, (a.0, a.1, a.2, a.3, (b.0, b.1, b.2, b.3.1, (c.0, c.1, c.2, c.3, (d.0, d.1, d.2, d.3.1, d.4))))),
      );
}

-- ---- their laws

module _ (room : ℕ) (refs : Reader Ref) (a : Laws room ref refs at_name (on sign'.Bar) false) where
  result_laws : Laws room (maybe returned) (read_result refs) (at_word word'.Returns) (on sign'.Bar ++ at_word word'.Returns) true
  result_laws = option_laws (after_token_laws (word_laws room word'.Returns) (type_laws room refs a))

  pub head_laws : Laws room head_row (read_head refs) (at_word word'.Transaction) ((on sign'.Bar ++ at_word word'.Returns) ++ []) false
  head_laws =
      let params = maybe_parted_laws sign'.Comma room param (read_param refs) types [] (param_laws room refs a) refl in
      let close = after_laws (sign_laws room sign'.CloseParen) result_laws refl in
      let list = after_laws (sign_laws room sign'.OpenParen) (after_laws params close refl) refl in
      makes_laws head_makes (after_laws (word_laws room word'.Transaction) (after_laws (name_laws room) list refl) refl)
