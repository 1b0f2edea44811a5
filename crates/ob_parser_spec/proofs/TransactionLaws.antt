-- The laws of transactions.
use Rattle.std.proofs.Common.{ℕ, Bool, true, false, List, [], ◌∷◌, ◌++◌, Option, Some, None, refl}
use Rattle.ob_base.specs.declared.fault.Span.{Span}
use Rattle.ob_lexer.specs.declared.token.Word.TheVariants as word'
use Rattle.ob_lexer.specs.declared.token.Sign.TheVariants as sign'
use Rattle.ob_tree.specs.Names.{Ref}
use Rattle.ob_tree.specs.Stmts.{Block}
use Rattle.ob_tree.specs.Members.{Listed, Member, transaction_member}
use Rattle.ob_parser_spec.specs.Rows.{Row, Loaded, never, nothing, maybe, parted}
use Rattle.ob_parser_spec.specs.NameRows.{ref}
use Rattle.ob_parser_spec.specs.StmtRows.{block}
use Rattle.ob_parser_spec.specs.MemberRows.{listed, privacy, member}
use Rattle.ob_parser_spec.specs.Readers.{Reader}
use Rattle.ob_parser_spec.specs.NameReaders.{on}
use Rattle.ob_parser_spec.specs.MemberReaders.{read_listed, Head}
use Rattle.ob_parser_spec.specs.ContractReaders.{privacy_of, read_privacy, transaction_of, read_transaction, transaction_first}
use Rattle.ob_parser_spec.proofs.Laws.{SpellsAsWell, Laws}
use Rattle.ob_parser_spec.proofs.Both.{both}
use Rattle.ob_parser_spec.proofs.Mapped.{Makes}
use Rattle.ob_parser_spec.proofs.Spanned.{with_span}
use Rattle.ob_parser_spec.proofs.RowLaws.{word_at, at_word, at_name, word_laws, after_laws, span_laws, option_laws, made, makes_laws, nothing_after, with_nothing_after}
use Rattle.ob_parser_spec.proofs.Lists.{between_signs, between_laws, parted_laws}
use Rattle.ob_parser_spec.proofs.ParamLaws.{listed_laws}
use Rattle.ob_parser_spec.proofs.FieldLaws.{list_laws}
use Rattle.ob_parser_spec.proofs.HeadLaws.{head_row, head_laws}

-- ---- privacy

-- the list of a private transaction
abbrev in_parens : List Listed → Row
in_parens = between_signs sign'.OpenParen (parted sign'.Comma listed) sign'.CloseParen

-- the same, if the list isn't left out
abbrev maybe_in_parens : List Listed → Row
maybe_in_parens [] = nothing
maybe_in_parens (l ∷ ls) = in_parens (l ∷ ls)

abbrev pub privacy_row : Bool × List Listed → Row
privacy_row parts = privacy parts.0 parts.1

abbrev private_parts : Span × List Listed → Row
private_parts = both (word_at word'.Private) maybe_in_parens

privacy_to : (o : Option (Span × List Listed)) (read : List Loaded) → maybe private_parts o read → privacy_row (privacy_of o) read
privacy_to None read is = is
privacy_to (Some (place, [])) read is = (place, nothing_after is)
privacy_to (Some (place, l ∷ ls)) read is = (is.0, is.1, is.2, (place, is.3), is.4)

privacy_from : (private : Bool) (ls : List Listed) (read : List Loaded) → privacy private ls read → made privacy_of (maybe private_parts) (private, ls) read
privacy_from false [] read is = (None, refl, is)
privacy_from false (l ∷ ls) read is = elim is [ ]
privacy_from true [] read is = (Some (is.0, []), refl, with_nothing_after is.1)
privacy_from true (l ∷ ls) read is = (Some (is.3.0, l ∷ ls), refl, (is.0, is.1, is.2, is.3.1, is.4))

privacy_makes : Makes privacy_of (maybe private_parts) privacy_row
privacy_makes = record { to = privacy_to; from = λ parts. privacy_from parts.0 parts.1 }

-- ---- transactions

-- a transaction, as a member
abbrev pub only_transaction : Member → Row
only_transaction (transaction_member private lists part params result body span) = member (transaction_member private lists part params result body span)
only_transaction m = never

abbrev transaction_parts : (Bool × List Listed) × (Head × Block) → Row
transaction_parts = both privacy_row (both head_row block)

transaction_from : SpellsAsWell only_transaction (made transaction_of (with_span transaction_parts))
transaction_from (transaction_member private lists part params result (Some body) span) read is = ((((private, lists), ((part, (params, result)), body)), span), refl, is)
transaction_from m read is = elim is [ ]

transaction_makes : Makes transaction_of (with_span transaction_parts) only_transaction
transaction_makes = record { to = λ parts read is. is; from = transaction_from }

module _ (room : ℕ) (refs : Reader Ref) (r : Laws room ref refs at_name (on sign'.Bar) false) where
  pub privacy_laws : Laws room privacy_row (read_privacy refs) (at_word word'.Private) (on sign'.OpenParen ++ at_word word'.Private) true
  privacy_laws =
      let list = parted_laws sign'.Comma room listed (read_listed refs) at_name [] (listed_laws room refs r) refl in
      let parens = between_laws sign'.OpenParen sign'.CloseParen list refl in
      let after = list_laws in_parens maybe_in_parens refl (λ x xs. refl) (λ read is. elim is.4.3 [ ]) parens in
      makes_laws privacy_makes (option_laws (after_laws (word_laws room word'.Private) after refl))

  pub transaction_laws : (blocks : Reader Block) → Laws room block blocks (on sign'.OpenBrace) [] false → Laws room only_transaction (read_transaction refs blocks) transaction_first [] false
  transaction_laws blocks b = makes_laws transaction_makes (span_laws (after_laws privacy_laws (after_laws (head_laws room refs r) b refl) refl))
