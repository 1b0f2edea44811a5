-- The laws of type parameters, and of the title and the body of a contract.
use Rattle.std.proofs.Common.{ℕ, ◌≡◌, Bool, true, false, List, [], ◌++◌, Option, Some, None, refl}
use Rattle.ob_base.specs.declared.fault.Span.{Span}
use Rattle.ob_base.specs.declared.permission.Mode.{Mode}
use Rattle.ob_lexer.specs.declared.token.TokenKind.TheVariants as kind
use Rattle.ob_lexer.specs.declared.token.Word.{Word}
use Rattle.ob_lexer.specs.declared.token.Word.TheVariants as word'
use Rattle.ob_lexer.specs.declared.token.Sign.TheVariants as sign'
use Rattle.ob_tree.specs.Names.{Named}
use Rattle.ob_tree.specs.Members.{Member}
use Rattle.ob_tree.specs.Words.{word_of_mode}
use Rattle.ob_tree.specs.declared.name.NamePart.{NamePart}
use Rattle.ob_parser_spec.specs.Rows.{Row, Loaded, ◌⨟◌, word, sign, name, flag, maybe, each}
use Rattle.ob_parser_spec.specs.NameRows.{named as named_row}
use Rattle.ob_parser_spec.specs.MemberRows.{bound, generic}
use Rattle.ob_parser_spec.specs.Readers.{Reader}
use Rattle.ob_parser_spec.specs.NameReaders.{on}
use Rattle.ob_parser_spec.specs.ContractReaders.{is_there, read_flag, bound_of, read_bound, generic_of, read_generic, Title, read_title, members_of, read_body, read_implements}
use Rattle.ob_parser_spec.proofs.Laws.{SpellsAsWell, Laws, disjoint}
use Rattle.ob_parser_spec.proofs.Both.{both}
use Rattle.ob_parser_spec.proofs.Mapped.{Makes}
use Rattle.ob_parser_spec.proofs.Spanned.{with_span}
use Rattle.ob_parser_spec.proofs.RowLaws.{sign_at, word_at, at_word, at_name, sign_laws, word_laws, after_laws, span_laws, option_laws, made, makes_laws, alike_laws}
use Rattle.ob_parser_spec.proofs.Each.{many_laws}
use Rattle.ob_parser_spec.proofs.Lists.{disjoint-nil, after_token, after_token_laws}
use Rattle.ob_parser_spec.proofs.NameLaws.{name_laws, mode_row, mode_laws}

-- ---- a word that may be left out

flag_to : (w : Word) (o : Option Span) (read : List Loaded) → maybe (word_at w) o read → flag w (is_there o) read
flag_to w None read is = is
flag_to w (Some place) read is = (place, is)

flag_from : (w : Word) → SpellsAsWell (flag w) (made is_there (maybe (word_at w)))
flag_from w false read is = (None, refl, is)
flag_from w true read is = (Some is.0, refl, is.1)

flag_makes : (w : Word) → Makes is_there (maybe (word_at w)) (flag w)
flag_makes w = record { to = flag_to w; from = flag_from w }

pub flag_laws : (w : Word) (room : ℕ) → Laws room (flag w) (read_flag w) (at_word w) (at_word w) true
flag_laws w room = makes_laws (flag_makes w) (option_laws (word_laws room w))

-- ---- bounds

abbrev in_bound : NamePart × Mode → Row
in_bound b = word word'.Where ⨟ name b.0 ⨟ word word'.Is ⨟ word (word_of_mode b.1)

in_bound_makes : Makes bound_of (both (word_at word'.Where) (both name (both (word_at word'.Is) mode_row))) in_bound
in_bound_makes = record {
  to = λ parts read is.
      let end = is.4.4 in
      (is.0, is.1, is.2, (parts.0, is.3), (is.4.0, is.4.1, is.4.2, is.4.3, (end.0, end.1, end.2, (parts.1.1.0, end.3), (parts.1.1.1.1, end.4))));
  from = λ b read is.
      let end = is.4.4 in
      ((is.3.0, (b.0, (end.3.0, (b.1, end.4.0)))), refl, (is.0, is.1, is.2, is.3.1, (is.4.0, is.4.1, is.4.2, is.4.3, (end.0, end.1, end.2, end.3.1, end.4.1))));
}

bound_to : SpellsAsWell (maybe in_bound) bound
bound_to None read is = is
bound_to (Some b) read is = is

bound_from : SpellsAsWell bound (maybe in_bound)
bound_from None read is = is
bound_from (Some b) read is = is

pub bound_laws : (room : ℕ) → Laws room bound read_bound (at_word word'.Where) (at_word word'.Where) true
bound_laws room =
    let is = after_laws (word_laws room word'.Is) (mode_laws room) refl in
    let there = after_laws (word_laws room word'.Where) (after_laws (name_laws room) is refl) refl in
    alike_laws bound bound_to bound_from (option_laws (makes_laws in_bound_makes there))

-- ---- type parameters

abbrev generic_parts : Span × (Bool × (NamePart × (Span × (NamePart × (Option (NamePart × Mode) × Span))))) → Row
generic_parts = both (sign_at sign'.OpenBracket) (both (flag word'.Asset) (both name (both (sign_at sign'.At) (both name (both bound (sign_at sign'.CloseBracket))))))

generic_makes : Makes generic_of (with_span generic_parts) generic
generic_makes = record {
  to = λ parts read is.
      let a = is.1 in
      let b = a.4.4.4 in
      let c = b.4.4 in (
        is.0,
        (
          a.0,
          a.1,
          a.2,
          (parts.0.0, a.3),
          (
            a.4.0,
            a.4.1,
            a.4.2,
            a.4.3,
            (
              a.4.4.0,
              a.4.4.1,
              a.4.4.2,
              a.4.4.3,
              (b.0, b.1, b.2, (parts.0.1.1.1.0, b.3), (b.4.0, b.4.1, b.4.2, b.4.3, (c.0, c.1, c.2, c.3, (parts.0.1.1.1.1.1.1, c.4)))),
            ),
          ),
        ),
      );
  from = λ p read is.
      let a = is.1 in
      let b = a.4.4.4 in
      let c = b.4.4 in (
        ((a.3.0, (p.asset, (p.name, (b.3.0, (p.perm, (p.bound, c.4.0)))))), p.span),
        refl,
        (
          is.0,
          (
            a.0,
            a.1,
            a.2,
            a.3.1,
            (
              a.4.0,
              a.4.1,
              a.4.2,
              a.4.3,
              (
                a.4.4.0,
                a.4.4.1,
                a.4.4.2,
                a.4.4.3,
                (b.0, b.1, b.2, b.3.1, (b.4.0, b.4.1, b.4.2, b.4.3, (c.0, c.1, c.2, c.3, c.4.1))),
              ),
            ),
          ),
        ),
      );
}

pub generic_laws : (room : ℕ) → Laws room generic read_generic (on sign'.OpenBracket) [] false
generic_laws room =
    let end = after_laws (name_laws room) (after_laws (bound_laws room) (sign_laws room sign'.CloseBracket) refl) refl in
    let named = after_laws (name_laws room) (after_laws (sign_laws room sign'.At) end refl) refl in
    makes_laws generic_makes (span_laws (after_laws (sign_laws room sign'.OpenBracket) (after_laws (flag_laws word'.Asset room) named refl) refl))

-- ---- titles

abbrev pub title_row : Title → Row
title_row = both name (maybe generic)

pub title_laws : (room : ℕ) → Laws room title_row read_title at_name (on sign'.OpenBracket) false
title_laws room = after_laws (name_laws room) (option_laws (generic_laws room)) refl

-- ---- bodies

abbrev pub body_row : (Member → Row) → List Member × Span → Row
body_row row parts = sign sign'.OpenBrace ⨟ each row parts.0 ⨟ sign_at sign'.CloseBrace parts.1

body_makes : (row : Member → Row) → Makes members_of (both (sign_at sign'.OpenBrace) (both (each row) (sign_at sign'.CloseBrace))) (body_row row)
body_makes row = record {
  to = λ parts read is. (is.0, is.1, is.2, (parts.0, is.3), is.4);
  from = λ parts read is. ((is.3.0, parts), refl, (is.0, is.1, is.2, is.3.1, is.4));
}

pub body_laws :
    (room : ℕ) (row : Member → Row) (member : Reader Member) (kinds : List ℕ) → Laws room row member kinds [] false →
    disjoint (on sign'.CloseBrace) kinds ≡ true → Laws room (body_row row) (read_body kinds member) (on sign'.OpenBrace) [] false
body_laws room row member kinds m apart =
    let all = many_laws room row member kinds [] m (disjoint-nil kinds) refl refl in
    let end = after_laws all (sign_laws room sign'.CloseBrace) apart in
    makes_laws (body_makes row) (after_laws (sign_laws room sign'.OpenBrace) end (disjoint-nil (kinds ++ on sign'.CloseBrace)))

-- ---- what a contract implements

abbrev pub implementing : Named → Row
implementing = after_token (kind.Word word'.Implements) named_row

pub implements_laws :
    (room : ℕ) (named : Reader Named) → Laws room named_row named at_name (on sign'.OpenBracket) false →
    Laws room (maybe implementing) (read_implements named) (at_word word'.Implements) (on sign'.OpenBracket ++ at_word word'.Implements) true
implements_laws room named n = option_laws (after_token_laws (word_laws room word'.Implements) n)
