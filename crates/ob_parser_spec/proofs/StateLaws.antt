-- The laws of states.
use Rattle.std.proofs.Common.{ℕ, false, List, [], ◌∷◌, ◌++◌, inl, inr, refl}
use Rattle.ob_base.specs.declared.fault.Span.{Span}
use Rattle.ob_lexer.specs.declared.token.Word.TheVariants as word'
use Rattle.ob_lexer.specs.declared.token.Sign.TheVariants as sign'
use Rattle.ob_tree.specs.Names.{Ref}
use Rattle.ob_tree.specs.Members.{Field, Member, state_member}
use Rattle.ob_tree.specs.declared.name.NamePart.{NamePart}
use Rattle.ob_parser_spec.specs.Rows.{Row, never, sign, name, each}
use Rattle.ob_parser_spec.specs.NameRows.{ref}
use Rattle.ob_parser_spec.specs.MemberRows.{field, fields_of_state, member}
use Rattle.ob_parser_spec.specs.Readers.{Reader}
use Rattle.ob_parser_spec.specs.NameReaders.{on}
use Rattle.ob_parser_spec.specs.MemberReaders.{types, read_field}
use Rattle.ob_parser_spec.specs.ContractReaders.{no_fields, read_fields, state_of, read_state}
use Rattle.ob_parser_spec.proofs.Laws.{SpellsAsWell, Laws}
use Rattle.ob_parser_spec.proofs.Both.{both}
use Rattle.ob_parser_spec.proofs.Mapped.{Makes}
use Rattle.ob_parser_spec.proofs.Either.{one_of}
use Rattle.ob_parser_spec.proofs.Spanned.{with_span}
use Rattle.ob_parser_spec.proofs.RowLaws.{sign_at, word_at, at_word, at_name, sign_laws, word_laws, after_laws, choice_laws, span_laws, made, makes_laws, alike_laws, nothing_before, with_nothing_before}
use Rattle.ob_parser_spec.proofs.Each.{many_laws}
use Rattle.ob_parser_spec.proofs.Lists.{between_signs, between_laws}
use Rattle.ob_parser_spec.proofs.NameLaws.{name_laws}
use Rattle.ob_parser_spec.proofs.FieldLaws.{field_laws}

-- ---- the fields of a state

-- none, and no braces
abbrev only_bare : List Field → Row
only_bare [] = sign sign'.Semicolon
only_bare (f ∷ fs) = never

-- fields in braces
abbrev only_braced : List Field → Row
only_braced = between_signs sign'.OpenBrace (each field) sign'.CloseBrace

bare_from : SpellsAsWell only_bare (made no_fields (sign_at sign'.Semicolon))
bare_from [] read is = (is.0, refl, is.1)
bare_from (f ∷ fs) read is = elim is [ ]

bare_makes : Makes no_fields (sign_at sign'.Semicolon) only_bare
bare_makes = record { to = λ place read is. (place, is); from = bare_from }

fields_to : SpellsAsWell (one_of only_bare only_braced) fields_of_state
fields_to [] read (inl is) = inl is
fields_to [] read (inr is) = inr (is.0, is.1, is.2, is.3, nothing_before is.4)
fields_to (f ∷ fs) read (inl is) = elim is [ ]
fields_to (f ∷ fs) read (inr is) = is

fields_from : SpellsAsWell fields_of_state (one_of only_bare only_braced)
fields_from [] read (inl is) = inl is
fields_from [] read (inr is) = inr (is.0, is.1, is.2, is.3, with_nothing_before is.4)
fields_from (f ∷ fs) read is = inr is

-- ---- states

-- a state, as a member
abbrev pub only_state : Member → Row
only_state (state_member part fields span) = member (state_member part fields span)
only_state m = never

abbrev state_parts : Span × (NamePart × List Field) → Row
state_parts = both (word_at word'.State) (both name fields_of_state)

state_from : SpellsAsWell only_state (made state_of (with_span state_parts))
state_from (state_member part fields span) read is = let of = is.1 in (((of.3.0, (part, fields)), span), refl, (is.0, (of.0, of.1, of.2, of.3.1, of.4)))
state_from m read is = elim is [ ]

state_makes : Makes state_of (with_span state_parts) only_state
state_makes = record { to = λ parts read is. (is.0, (is.1.0, is.1.1, is.1.2, (parts.0.0, is.1.3), is.1.4)); from = state_from }

-- what the fields of a state begin with
abbrev pub fields_first : List ℕ
fields_first = on sign'.Semicolon ++ on sign'.OpenBrace

module _ (room : ℕ) (refs : Reader Ref) (r : Laws room ref refs at_name (on sign'.Bar) false) where
  pub fields_laws : Laws room fields_of_state (read_fields refs) fields_first [] false
  fields_laws =
      let fields = many_laws room field (read_field refs) types [] (field_laws room refs r) refl refl refl in
      let bare = makes_laws bare_makes (sign_laws room sign'.Semicolon) in
      alike_laws fields_of_state fields_to fields_from (choice_laws bare (between_laws sign'.OpenBrace sign'.CloseBrace fields refl) refl)

  pub state_laws : Laws room only_state (read_state refs) (at_word word'.State) [] false
  state_laws = makes_laws state_makes (span_laws (after_laws (word_laws room word'.State) (after_laws (name_laws room) fields_laws refl) refl))
