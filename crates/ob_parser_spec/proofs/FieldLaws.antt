-- The laws of lists that may be left out, and of fields.
use Rattle.std.proofs.Common.{ℕ, ◌≡◌, true, false, List, [], ◌∷◌, ◌++◌, Option, Some, None, refl}
use Rattle.ob_lexer.specs.declared.token.Word.TheVariants as word'
use Rattle.ob_lexer.specs.declared.token.Sign.{Sign}
use Rattle.ob_lexer.specs.declared.token.Sign.TheVariants as sign'
use Rattle.ob_tree.specs.Names.{Ref}
use Rattle.ob_tree.specs.declared.name.NamePart.{NamePart}
use Rattle.ob_parser_spec.specs.Rows.{Row, Loaded, nothing, ◌⨟◌, word, name, maybe, parted, maybe_parted}
use Rattle.ob_parser_spec.specs.NameRows.{ref, type}
use Rattle.ob_parser_spec.specs.MemberRows.{available, field}
use Rattle.ob_parser_spec.specs.Readers.{Reader, name_if, read_token, read_as, read_maybe}
use Rattle.ob_parser_spec.specs.NameReaders.{on}
use Rattle.ob_parser_spec.specs.MemberReaders.{types, list_of, read_maybe_parted, states_of, read_available, field_of, read_field}
use Rattle.ob_parser_spec.proofs.Laws.{Laws, disjoint}
use Rattle.ob_parser_spec.proofs.Both.{both}
use Rattle.ob_parser_spec.proofs.Mapped.{Makes}
use Rattle.ob_parser_spec.proofs.RowLaws.{sign_at, word_at, at_word, at_name, sign_laws, word_laws, after_laws, option_laws, makes_laws}
use Rattle.ob_parser_spec.proofs.Lists.{parted_laws}
use Rattle.ob_parser_spec.proofs.NameLaws.{name_laws}
use Rattle.ob_parser_spec.proofs.ParamLaws.{type_laws}

-- ---- a list that may be left out

-- nothing spells the empty list, and this row no empty one
module _ {A : Type 0} (row whole : List A → Row) (none : whole [] ≡ nothing) (some : (x : A) (xs : List A) → whole (x ∷ xs) ≡ row (x ∷ xs))
    (never_empty : (read : List Loaded) → ¬ (row [] read)) where
  list_to : (o : Option (List A)) (read : List Loaded) → maybe row o read → whole (list_of o) read
  list_to None read is = rw none is
  list_to (Some []) read is = absurd (never_empty read is)
  list_to (Some (x ∷ xs)) read is = rw some is

  list_from : (xs : List A) (read : List Loaded) → whole xs read → (o : Option (List A)) × (xs ≡ list_of o) × maybe row o read
  list_from [] read is = (None, refl, rw none at is)
  list_from (x ∷ xs) read is = (Some (x ∷ xs), refl, rw some at is)

  list_makes : Makes list_of (maybe row) whole
  list_makes = record { to = list_to; from = list_from }

  pub list_laws :
      {room : ℕ} {p : Reader (List A)} {first more : List ℕ} →
      Laws room row p first more false → Laws room whole (read_as list_of (read_maybe first p)) first (more ++ first) true
  list_laws a = makes_laws list_makes (option_laws a)

module _ {A : Type 0} (s : Sign) (room : ℕ) (row : A → Row) (p : Reader A) (first more : List ℕ)
    (a : Laws room row p first more false) (apart : disjoint (on s) more ≡ true) where
  pub maybe_parted_laws : Laws room (maybe_parted s row) (read_maybe_parted first s p) first ((more ++ on s) ++ first) true
  maybe_parted_laws = list_laws (parted s row) (maybe_parted s row) refl (λ x xs. refl) (λ read is. elim is [ ]) (parted_laws s room row p first more a apart)

-- ---- the states in which a field is there

-- with the words in front of them
abbrev in_states : List NamePart → Row
in_states states = word word'.Available ⨟ word word'.In ⨟ parted sign'.Comma name states

states_makes : Makes states_of (both (word_at word'.Available) (both (word_at word'.In) (parted sign'.Comma name))) in_states
states_makes = record {
  to = λ parts read is. (is.0, is.1, is.2, (parts.0, is.3), (is.4.0, is.4.1, is.4.2, (parts.1.0, is.4.3), is.4.4));
  from = λ states read is. ((is.3.0, (is.4.3.0, states)), refl, (is.0, is.1, is.2, is.3.1, (is.4.0, is.4.1, is.4.2, is.4.3.1, is.4.4)));
}

pub available_laws : (room : ℕ) → Laws room available read_available (at_word word'.Available) (on sign'.Comma ++ at_word word'.Available) true
available_laws room =
    let names = parted_laws sign'.Comma room name (read_token name_if) at_name [] (name_laws room) refl in
    let states = makes_laws states_makes (after_laws (word_laws room word'.Available) (after_laws (word_laws room word'.In) names refl) refl) in
    list_laws in_states available refl (λ x xs. refl) (λ read is. elim is.4.4 [ ]) states

-- ---- fields

field_makes : Makes field_of (both type (both name (both available (sign_at sign'.Semicolon)))) field
field_makes = record {
  to = λ parts read is. let end = is.4.4 in (is.0, is.1, is.2, is.3, (is.4.0, is.4.1, is.4.2, is.4.3, (end.0, end.1, end.2, end.3, (parts.1.1.1, end.4))));
  from = λ f read is.
      let end = is.4.4 in
      ((f.of, (f.name, (f.available, end.4.0))), refl, (is.0, is.1, is.2, is.3, (is.4.0, is.4.1, is.4.2, is.4.3, (end.0, end.1, end.2, end.3, end.4.1))));
}

module _ (room : ℕ) (refs : Reader Ref) (a : Laws room ref refs at_name (on sign'.Bar) false) where
  pub field_laws : Laws room field (read_field refs) types [] false
  field_laws =
      let end = after_laws (available_laws room) (sign_laws room sign'.Semicolon) refl in
      makes_laws field_makes (after_laws (type_laws room refs a) (after_laws (name_laws room) end refl) refl)
