-- The laws of types, subjects, parameters and lists of fields.
use Rattle.std.proofs.Common.{ℕ, ◌≡◌, true, false, List, [], ◌∷◌, ◌++◌, Some, IsTrue, inl, inr, refl}
use Rattle.ob_base.specs.declared.fault.Span.{Span}
use Rattle.ob_lexer.specs.declared.token.TokenKind.{TokenKind}
use Rattle.ob_lexer.specs.declared.token.TokenKind.TheVariants as kind
use Rattle.ob_lexer.specs.declared.token.Word.TheVariants as word'
use Rattle.ob_lexer.specs.declared.token.Sign.TheVariants as sign'
use Rattle.ob_tree.specs.Names.{Ref, TypeExpr, int_type, bool_type, text_type, ref_type}
use Rattle.ob_tree.specs.declared.name.Subject.{Subject}
use Rattle.ob_tree.specs.declared.name.Subject.TheVariants as subject'
use Rattle.ob_parser_spec.specs.Rows.{Row, Loaded, never, name}
use Rattle.ob_parser_spec.specs.NameRows.{subject, ref, type}
use Rattle.ob_parser_spec.specs.MemberRows.{exit, param, listed}
use Rattle.ob_parser_spec.specs.Readers.{Reader, is_of, read_token}
use Rattle.ob_parser_spec.specs.NameReaders.{on}
use Rattle.ob_parser_spec.specs.MemberReaders.{value_type_of, value_type_if, value_types, types, read_type, subject_of, subject_if, subjects, read_exit, formal_of, read_param, listed_of, read_listed}
use Rattle.ob_parser_spec.proofs.Laws.{SpellsAsWell, Laws}
use Rattle.ob_parser_spec.proofs.One.{token_of, somewhere, free, took, Takes}
use Rattle.ob_parser_spec.proofs.Both.{both}
use Rattle.ob_parser_spec.proofs.Mapped.{Makes}
use Rattle.ob_parser_spec.proofs.Either.{one_of}
use Rattle.ob_parser_spec.proofs.RowLaws.{at_name, token_laws, sign_laws, after_laws, choice_laws, option_laws, made, makes_laws, alike_laws}
use Rattle.ob_parser_spec.proofs.Lists.{after_token_laws}
use Rattle.ob_parser_spec.proofs.NameLaws.{name_laws, perm_laws}

-- ---- `int`, `bool` and `string`

abbrev pub only_value : TypeExpr → Row
only_value (ref_type of) = never
only_value t = type t

value_in : (k : TokenKind) (span : Span) (t : TypeExpr) → value_type_of k span ≡ Some t → (read : List Loaded) → read ≡ free (token_of k span) ∷ [] → only_value t read
value_in (kind.Word word'.Int) span t e read is = let same : int_type span ≡ t = cc in rw (← same) is
value_in (kind.Word word'.Bool) span t e read is = let same : bool_type span ≡ t = cc in rw (← same) is
value_in (kind.Word word'.String) span t e read is = let same : text_type span ≡ t = cc in rw (← same) is
value_in k span t e read is = absurd cc

pub value_to : (t : TypeExpr) (read : List Loaded) → took value_type_if t read → only_value t read
value_to t read is = value_in is.0.kind is.0.span t is.1 read is.2

pub value_from : (t : TypeExpr) (read : List Loaded) → only_value t read → took value_type_if t read
value_from (int_type span) read is = (token_of (kind.Word word'.Int) span, refl, is)
value_from (bool_type span) read is = (token_of (kind.Word word'.Bool) span, refl, is)
value_from (text_type span) read is = (token_of (kind.Word word'.String) span, refl, is)
value_from (ref_type of) read is = elim is [ ]

value_listed : (k : TokenKind) (span : Span) (t : TypeExpr) → value_type_of k span ≡ Some t → IsTrue (is_of value_types (token_of k span))
value_listed (kind.Word word'.Int) span t e = refl
value_listed (kind.Word word'.Bool) span t e = refl
value_listed (kind.Word word'.String) span t e = refl
value_listed k span t e = absurd cc

-- (the clause for one sign has the last one checked sign by sign)
some_value : (k : TokenKind) (span : Span) → IsTrue (is_of value_types (token_of k span)) → (t : TypeExpr) × (value_type_of k span ≡ Some t)
some_value (kind.Word word'.Int) span is = (int_type span, refl)
some_value (kind.Word word'.Bool) span is = (bool_type span, refl)
some_value (kind.Word word'.String) span is = (text_type span, refl)
some_value (kind.Sign sign'.At) span is = absurd cc
some_value k span is = absurd cc

pub takes_value : Takes value_type_if value_types
takes_value = record {
  of = λ t is. some_value t.kind t.span is;
  is = λ t x e. value_listed t.kind t.span x e;
  token = token_of (kind.Word word'.Int) somewhere;
  value = int_type somewhere;
  one = refl;
}

pub value_type_laws : (room : ℕ) → Laws room only_value (read_token value_type_if) value_types [] false
value_type_laws room = token_laws room only_value value_to value_from takes_value

-- ---- types

abbrev pub only_ref : TypeExpr → Row
only_ref (ref_type of) = ref of
only_ref t = never

ref_from : SpellsAsWell only_ref (made ref_type ref)
ref_from (ref_type of) read is = (of, refl, is)
ref_from t read is = elim is [ ]

ref_makes : Makes ref_type ref only_ref
ref_makes = record { to = λ of read is. is; from = ref_from }

type_to : SpellsAsWell (one_of only_value only_ref) type
type_to (ref_type of) read (inl is) = elim is [ ]
type_to (ref_type of) read (inr is) = is
type_to t read (inl is) = is
type_to t read (inr is) = elim is [ ]

type_from : SpellsAsWell type (one_of only_value only_ref)
type_from (ref_type of) read is = inr is
type_from t read is = inl is

-- ---- subjects

subject_in : (k : TokenKind) (span : Span) (x : Subject) → subject_of k span ≡ Some x → (read : List Loaded) → read ≡ free (token_of k span) ∷ [] → subject x read
subject_in (kind.Name n) span x e read is = let same : subject'.Name (record { name = n; span = span }) ≡ x = cc in rw (← same) is
subject_in (kind.Word word'.This) span x e read is = let same : subject'.This span ≡ x = cc in rw (← same) is
subject_in k span x e read is = absurd cc

pub subject_to : (x : Subject) (read : List Loaded) → took subject_if x read → subject x read
subject_to x read is = subject_in is.0.kind is.0.span x is.1 read is.2

subject_from : SpellsAsWell subject (took subject_if)
subject_from (subject'.This span) read is = (token_of (kind.Word word'.This) span, refl, is)
subject_from (subject'.Name part) read is = (token_of (kind.Name part.name) part.span, refl, is)

subject_listed : (k : TokenKind) (span : Span) (x : Subject) → subject_of k span ≡ Some x → IsTrue (is_of subjects (token_of k span))
subject_listed (kind.Name n) span x e = refl
subject_listed (kind.Word word'.This) span x e = refl
subject_listed k span x e = absurd cc

some_subject : (k : TokenKind) (span : Span) → IsTrue (is_of subjects (token_of k span)) → (x : Subject) × (subject_of k span ≡ Some x)
some_subject (kind.Name n) span is = (subject'.Name (record { name = n; span = span }), refl)
some_subject (kind.Word word'.This) span is = (subject'.This span, refl)
some_subject (kind.Sign sign'.At) span is = absurd cc
some_subject k span is = absurd cc

pub takes_subject : Takes subject_if subjects
takes_subject = record {
  of = λ t is. some_subject t.kind t.span is;
  is = λ t x e. subject_listed t.kind t.span x e;
  token = token_of (kind.Word word'.This) somewhere;
  value = subject'.This somewhere;
  one = refl;
}

pub subject_laws : (room : ℕ) → Laws room subject (read_token subject_if) subjects [] false
subject_laws room = token_laws room subject subject_to subject_from takes_subject

-- ---- the permission after `>>`

pub exit_laws : (room : ℕ) → Laws room exit read_exit (on sign'.DoubleGreater) (on sign'.Bar ++ on sign'.DoubleGreater) true
exit_laws room = option_laws (after_token_laws (sign_laws room sign'.DoubleGreater) (perm_laws room))

-- ---- parameters, and fields in a list

param_makes : Makes formal_of (both type (both exit subject)) param
param_makes = record { to = λ parts read is. is; from = λ f read is. ((f.of, (f.exit, f.name)), refl, is) }

listed_makes : Makes listed_of (both ref (both exit name)) listed
listed_makes = record { to = λ parts read is. is; from = λ l read is. ((l.of, (l.exit, l.name)), refl, is) }

module _ (room : ℕ) (refs : Reader Ref) (a : Laws room ref refs at_name (on sign'.Bar) false) where
  pub type_laws : Laws room type (read_type refs) types (on sign'.Bar) false
  type_laws = alike_laws type type_to type_from (choice_laws (value_type_laws room) (makes_laws ref_makes a) refl)

  pub param_laws : Laws room param (read_param refs) types [] false
  param_laws = makes_laws param_makes (after_laws type_laws (after_laws (exit_laws room) (subject_laws room) refl) refl)

  pub listed_laws : Laws room listed (read_listed refs) at_name [] false
  listed_laws = makes_laws listed_makes (after_laws a (after_laws (exit_laws room) (name_laws room) refl) refl)
