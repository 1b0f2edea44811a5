-- The laws of names, permissions and types of references.
use Rattle.std.proofs.Common.{ℕ, zero, suc, ◌≡◌, ◌-◌, ◌<◌, ◌≤◌, false, List, [], ◌∷◌, ◌++◌, Option, Some, None, inl, inr, refl, ap, ◌∙◌, arith}
use Rattle.ob_base.specs.declared.fault.Span.{Span}
use Rattle.ob_base.specs.declared.permission.Mode.{Mode}
use Rattle.ob_base.specs.declared.permission.Mode.TheVariants.{Owned}
use Rattle.ob_lexer.specs.declared.token.Token.{Token}
use Rattle.ob_lexer.specs.declared.token.TokenKind.TheVariants as kind
use Rattle.ob_lexer.specs.declared.token.Word.TheVariants as word'
use Rattle.ob_lexer.specs.declared.token.Sign.TheVariants.{OpenBracket, CloseBracket, At, Bar}
use Rattle.ob_tree.specs.Names.{Named, bare_name, name_with, Ref, ref_with}
use Rattle.ob_tree.specs.Words.{modes, word_of_mode}
use Rattle.ob_tree.specs.declared.name.NamePart.{NamePart}
use Rattle.ob_tree.specs.declared.name.PermNode.{PermNode}
use Rattle.ob_tree.specs.declared.name.PermNode.TheVariants as perm'
use Rattle.ob_parser_spec.specs.Rows.{Row, Loaded, never, token_at, name, maybe, parted}
use Rattle.ob_parser_spec.specs.NameRows.{perm, named, ref}
use Rattle.ob_parser_spec.specs.Readers.{Reader, name_if, read_token}
use Rattle.ob_parser_spec.specs.NameReaders.{on, named_parts, read_named, symbol_of_mode, mode_if, kinds_of_modes, mode_perm, read_perm, ref_parts, read_ref_with, read_ref}
use Rattle.ob_parser_spec.proofs.Laws.{SpellsAsWell, Sample, Laws}
use Rattle.ob_parser_spec.proofs.One.{token_of, somewhere, free, took, Takes}
use Rattle.ob_parser_spec.proofs.Both.{both}
use Rattle.ob_parser_spec.proofs.Mapped.{Makes}
use Rattle.ob_parser_spec.proofs.Either.{one_of}
use Rattle.ob_parser_spec.proofs.Spanned.{covers_one, one_covers, with_span}
use Rattle.ob_parser_spec.proofs.Searches.{one_is, takes_among}
use Rattle.ob_parser_spec.proofs.TokenRows.{is_word, token_is, name_to, name_from, takes_name}
use Rattle.ob_parser_spec.proofs.RowLaws.{sign_at, at_name, token_laws, sign_laws, after_laws, choice_laws, span_laws, option_laws, made, makes_laws, alike_laws, nothing_after, with_nothing_after}
use Rattle.ob_parser_spec.proofs.Lists.{in_signs, counted_laws, parted_laws}

pub name_laws : (room : ℕ) → Laws room name (read_token name_if) at_name [] false
name_laws room = token_laws room name name_to name_from takes_name

-- ---- modes

-- the token that a mode is
abbrev mode_token : Mode × Span → Token
mode_token m = token_of (kind.Word (word_of_mode m.0)) m.1

mode_is : (t : Token) (x : Mode × Span) → mode_if t ≡ Some x → t ≡ mode_token x
mode_is t x e =
    let one = one_is symbol_of_mode modes t x e in
    token_is t (kind.Word (word_of_mode x.0)) x.1 (is_word t.kind (word_of_mode x.0) one.0) one.1

mode_read : (m : Mode) (span : Span) → mode_if (mode_token (m, span)) ≡ Some (m, span)
mode_read Owned span = refl
mode_read m span = refl

pub takes_mode : Takes mode_if kinds_of_modes
takes_mode = takes_among symbol_of_mode modes (mode_token (Owned, somewhere)) (Owned, somewhere) refl

abbrev pub mode_row : Mode × Span → Row
mode_row m = token_at (kind.Word (word_of_mode m.0)) m.1

pub mode_to : (x : Mode × Span) (read : List Loaded) → took mode_if x read → mode_row x read
mode_to x read is = is.2 ∙ ap (λ t. free t ∷ []) (mode_is is.0 x is.1)

mode_from : SpellsAsWell mode_row (took mode_if)
mode_from m read is = (mode_token m, mode_read m.0 m.1, is)

pub mode_laws : (room : ℕ) → Laws room mode_row (read_token mode_if) kinds_of_modes [] false
mode_laws room = token_laws room mode_row mode_to mode_from takes_mode

-- ---- permissions

-- a mode, as a permission
abbrev only_mode : PermNode → Row
only_mode (perm'.Mode m span) = mode_row (m, span)
only_mode (perm'.States names) = never

-- states, as a permission
abbrev only_states : PermNode → Row
only_states (perm'.Mode m span) = never
only_states (perm'.States names) = parted Bar name names

perm_of_mode : SpellsAsWell only_mode (made mode_perm mode_row)
perm_of_mode (perm'.Mode m span) read is = ((m, span), refl, is)
perm_of_mode (perm'.States names) read is = elim is [ ]

perm_of_states : SpellsAsWell only_states (made perm'.States (parted Bar name))
perm_of_states (perm'.Mode m span) read is = elim is [ ]
perm_of_states (perm'.States names) read is = (names, refl, is)

mode_makes : Makes mode_perm mode_row only_mode
mode_makes = record { to = λ x read is. is; from = perm_of_mode }

states_makes : Makes perm'.States (parted Bar name) only_states
states_makes = record { to = λ names read is. is; from = perm_of_states }

perm_to : SpellsAsWell (one_of only_mode only_states) perm
perm_to (perm'.Mode m span) read (inl is) = is
perm_to (perm'.Mode m span) read (inr is) = elim is [ ]
perm_to (perm'.States names) read (inl is) = elim is [ ]
perm_to (perm'.States names) read (inr is) = is

perm_from : SpellsAsWell perm (one_of only_mode only_states)
perm_from (perm'.Mode m span) read is = inl is
perm_from (perm'.States names) read is = inr is

-- what a permission begins with
abbrev pub perm_first : List ℕ
perm_first = kinds_of_modes ++ at_name

pub perm_laws : (room : ℕ) → Laws room perm read_perm perm_first (on Bar) false
perm_laws room =
    let states = parted_laws Bar room name (read_token name_if) at_name [] (name_laws room) refl in
    alike_laws perm perm_to perm_from (choice_laws (makes_laws mode_makes (mode_laws room)) (makes_laws states_makes states) refl)

-- ---- a name and what stands in brackets after it

abbrev parts_of_named : (NamePart × Option Ref) × Span → Row
parts_of_named = with_span (both name (maybe (in_signs OpenBracket ref CloseBracket)))

named_to : (parts : (NamePart × Option Ref) × Span) (read : List Loaded) → parts_of_named parts read → named (named_parts parts) read
named_to ((part, None), span) read is =
    let all : name part read = nothing_after is.1 in
    rw (covers_one all is.0) all
named_to ((part, Some r), span) read is = (is.0, (is.1.0, is.1.1, is.1.2, (part.span, is.1.3), is.1.4))

named_from : SpellsAsWell named (made named_parts parts_of_named)
named_from (bare_name n span) read is = (((record { name = n; span = span }, None), span), refl, (one_covers is, with_nothing_after is))
named_from (name_with n r span) read is = (((record { name = n; span = is.1.3.0 }, Some r), span), refl, (is.0, (is.1.0, is.1.1, is.1.2, is.1.3.1, is.1.4)))

named_makes : Makes named_parts parts_of_named named
named_makes = record { to = named_to; from = named_from }

-- ---- references

-- the shortest: a name, `@` and a mode
ref_sample : Sample ref
ref_sample =
    let of = free (token_of (kind.Name []) somewhere) in
    let at = free (token_of (kind.Sign At) somewhere) in
    let with = free (token_of (kind.Word word'.Owned) somewhere) in
    record {
      value = ref_with (bare_name [] somewhere) (perm'.Mode Owned somewhere);
      read = of ∷ at ∷ with ∷ [];
      spelled = (of ∷ [], at ∷ with ∷ [], refl, refl, (at ∷ [], with ∷ [], refl, (somewhere, refl), refl));
    }

abbrev parts_of_ref : Named × (Span × PermNode) → Row
parts_of_ref = both named (both (sign_at At) perm)

ref_from : SpellsAsWell ref (made ref_parts parts_of_ref)
ref_from (ref_with of p) read is = ((of, (is.4.3.0, p)), refl, (is.0, is.1, is.2, is.3, (is.4.0, is.4.1, is.4.2, is.4.3.1, is.4.4)))

ref_makes : Makes ref_parts parts_of_ref ref
ref_makes = record { to = λ parts read is. (is.0, is.1, is.2, is.3, (is.4.0, is.4.1, is.4.2, (parts.1.0, is.4.3), is.4.4)); from = ref_from }

-- references are read in the room that is left under one token that counts
abbrev pub InnerRefs : ℕ → (ℕ → Reader Ref) → Type 0
InnerRefs room refs = 1 ≤ room → Laws (room - 1) ref (refs (room - 1)) at_name (on Bar) false

module _ (room : ℕ) (p : ℕ → Reader Ref) (a : InnerRefs room p) where
  pub named_laws : Laws room named (read_named p room) at_name (on OpenBracket) false
  named_laws =
      let brackets = counted_laws OpenBracket CloseBracket room ref p at_name (on Bar) false ref_sample a refl in
      makes_laws named_makes (span_laws (after_laws (name_laws room) (option_laws brackets) refl))

  pub ref_with_laws : Laws room ref (read_ref_with p room) at_name (on Bar) false
  ref_with_laws = makes_laws ref_makes (after_laws named_laws (after_laws (sign_laws room At) (perm_laws room) refl) refl)

-- Where there is depth enough for the room, references are read.
pub ref_laws : (depth room : ℕ) → room < depth → Laws room ref (read_ref depth room) at_name (on Bar) false
ref_laws zero room less = absurd (omega (arith, less))
ref_laws (suc depth) room less = ref_with_laws room (read_ref depth) (λ some. ref_laws depth (room - 1) (omega (arith, some, less)))
