-- The layouts of names, permissions and types are read again.
use Rattle.std.proofs.Common.{◌≡◌, true, false, List, [], ◌∷◌, flat_map, map, refl, ap, ap₂}
use Rattle.ob_lexer.specs.declared.token.TokenKind.{TokenKind}
use Rattle.ob_lexer.specs.declared.token.TokenKind.TheVariants as kind
use Rattle.ob_lexer.specs.declared.token.Word.TheVariants as word'
use Rattle.ob_lexer.specs.declared.token.Sign.{Sign}
use Rattle.ob_lexer.specs.declared.token.Sign.TheVariants as sign'
use Rattle.ob_tree.specs.Names.{bare_name, name_with, ref_with, int_type, bool_type, text_type, ref_type}
use Rattle.ob_tree.specs.Words.{word_of_mode}
use Rattle.ob_tree_print.specs.NameTokens.{token_of_name, token_of_subject, tokens_of_names, tokens_of_perm, tokens_of_named, tokens_of_ref, tokens_of_type}
use Rattle.ob_tree.specs.declared.name.NamePart.{NamePart}
use Rattle.ob_tree.specs.declared.name.PermNode.TheVariants as perm'
use Rattle.ob_tree.specs.declared.name.Subject.{Subject}
use Rattle.ob_tree.specs.declared.name.Subject.TheVariants as subject'
use Rattle.ob_parser_spec.specs.Rows.{name, parted}
use Rattle.ob_parser_spec.specs.NameRows.{subject, perm, named, ref, type}
use Rattle.ob_tree_print_laws.specs.Unplaced.{nowhere, unplaced_name, unplaced_subject, unplaced_perm, unplaced_named, unplaced_ref, unplaced_type}
use Rattle.ob_tree_print_laws.proofs.AgainRows.{Again, ◌before◌, token_laid, span_laid, sign_laid, said_laid, layout_laid, counted_laid, spanned_laid, separated, parted_laid}

-- the layout of a name
abbrev pub kinds_of_name : NamePart → List TokenKind
kinds_of_name part = token_of_name part ∷ []

-- the layout of `this` or a name
abbrev pub kinds_of_subject : Subject → List TokenKind
kinds_of_subject of = token_of_subject of ∷ []

pub name_again : Again name unplaced_name kinds_of_name
name_again part = said_laid (λ read is. (record { name = part.name; span = is.0 }, is.1, refl)) (span_laid (kind.Name part.name) part.span 0)

pub subject_again : Again subject unplaced_subject kinds_of_subject
subject_again (subject'.This span) = said_laid (λ read is. (subject'.This is.0, is.1, refl)) (span_laid (kind.Word word'.This) span 0)
subject_again (subject'.Name part) = said_laid (λ read is. (subject'.Name is.0, is.1, ap subject'.Name is.2)) (name_again part)

-- ---- names with a sign between each two

more_names : (s : Sign) (parts : List NamePart) → flat_map (λ p. kind.Sign s ∷ kinds_of_name p) parts ≡ tokens_of_names s false parts
more_names s [] = refl
more_names s (p ∷ ps) = ap (λ ks. kind.Sign s ∷ token_of_name p ∷ ks) (more_names s ps)

pub all_names : (s : Sign) (parts : List NamePart) → separated s kinds_of_name parts ≡ tokens_of_names s true parts
all_names s [] = refl
all_names s (p ∷ ps) = ap (λ ks. token_of_name p ∷ ks) (more_names s ps)

pub names_again : (s : Sign) → Again (parted s name) (map unplaced_name) (tokens_of_names s true)
names_again s parts = layout_laid (all_names s parts) (parted_laid s name unplaced_name kinds_of_name name_again parts)

-- ---- permissions

pub perm_again : Again perm unplaced_perm tokens_of_perm
perm_again (perm'.Mode m span) = said_laid (λ read is. (perm'.Mode m is.0, is.1, refl)) (span_laid (kind.Word (word_of_mode m)) span 0)
perm_again (perm'.States states) = said_laid (λ read is. (perm'.States is.0, is.1, ap perm'.States is.2)) (names_again sign'.Bar states)

-- ---- names with their arguments, and types

mutual
  pub named_again : Again named unplaced_named tokens_of_named
  named_again (bare_name n span) = said_laid (λ read is. (bare_name n is.0, is.1, refl)) (span_laid (kind.Name n) span 0)
  named_again (name_with n argument span) = said_laid (λ read (s, (c, (f, b, e, of, (f₁, b₁, e₁, left, (f₂, b₂, e₂, (low, up, (r, is, same)), right))))). (name_with n r s, (c, (f, b, e, of, (f₁, b₁, e₁, left, (f₂, b₂, e₂, (low, up, is), right)))), ap (λ x. name_with n x nowhere) same)) (spanned_laid span tt (token_laid (kind.Name n) 0 before counted_laid sign'.OpenBracket sign'.CloseBracket (ref_again argument)))

  pub ref_again : Again ref unplaced_ref tokens_of_ref
  ref_again (ref_with of p) = said_laid (λ read (f, b, e, (n, is, same), (f₁, b₁, e₁, at, (q, held, alike))). (ref_with n q, (f, b, e, is, (f₁, b₁, e₁, at, held)), ap₂ ref_with same alike)) (named_again of before sign_laid sign'.At before perm_again p)

pub type_again : Again type unplaced_type tokens_of_type
type_again (int_type span) = said_laid (λ read is. (int_type is.0, is.1, refl)) (span_laid (kind.Word word'.Int) span 0)
type_again (bool_type span) = said_laid (λ read is. (bool_type is.0, is.1, refl)) (span_laid (kind.Word word'.Bool) span 0)
type_again (text_type span) = said_laid (λ read is. (text_type is.0, is.1, refl)) (span_laid (kind.Word word'.String) span 0)
type_again (ref_type of) = said_laid (λ read is. (ref_type is.0, is.1, ap ref_type is.2)) (ref_again of)
