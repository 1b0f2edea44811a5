-- The tokens of names, permissions and types, in order.
use Rattle.std.specs.Prelude.{ℕ, Bool, true, false, if◌then◌else◌, List, [], ◌∷◌, ◌++◌, Option, Some, None}
use Rattle.ob_lexer.specs.declared.token.TokenKind.{TokenKind}
use Rattle.ob_lexer.specs.declared.token.TokenKind.TheVariants as kind
use Rattle.ob_lexer.specs.declared.token.Word.{Word}
use Rattle.ob_lexer.specs.declared.token.Word.TheVariants as word
use Rattle.ob_lexer.specs.declared.token.Sign.{Sign}
use Rattle.ob_lexer.specs.declared.token.Sign.TheVariants as sign
use Rattle.ob_tree.specs.Words.{word_of_mode}
use Rattle.ob_tree.specs.Names.{Named, bare_name, name_with, Ref, ref_with, TypeExpr, int_type, bool_type, text_type, ref_type}
use Rattle.ob_tree.specs.declared.name.NamePart.{NamePart}
use Rattle.ob_tree.specs.declared.name.PermNode.{PermNode}
use Rattle.ob_tree.specs.declared.name.PermNode.TheVariants.{Mode as one_mode, States}
use Rattle.ob_tree.specs.declared.name.Subject.{Subject}
use Rattle.ob_tree.specs.declared.name.Subject.TheVariants.{This, Name}

-- a word that stands only where this holds
abbrev pub word_if : Bool → Word → List TokenKind
word_if b w = if b then kind.Word w ∷ [] else []

-- a sign that stands only where this holds
abbrev pub sign_if : Bool → Sign → List TokenKind
sign_if b s = if b then kind.Sign s ∷ [] else []

-- the sign between two, so not in front of the first
abbrev pub sign_unless : Bool → Sign → List TokenKind
sign_unless first s = if first then [] else kind.Sign s ∷ []

-- the first where a list is empty, and else the second
unfoldable pub if_empty : {A : Type 0} → List A → List TokenKind → List TokenKind → List TokenKind
if_empty [] none some = none
if_empty (x ∷ xs) none some = some

-- a name
abbrev pub token_of_name : NamePart → TokenKind
token_of_name part = kind.Name part.name

-- `this` or a name
abbrev pub token_of_subject : Subject → TokenKind
token_of_subject (This span) = kind.Word word.This
token_of_subject (Name part) = token_of_name part

-- names with a sign between each two; `first` says that none stands in front
abbrev pub tokens_of_names : Sign → Bool → List NamePart → List TokenKind
tokens_of_names between first [] = []
tokens_of_names between first (part ∷ parts) = sign_unless first between ++ (token_of_name part ∷ tokens_of_names between false parts)

-- perm = mode | NAME {"|" NAME}
abbrev pub tokens_of_perm : PermNode → List TokenKind
tokens_of_perm (one_mode m span) = kind.Word (word_of_mode m) ∷ []
tokens_of_perm (States states) = tokens_of_names sign.Bar true states

-- the permission after `>>`, if there is one
abbrev pub tokens_of_exit : Option PermNode → List TokenKind
tokens_of_exit None = []
tokens_of_exit (Some perm) = kind.Sign sign.DoubleGreater ∷ tokens_of_perm perm

abbrev mutual
  -- named = NAME ["[" ref "]"]
  pub tokens_of_named : Named → List TokenKind
  tokens_of_named (bare_name name span) = kind.Name name ∷ []
  tokens_of_named (name_with name argument span) = kind.Name name ∷ kind.Sign sign.OpenBracket ∷ (tokens_of_ref argument ++ (kind.Sign sign.CloseBracket ∷ []))

  -- ref = named "@" perm
  pub tokens_of_ref : Ref → List TokenKind
  tokens_of_ref (ref_with of perm) = tokens_of_named of ++ (kind.Sign sign.At ∷ tokens_of_perm perm)

-- type = "int" | "bool" | "string" | ref
abbrev pub tokens_of_type : TypeExpr → List TokenKind
tokens_of_type (int_type span) = kind.Word word.Int ∷ []
tokens_of_type (bool_type span) = kind.Word word.Bool ∷ []
tokens_of_type (text_type span) = kind.Word word.String ∷ []
tokens_of_type (ref_type of) = tokens_of_ref of
