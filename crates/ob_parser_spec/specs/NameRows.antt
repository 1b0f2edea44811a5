-- Which tokens spell names, permissions and types (Coblenz et al., TOPLAS 42(3), 2020; the Obsidian language
-- documentation, "Types" and "Permissions").
use Rattle.ob_lexer.specs.declared.token.TokenKind.TheVariants as kind
use Rattle.ob_lexer.specs.declared.token.Word.TheVariants as word'
use Rattle.ob_lexer.specs.declared.token.Sign.TheVariants.{OpenBracket, CloseBracket, At, Bar}
use Rattle.ob_tree.specs.Names.{Named, bare_name, name_with, Ref, ref_with, TypeExpr, int_type, bool_type, text_type, ref_type}
use Rattle.ob_tree.specs.Words.{word_of_mode}
use Rattle.ob_tree.specs.declared.name.PermNode.{PermNode}
use Rattle.ob_tree.specs.declared.name.PermNode.TheVariants as perm'
use Rattle.ob_tree.specs.declared.name.Subject.{Subject}
use Rattle.ob_tree.specs.declared.name.Subject.TheVariants as subject'
use Rattle.ob_parser_spec.specs.Rows.{Row, ◌⨟◌, token, token_at, sign, name, counted, parted, spanning}

-- NAME | "this"
abbrev pub subject : Subject → Row
subject (subject'.This span) = token_at (kind.Word word'.This) span
subject (subject'.Name part) = name part

-- mode | NAME {"|" NAME}
abbrev pub perm : PermNode → Row
perm (perm'.Mode m span) = token_at (kind.Word (word_of_mode m)) span
perm (perm'.States states) = parted Bar name states

abbrev mutual
  -- NAME ["[" ref "]"]
  pub named : Named → Row
  named (bare_name n span) = token_at (kind.Name n) span
  named (name_with n argument span) = spanning span (token (kind.Name n) ⨟ counted OpenBracket (ref argument) CloseBracket)

  -- named "@" perm
  pub ref : Ref → Row
  ref (ref_with of p) = named of ⨟ sign At ⨟ perm p

-- "int" | "bool" | "string" | ref
abbrev pub type : TypeExpr → Row
type (int_type span) = token_at (kind.Word word'.Int) span
type (bool_type span) = token_at (kind.Word word'.Bool) span
type (text_type span) = token_at (kind.Word word'.String) span
type (ref_type of) = ref of
