-- That the canonical layout of a tree, read again, is the same tree but for its places.
use Rattle.std.specs.Prelude.{ℕ, ◌≡◌, List}
use Rattle.ob_lexer.specs.Lexis.{HasTokens}
use Rattle.ob_lexer.specs.declared.lexer.Lexed.{Lexed}
use Rattle.ob_tree.specs.Members.{Contract}
use Rattle.ob_tree_print.specs.MemberTokens.{tokens_of as kinds_of}
use Rattle.ob_tree_print.specs.Layout.{layout}
use Rattle.ob_parser_spec.specs.Rows.{Loaded}
use Rattle.ob_parser_spec.specs.MemberRows.{program}
use Rattle.ob_parser_spec.specs.Grammar.{tokens_of, IsWithin, HasTree}
use Rattle.ob_tree_print_laws.specs.Unplaced.{unplaced}

-- the canonical layout of a tree
abbrev pub layout_of : List Contract → List ℕ
layout_of tree = layout (kinds_of tree)

-- at no token of a text that spells a tree does the load pass `most_open`
abbrev pub IsShallow : List ℕ → Type 0
IsShallow text = (lexed : Lexed) (tree : List Contract) (read : List Loaded) → HasTokens text lexed → lexed.tokens ≡ tokens_of read → program tree read → IsWithin read

-- the text spells a tree that is this one but for its places
pub record IsReadAs (text : List ℕ) (tree : List Contract) : Type 0 where
  pub lexed : Lexed
  pub spelled : HasTokens text lexed
  pub again : List Contract
  pub parsed : HasTree lexed.tokens again
  pub same : unplaced again ≡ unplaced tree
