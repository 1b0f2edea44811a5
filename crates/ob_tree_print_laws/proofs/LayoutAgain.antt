-- The canonical layout of a tree, read again, is the same tree but for its places.
use Rattle.std.proofs.Common.{ℕ, ◌≤◌, List, [], ◌∷◌, length, map, sym, subst}
use Rattle.ob_base.specs.Limits.{longest_program}
use Rattle.ob_lexer.specs.Lexis.{HasTokens}
use Rattle.ob_lexer.specs.declared.lexer.Lexed.{Lexed}
use Rattle.ob_lexer.specs.declared.token.Token.{Token}
use Rattle.ob_lexer.specs.declared.token.TokenKind.{TokenKind}
use Rattle.ob_tree.specs.Members.{Contract}
use Rattle.ob_tree_print.specs.MemberTokens.{tokens_of as kinds_of}
use Rattle.ob_parser_spec.specs.Grammar.{HasTree}
use Rattle.ob_tree_print_laws.specs.Again.{layout_of, IsShallow, IsReadAs}
use Rattle.ob_tree_print_laws.proofs.AgainRows.{AllKinds}
use Rattle.ob_tree_print_laws.proofs.AgainContracts.{program_again, kinds_within}
use Rattle.ob_tree_print_laws.proofs.LayoutText.{Spellable, AllSpellable, words_spellable, signs_spellable, tokens_spellable, layout_lexed}

to_kinds : (ks : List TokenKind) → AllSpellable ks → AllKinds Spellable ks
to_kinds [] is = tt
to_kinds (k ∷ ks) is = (is.0, to_kinds ks is.1)

from_kinds : (ks : List TokenKind) → AllKinds Spellable ks → AllSpellable ks
from_kinds [] is = tt
from_kinds (k ∷ ks) is = (is.0, from_kinds ks is.1)

-- each token of the layout is spelled somehow in the text
laid_spellable : (text : List ℕ) (lexed : Lexed) (tree : List Contract) → HasTokens text lexed → HasTree lexed.tokens tree → AllSpellable (kinds_of tree)
laid_spellable text lexed tree spelled has =
    let kinds = to_kinds (map (λ (t : Token). t.kind) lexed.tokens) (tokens_spellable text lexed spelled) in
    from_kinds (kinds_of tree) (kinds_within Spellable words_spellable signs_spellable tree has.read has.spelled (subst (λ (ts : List Token). AllKinds Spellable (map (λ (t : Token). t.kind) ts)) has.all kinds))

pub layout_again : (text : List ℕ) (lexed : Lexed) (tree : List Contract) → HasTokens text lexed → HasTree lexed.tokens tree → length (layout_of tree) ≤ longest_program → IsShallow (layout_of tree) → IsReadAs (layout_of tree) tree
layout_again text lexed tree spelled has short shallow =
    let laid = layout_lexed (kinds_of tree) (laid_spellable text lexed tree spelled has) short in
    let read = program_again tree has.read has.spelled laid.0.tokens laid.2 in
    record {
      lexed = laid.0;
      spelled = laid.1;
      again = read.0;
      parsed = record { read = read.1; all = sym read.2; spelled = read.3; within = shallow laid.0 read.0 read.1 laid.1 (sym read.2) read.3 };
      same = read.4;
    }
