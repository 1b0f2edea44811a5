-- The shape of the contracts that tokens spell, and of the whole tree.
use Rattle.std.proofs.Common.{ℕ, ◌≡◌, Bool, true, false, List, Option, None, IsTrue, refl, sym, subst}
use Rattle.std.specs.Prelude.{All}
use Rattle.std.proofs.lemmas.List.Elements.{All-from_recursion}
use Rattle.ob_base.specs.Names.{is_text}
use Rattle.ob_lexer.specs.Lexis.{HasTokens}
use Rattle.ob_lexer.specs.declared.lexer.Lexed.{Lexed}
use Rattle.ob_lexer.specs.declared.token.Word.TheVariants as word'
use Rattle.ob_tree.specs.Names.{Named}
use Rattle.ob_tree.specs.Members.{Member, Contract}
use Rattle.ob_parser_spec.specs.Rows.{Row, ◌⨟◌, word, flag}
use Rattle.ob_parser_spec.specs.MemberRows.{member, interface_member, title, body, of_interface, contract_kind, contract}
use Rattle.ob_parser_spec.specs.Grammar.{HasTree}
use Rattle.ob_resolve_spec.specs.Shape.{HasMemberShape, HasContractShape, HasShape}
use Rattle.ob_parser_laws.proofs.TokenValues.{AreInRange, text_in_range, name_is_text}
use Rattle.ob_parser_laws.proofs.RowFacts.{Says, never_says, both_say, so_says, name_says, first_says, then_says, each_says, tokens_in_range}
use Rattle.ob_parser_laws.proofs.MemberShapes.{member_says, interface_member_says}

title_says : (c : Contract) → Says (title c) (IsTrue (is_text c.name))
title_says c = first_says (so_says (name_is_text c.name) name_says)

body_says : (row : Member → Row) (interface : Bool) → ((m : Member) → Says (row m) (HasMemberShape interface m))
    → (c : Contract) → Says (body row c) (All (HasMemberShape interface) c.members)
body_says row interface all c =
    then_says (first_says (so_says (All-from_recursion (HasMemberShape interface) c.members)
    (each_says row (HasMemberShape interface) all c.members)))

contract_shape : (c : Contract) (interface : Bool) → c.interface ≡ interface
    → (interface ≡ true → (c.main ≡ false) × (c.implements ≡ None))
    → IsTrue (is_text c.name) × All (HasMemberShape interface) c.members → HasContractShape c
contract_shape c interface is plain known = record {
  name_form = known.0;
  members = subst (λ i. All (HasMemberShape i) c.members) (sym is) known.1;
  interface = subst (λ i. i ≡ true → (c.main ≡ false) × (c.implements ≡ None)) (sym is) plain;
}

interface_says : (c : Contract) → c.interface ≡ true → (main : Bool) → c.main ≡ main → (implements : Option Named)
    → c.implements ≡ implements
    → Says (of_interface main implements
    (flag word'.Asset c.asset ⨟ word word'.Interface ⨟ title c ⨟ body interface_member c)) (HasContractShape c)
interface_says c is false not_main None none =
    so_says (contract_shape c true is (λ e. (not_main, none)))
    (both_say (then_says (then_says (first_says (title_says c))))
    (then_says (then_says (then_says (body_says interface_member true interface_member_says c)))))
interface_says c is main main_is implements implements_is = never_says

kind_says : (c : Contract) (interface : Bool) → c.interface ≡ interface
    → Says (contract_kind interface c) (HasContractShape c)
kind_says c false is =
    so_says (contract_shape c false is (λ e. absurd cc))
    (both_say (then_says (then_says (then_says (first_says (title_says c)))))
    (then_says (then_says (then_says (then_says (then_says (body_says member false member_says c)))))))
kind_says c true is = interface_says c is c.main refl c.implements refl

pub tree_shape : (text : List ℕ) (lexed : Lexed) (tree : List Contract) → HasTokens text lexed
    → HasTree lexed.tokens tree → HasShape tree
tree_shape text lexed tree spelled has =
    let ranges = tokens_in_range has.read (subst AreInRange has.all (text_in_range text lexed spelled)) in
    All-from_recursion HasContractShape tree
    ((each_says contract HasContractShape (λ c. kind_says c c.interface refl) tree).says has.read ranges has.spelled)
