-- From plain data back to a tree.
use Rattle.std.proofs.Common.{◌≡◌, List, map, option_map, ap, sym, ◌∙◌}
use Rattle.ob_tree.specs.Members.{Field, Formal, Listed, Member, state_member, field_member, constructor_member, transaction_member, Contract}
use Rattle.ob_tree.specs.MembersView.{field_of, formal_of, listed_of, member_of, contract_of, tree_of}
use Rattle.ob_tree.specs.NamesView.{named_of, type_of}
use Rattle.ob_tree.specs.StmtsView.{block_of}
use Rattle.ob_tree.proofs.BackLemmas.{map_back, option_back}
use Rattle.ob_tree.proofs.NamesBack.{named_back, named_back-of, ref_back, ref_back-of, type_back, type_back-of}
use Rattle.ob_tree.proofs.StmtsBack.{block_back, block_back-of}
use Rattle.ob_tree.specs.declared.member.FieldNode.{FieldNode}
use Rattle.ob_tree.specs.declared.member.FormalNode.{FormalNode}
use Rattle.ob_tree.specs.declared.member.ListedNode.{ListedNode}
use Rattle.ob_tree.specs.declared.member.Member as made
use Rattle.ob_tree.specs.declared.member.Member.TheVariants.{State, Field as FieldMember, Constructor, Transaction}
use Rattle.ob_tree.specs.declared.contract.ContractNode.{ContractNode}
use Rattle.ob_tree.specs.declared.contract.Tree.{Tree}

abbrev field_back : Field → FieldNode
field_back field = record { of = type_back field.of; name = field.name; available = field.available }

field_back-of : (node : FieldNode) → field_back (field_of node) ≡ node
field_back-of node = ap (λ of. record { of = of; name = node.name; available = node.available }) (type_back-of node.of)

abbrev formal_back : Formal → FormalNode
formal_back formal = record { of = type_back formal.of; exit = formal.exit; name = formal.name }

formal_back-of : (node : FormalNode) → formal_back (formal_of node) ≡ node
formal_back-of node = ap (λ of. record { of = of; exit = node.exit; name = node.name }) (type_back-of node.of)

abbrev listed_back : Listed → ListedNode
listed_back listed = record { of = ref_back listed.of; exit = listed.exit; name = listed.name }

listed_back-of : (node : ListedNode) → listed_back (listed_of node) ≡ node
listed_back-of node = ap (λ of. record { of = of; exit = node.exit; name = node.name }) (ref_back-of node.of)

abbrev member_back : Member → made.Member
member_back (state_member name fields span) = State name (map field_back fields) span
member_back (field_member field) = FieldMember (field_back field)
member_back (constructor_member of perm params body span) = Constructor (named_back of) perm (map formal_back params) (block_back body) span
member_back (transaction_member private listed name params result body span) = Transaction private (map listed_back listed) name (map formal_back params) (option_map type_back result) (option_map block_back body) span

member_back-of : (node : made.Member) → member_back (member_of node) ≡ node
member_back-of (State name fields span) = ap (λ fs. State name fs span) (map_back field_of field_back field_back-of fields)
member_back-of (FieldMember field) = ap FieldMember (field_back-of field)
member_back-of (Constructor of perm params body span) =
    ap (λ o. Constructor o perm (map formal_back (map formal_of params)) (block_back (block_of body)) span) (named_back-of of)
    ∙ ap (λ ps. Constructor of perm ps (block_back (block_of body)) span) (map_back formal_of formal_back formal_back-of params)
    ∙ ap (λ b. Constructor of perm params b span) (block_back-of body)
member_back-of (Transaction private listed name params result body span) =
    ap (λ ls. Transaction private ls name (map formal_back (map formal_of params)) (option_map type_back (option_map type_of result)) (option_map block_back (option_map block_of body)) span) (map_back listed_of listed_back listed_back-of listed)
    ∙ ap (λ ps. Transaction private listed name ps (option_map type_back (option_map type_of result)) (option_map block_back (option_map block_of body)) span) (map_back formal_of formal_back formal_back-of params)
    ∙ ap (λ r. Transaction private listed name params r (option_map block_back (option_map block_of body)) span) (option_back type_of type_back type_back-of result)
    ∙ ap (λ b. Transaction private listed name params result b span) (option_back block_of block_back block_back-of body)

abbrev contract_back : Contract → ContractNode
contract_back contract = record {
  main = contract.main;
  asset = contract.asset;
  interface = contract.interface;
  name = contract.name;
  param = contract.param;
  implements = option_map named_back contract.implements;
  members = map member_back contract.members;
  span = contract.span;
  end = contract.end;
}

contract_back-of : (node : ContractNode) → contract_back (contract_of node) ≡ node
contract_back-of node =
    ap (λ implements. record {
      main = node.main;
      asset = node.asset;
      interface = node.interface;
      name = node.name;
      param = node.param;
      implements = implements;
      members = map member_back (map member_of node.members);
      span = node.span;
      end = node.end;
    })
    (option_back named_of named_back named_back-of node.implements)
    ∙ ap (λ members. record {
      main = node.main;
      asset = node.asset;
      interface = node.interface;
      name = node.name;
      param = node.param;
      implements = node.implements;
      members = members;
      span = node.span;
      end = node.end;
    })
    (map_back member_of member_back member_back-of node.members)

abbrev tree_back : List Contract → Tree
tree_back contracts = record { contracts = map contract_back contracts }

tree_back-of : (tree : Tree) → tree_back (tree_of tree) ≡ tree
tree_back-of tree = ap (λ contracts. record { contracts = contracts }) (map_back contract_of contract_back contract_back-of tree.contracts)

pub tree_of-injective : (a b : Tree) → tree_of a ≡ tree_of b → a ≡ b
tree_of-injective a b same = sym (tree_back-of a) ∙ ap tree_back same ∙ tree_back-of b
