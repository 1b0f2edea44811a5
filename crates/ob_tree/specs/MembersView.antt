-- The members and contracts of a tree, as plain data.
use Rattle.std.specs.Prelude.{List, map, option_map}
use Rattle.ob_tree.specs.Members.{Field, Formal, Listed, Member, state_member, field_member, constructor_member, transaction_member, Contract}
use Rattle.ob_tree.specs.NamesView.{named_of, ref_of, type_of, name_views}
use Rattle.ob_tree.specs.ExprsView.{expr_views}
use Rattle.ob_tree.specs.StmtsView.{block_of, stmt_views}
use Rattle.ob_tree.specs.declared.member.FieldNode.{FieldNode}
use Rattle.ob_tree.specs.declared.member.FormalNode.{FormalNode}
use Rattle.ob_tree.specs.declared.member.ListedNode.{ListedNode}
use Rattle.ob_tree.specs.declared.member.Member as made
use Rattle.ob_tree.specs.declared.member.Member.TheVariants.{State, Field as FieldMember, Constructor, Transaction}
use Rattle.ob_tree.specs.declared.contract.ContractNode.{ContractNode}
use Rattle.ob_tree.specs.declared.contract.Tree.{Tree}

-- a field
abbrev pub field_of : FieldNode → Field
field_of node = record { of = type_of node.of; name = node.name; available = node.available }

-- a parameter
abbrev pub formal_of : FormalNode → Formal
formal_of node = record { of = type_of node.of; exit = node.exit; name = node.name }

-- a field in a list
abbrev pub listed_of : ListedNode → Listed
listed_of node = record { of = ref_of node.of; exit = node.exit; name = node.name }

-- a member
abbrev pub member_of : made.Member → Member
member_of (State name fields span) = state_member name (map field_of fields) span
member_of (FieldMember field) = field_member (field_of field)
member_of (Constructor of perm params body span) = constructor_member (named_of of) perm (map formal_of params) (block_of body) span
member_of (Transaction private listed name params result body span) = transaction_member private (map listed_of listed) name (map formal_of params) (option_map type_of result) (option_map block_of body) span

-- a contract or an interface
abbrev pub contract_of : ContractNode → Contract
contract_of node = record {
  main = node.main;
  asset = node.asset;
  interface = node.interface;
  name = node.name;
  param = node.param;
  implements = option_map named_of node.implements;
  members = map member_of node.members;
  span = node.span;
  end = node.end;
}

-- a program
abbrev pub tree_of : Tree → List Contract
tree_of tree = map contract_of tree.contracts

pub ruleset views = (name_views, expr_views, stmt_views)
