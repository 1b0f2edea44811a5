-- What the members of a contract declare, as far as bodies and types ask for it.
use Rattle.std.specs.Prelude.{ℕ, ◌+◌, List, [], ◌∷◌, ◌++◌, map, filter, Option, None, Some, option_map, option_and_then, slice_get, if◌then◌else◌}
use Rattle.ob_tree.specs.NamesView.{type_of}
use Rattle.ob_tree.specs.Members.{Contract, Formal, Member, state_member, field_member, constructor_member, transaction_member}
use Rattle.ob_tree.specs.declared.member.FieldNode.{FieldNode}
use Rattle.ob_resolve_spec.specs.Declarations.{Program, declared_contract, FieldDeclaration, fields_of, field_names, Transaction, transactions_of, part_of_named, Constructor, constructor_of}
use Rattle.ob_table_spec.specs.Names.{Name, same}
use Rattle.ob_resolve_spec.specs.Kinds.{kind_of_type, kind_of_result, kinds_of_params}
use Rattle.ob_resolve_spec.specs.declared.kind.InferredKind.{InferredKind}
use Rattle.ob_resolve_scope.specs.Numbered.{numbered}
use Rattle.ob_resolve_scope.specs.declared.members.Heading.{Heading}
use Rattle.ob_resolve_scope.specs.declared.members.Members.{Members}

-- a transaction without its body: whether it is private, and the kinds of its parameters and of its result
abbrev pub heading_of : Program → Transaction → Heading
heading_of program t = record {
  private = t.private;
  params = kinds_of_params program t.params;
  result = kind_of_result program t.result;
}

-- the kind of a field
abbrev pub kind_of_declaration : Program → FieldDeclaration → InferredKind
kind_of_declaration program f = kind_of_type program f.field.of

-- the kind of a field of the tree
abbrev pub kind_of_node : Program → FieldNode → InferredKind
kind_of_node program f = kind_of_type program (type_of f.of)

-- the transaction that a member is
abbrev pub transaction_of_member : Member → Option Transaction
transaction_of_member (state_member name fields span) = None
transaction_of_member (field_member field) = None
transaction_of_member (constructor_member of perm params body span) = None
transaction_of_member (transaction_member private listed name params result body span) =
    Some (record { private = private; listed = listed; name = name; params = params; result = result; body = body })

-- the position of a member, if it is a transaction
abbrev pub position_in : ℕ → Member → List ℕ
position_in n (state_member name fields span) = []
position_in n (field_member field) = []
position_in n (constructor_member of perm params body span) = []
position_in n (transaction_member private listed name params result body span) = n ∷ []

-- the positions of the transactions among members, of which the first has this position
abbrev pub positions_from : ℕ → List Member → List ℕ
positions_from n [] = []
positions_from n (m ∷ ms) = position_in n m ++ positions_from (n + 1) ms

-- the fields and transactions of a contract by name, with their kinds and places, and the kinds of its
-- constructor's parameters
abbrev pub members_of : Program → Contract → Members
members_of program c = record {
  fields = numbered (field_names c);
  kinds = map (kind_of_declaration program) (fields_of c);
  transactions = numbered (map (λ t. t.name.name) (transactions_of c));
  headings = map (heading_of program) (transactions_of c);
  places = positions_from 0 c.members;
  constructor = kinds_of_params program (constructor_of c).params;
}

-- the contract of this number, unless it is an interface
abbrev pub object_at : Program → Option ℕ → Option Contract
object_at program n = option_and_then (λ c. if c.interface then None else Some c)
    (option_and_then (declared_contract program) n)

-- the parameters of the first of these members that has the contract's name
abbrev pub params_of_first : Name → List Constructor → Option (List Formal)
params_of_first name cs = option_map (λ m. m.params)
    (slice_get (filter (λ m. same name (part_of_named m.of).name) cs) 0)
