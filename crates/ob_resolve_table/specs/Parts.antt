-- Parts of the class table, as the tree's parts have them (this project's own).
use Rattle.std.specs.Prelude.{ℕ, ◌+◌, List, [], ◌∷◌, ◌++◌, map, filter, Option, slice_get}
use Rattle.std.specs.Option.{option_map_or}
use Rattle.ob_base.specs.declared.permission.Perm.{Perm}
use Rattle.ob_tree.specs.Names.{Ref, ref_with}
use Rattle.ob_tree.specs.Members.{Contract as ContractNode}
use Rattle.ob_tree.specs.NamesView.{named_of}
use Rattle.ob_tree.specs.StmtsView.{block_of}
use Rattle.ob_tree.specs.MembersView.{formal_of, field_of}
use Rattle.ob_tree.specs.declared.member.FieldNode.{FieldNode}
use Rattle.ob_tree.specs.declared.name.PermNode.{PermNode}
use Rattle.ob_table.specs.Statements.{ResolvedBody}
use Rattle.ob_table.specs.declared.contract.Field.{Field}
use Rattle.ob_table_spec.specs.Names.{Name, same}
use Rattle.ob_resolve_spec.specs.Declarations.{Program, part_of_named, field_inside, Constructor, Transaction}
use Rattle.ob_resolve_spec.specs.Kinds.{contract_of_name, kind_of_result}
use Rattle.ob_resolve_spec.specs.Numbers.{perm_on}
use Rattle.ob_resolve_spec.specs.TableOf.{field_in_table, body_with}
use Rattle.ob_resolve_table.specs.declared.constructors.Written.{Written}

-- a permission on the contract that a reference's type names
abbrev pub perm_on_ref : Program → Ref → PermNode → Perm
perm_on_ref program (ref_with of own) perm = perm_on (contract_of_name program (part_of_named of).name) perm

-- a field inside a state, in the table
abbrev pub field_in_state : Program → ContractNode → Name → FieldNode → Field
field_in_state program own state node = field_in_table program own (field_inside state (field_of node))

-- a constructor's parts as plain data
abbrev pub constructor_written : Written → Constructor
constructor_written w = record {
  of = named_of w.of.now;
  perm = w.perm.now;
  params = map formal_of w.params.now;
  body = block_of w.body.now;
}

-- the first of these constructors that has the contract's name
abbrev pub first_constructor : Name → List Constructor → Option Constructor
first_constructor name cs = slice_get (filter (λ m. same name (part_of_named m.of).name) cs) 0

-- the bodies of these transactions, the first of which has this number
abbrev pub bodies_from : Program → ContractNode → ℕ → List Transaction → List ResolvedBody
bodies_from program own n [] = []
bodies_from program own n (t ∷ ts) =
    option_map_or (λ body. body_with program own n (kind_of_result program t.result) t.params body ∷ []) t.body []
    ++ bodies_from program own (n + 1) ts
