-- The class table that a program has (Coblenz et al., TOPLAS 42(3), 2020; the numbers are this project's own).
use Rattle.std.specs.Prelude.{ℕ, ◌+◌, false, List, [], ◌∷◌, ◌++◌, map, flat_map, length, Option, Some, None, option_map, if◌then◌else◌}
use Rattle.std.specs.Option.{option_map_or}
use Rattle.ob_base.specs.declared.permission.Perm.{Perm}
use Rattle.ob_tree.specs.Names.{Named, Ref, ref_with, TypeExpr, int_type, bool_type, text_type, ref_type}
use Rattle.ob_tree.specs.Stmts.{Block, block_with}
use Rattle.ob_tree.specs.Members.{Formal, Listed as ListedNode, Contract as ContractNode}
use Rattle.ob_tree.specs.declared.name.PermNode.{PermNode}
use Rattle.ob_tree.specs.declared.name.Subject.{Subject}
use Rattle.ob_tree.specs.declared.name.Subject.TheVariants.{This, Name}
use Rattle.ob_perm.specs.States.{anywhere}
use Rattle.ob_perm.specs.Permissions.{unowned}
use Rattle.ob_perm.specs.Masks.{mask_of, perm_of}
use Rattle.ob_table.specs.Statements.{ResolvedBody}
use Rattle.ob_table.specs.Tables.{ClassTable}
use Rattle.ob_table.specs.declared.contract.ResolvedType.{ResolvedType as TableKind}
use Rattle.ob_table.specs.declared.contract.ResolvedType.TheVariants.{Int, Bool as BoolKind, Text, Reference}
use Rattle.ob_table.specs.declared.contract.Field.{Field}
use Rattle.ob_table.specs.declared.contract.Param.{Param as TableParam}
use Rattle.ob_table.specs.declared.contract.Listed.{Listed}
use Rattle.ob_table.specs.declared.contract.Signature.{Signature}
use Rattle.ob_table.specs.declared.contract.Contract.{Contract}
use Rattle.ob_table_spec.specs.Names.{in_order}
use Rattle.ob_resolve_spec.specs.Declarations.{Program, part_of_named, number_of_contract, state_names, Availability, always, in_states, FieldDeclaration, fields_of, Param, params_of, Transaction, transactions_of, Constructor, constructor_of}
use Rattle.ob_resolve_spec.specs.declared.kind.InferredKind.{InferredKind}
use Rattle.ob_resolve_spec.specs.declared.kind.InferredKind.TheVariants.{Nothing as nothing}
use Rattle.ob_resolve_spec.specs.Kinds.{contract_of_name, kind_of_result, interface_of}
use Rattle.ob_resolve_spec.specs.Scopes.{scope_of_params}
use Rattle.ob_resolve_spec.specs.MemberSites.{around}
use Rattle.ob_resolve_spec.specs.Numbers.{contract_id, field_id, numbers_of_states, perm_on}
use Rattle.ob_resolve_spec.specs.Bodies.{resolved_stmts}

-- Types.

-- a reference to the contract of this name
abbrev pub reference_of : Program → Named → PermNode → TableKind
reference_of program of perm =
    Reference (contract_id (number_of_contract program (part_of_named of).name))
    (perm_on (contract_of_name program (part_of_named of).name) perm)

-- a type with its permission
abbrev pub resolved_type : Program → TypeExpr → TableKind
resolved_type program (int_type span) = Int
resolved_type program (bool_type span) = BoolKind
resolved_type program (text_type span) = Text
resolved_type program (ref_type (ref_with of perm)) = reference_of program of perm

-- the permission at the end, which is that at the start unless `>>` says another
abbrev pub written_at_end : PermNode → Option PermNode → PermNode
written_at_end entry None = entry
written_at_end entry (Some exit) = exit

-- the permission at the end of a parameter: of a value, Unowned
abbrev pub exit_of_type : Program → TypeExpr → Option PermNode → Perm
exit_of_type program (ref_type (ref_with of perm)) exit =
    perm_on (contract_of_name program (part_of_named of).name) (written_at_end perm exit)
exit_of_type program type exit = perm_of unowned

-- Fields.

-- in which states a field is there, as a set of bits
abbrev pub available_in : List (List ℕ) → Availability → ℕ
available_in states always = mask_of anywhere
available_in states (in_states names) = mask_of (numbers_of_states states names)

-- a field of the table
abbrev pub field_in_table : Program → ContractNode → FieldDeclaration → Field
field_in_table program own f = record {
  name = f.field.name.name;
  of = resolved_type program f.field.of;
  available =
      available_in (state_names own) f.available;
}

-- Signatures.

-- a parameter of the table
abbrev pub param_in_table : Program → Param → TableParam
param_in_table program p = record {
  name = p.name.name;
  of = resolved_type program p.of;
  exit =
      exit_of_type program p.of p.exit;
}

-- the field of this name, listed with a type and a permission at the end
abbrev pub listed_with : Program → ContractNode → List ℕ → Ref → Option PermNode → Listed
listed_with program own field (ref_with of perm) exit = record {
  field = field_id own field;
  entry = perm_on (contract_of_name program (part_of_named of).name) perm;
  exit = perm_on (contract_of_name program (part_of_named of).name) (written_at_end perm exit);
}

-- a listed field of the table
abbrev pub listed_in_table : Program → ContractNode → ListedNode → Listed
listed_in_table program own l = listed_with program own l.name.name l.of l.exit

-- the permission of `this`, at the start and at the end
abbrev pub perms_by_type : ContractNode → TypeExpr → Option PermNode → Perm × Perm
perms_by_type own (ref_type (ref_with of perm)) exit =
    (perm_on (Some own) perm, perm_on (Some own) (written_at_end perm exit))
perms_by_type own type exit = (perm_of unowned, perm_of unowned)

-- the permission of a first parameter, if it is `this`
abbrev pub perms_by_subject : ContractNode → TypeExpr → Option PermNode → Subject → Perm × Perm
perms_by_subject own of exit (This span) = perms_by_type own of exit
perms_by_subject own of exit (Name name) = (perm_of unowned, perm_of unowned)

-- where `this` isn't written it is Unowned
abbrev pub perms_of_this : ContractNode → List Formal → Perm × Perm
perms_of_this own [] = (perm_of unowned, perm_of unowned)
perms_of_this own (formal ∷ formals) = perms_by_subject own formal.of formal.exit formal.name

-- a transaction of the table
abbrev pub transaction_in_table : Program → ContractNode → Transaction → Signature
transaction_in_table program own t = record {
  name = t.name.name;
  private = t.private;
  entry = (perms_of_this own t.params).0;
  exit = (perms_of_this own t.params).1;
  params = map (param_in_table program) (params_of t.params);
  result = option_map (resolved_type program) t.result;
  listed = map (listed_in_table program own) t.listed;
}

-- a constructor has an empty name, gives its exit, and has no entry
abbrev pub constructor_in_table : Program → ContractNode → Constructor → Signature
constructor_in_table program own m = record {
  name = [];
  private = false;
  entry = perm_of unowned;
  exit = perm_on (Some own) m.perm;
  params = map (param_in_table program) (params_of m.params);
  result = None;
  listed = [];
}

-- Contracts.

-- the constructor stands first; an interface has none
abbrev pub signatures_of : Program → ContractNode → List Signature
signatures_of program own =
    (if own.interface then [] else constructor_in_table program own (constructor_of own) ∷ [])
    ++ map (transaction_in_table program own) (transactions_of own)

-- a contract or an interface of the table
abbrev pub contract_in_table : Program → ContractNode → Contract
contract_in_table program own = record {
  name = own.name;
  asset = own.asset;
  main = own.main;
  interface = own.interface;
  implements = option_map (λ n. record { 0 = n }) (interface_of program own);
  states = state_names own;
  fields = map (field_in_table program own) (fields_of own);
  constructor = if own.interface then None else Some (record { 0 = 0 });
  transactions = signatures_of program own;
}

-- Bodies.

-- a body with these parameters, at this number
abbrev pub body_with : Program → ContractNode → ℕ → InferredKind → List Formal → Block → ResolvedBody
body_with program own tx result params (block_with statements end) = record {
  contract = contract_id (number_of_contract program own.name);
  tx = record { 0 = tx };
  statements = resolved_stmts (around program own result) (scope_of_params program params) statements;
  end = end;
}

-- the body of a constructor, which has the number 0 and no result
abbrev pub constructor_body : Program → ContractNode → Constructor → ResolvedBody
constructor_body program own m = body_with program own 0 nothing m.params m.body

-- the body of a transaction after these
abbrev pub transaction_bodies : Program → ContractNode → List Transaction → Transaction → List ResolvedBody
transaction_bodies program own before t =
    option_map_or (λ body. body_with program own (length before + 1) (kind_of_result program t.result) t.params body
    ∷ []) t.body []

-- the bodies of a contract, the constructor's first; an interface has none
abbrev pub bodies_of : Program → ContractNode → List ResolvedBody
bodies_of program own =
    if own.interface then []
    else constructor_body program own (constructor_of own)
    ∷ in_order (transaction_bodies program own) (transactions_of own)

-- the class table of a program
abbrev pub table_of : Program → ClassTable
table_of program = record {
  contracts = map (contract_in_table program) program;
  bodies =
      flat_map (bodies_of program) program;
}
