-- What a contract must have of its interface (Coblenz et al., TOPLAS 42(3), 2020, "Interfaces"; how permissions are compared
-- is this project's own).
use Rattle.std.specs.Prelude.{Bool, true, false, not, ◌&&◌, ◌||◌, List, [], ◌∷◌, Option, Some, None, if◌then◌else◌}
use Rattle.std.specs.Option.{option_map_or}
use Rattle.std.specs.List.{list_all, list_any}
use Rattle.std.specs.Cmp.Lexicographic.{pointwise}
use Rattle.ob_tree.specs.Names.{Named, ref_with, TypeExpr, ref_type}
use Rattle.ob_tree.specs.Members.{Contract, Formal}
use Rattle.ob_tree.specs.declared.name.PermNode.{PermNode}
use Rattle.ob_tree.specs.declared.name.Subject.{Subject}
use Rattle.ob_tree.specs.declared.name.Subject.TheVariants.{This, Name as NameSubject}
use Rattle.ob_table_spec.specs.Names.{same, is_among, firsts}
use Rattle.ob_resolve_spec.specs.Declarations.{Program, part_of_named, declared_contract, state_names, Param, params_of, Transaction, transactions_of, transaction_named}
use Rattle.ob_resolve_spec.specs.Permissions.{WrittenPermission, as_unowned, is_of, known_permission, known_exit, agree, agree_if_known}
use Rattle.ob_resolve_spec.specs.declared.kind.InferredKind.{InferredKind}
use Rattle.ob_resolve_spec.specs.declared.kind.InferredKind.TheVariants.{Reference as a_reference}
use Rattle.ob_resolve_spec.specs.Kinds.{kind_of_type, permission_in, same_kind}

-- What is held of `this`.

-- whether it is `this`
abbrev pub is_this_subject : Subject → Bool
is_this_subject (This span) = true
is_this_subject (NameSubject name) = false

-- whether a parameter is `this`
abbrev pub is_this : Formal → Bool
is_this formal = is_this_subject formal.name

-- the permission at the start and the one at the end, each if it is known
pub record EntryAndExit : Type 0 where
  pub entry : Option WrittenPermission
  pub exit : Option WrittenPermission

-- nothing is known of what is held
abbrev pub held_unknown : EntryAndExit
held_unknown = record { entry = None; exit = None }

-- what is held with this permission, if the type is the contract's own and the permission has no fault
abbrev pub held_with : Contract → Named → PermNode → Option PermNode → EntryAndExit
held_with own of perm exit =
    if same own.name (part_of_named of).name && is_of own perm
    then record { entry = known_permission own perm; exit = known_exit own perm exit }
    else held_unknown

-- `this` has the type of its contract; with another, or with a permission that has a fault, nothing is known of it
abbrev pub held_by_type : Contract → TypeExpr → Option PermNode → EntryAndExit
held_by_type own (ref_type (ref_with of perm)) exit = held_with own of perm exit
held_by_type own type exit = held_unknown

-- what is held of `this`: where it isn't written it is Unowned, and it is written as the first parameter alone
abbrev pub held_of_this : Contract → List Formal → EntryAndExit
held_of_this own [] = record { entry = Some as_unowned; exit = Some as_unowned }
held_of_this own (formal ∷ formals) =
    if list_any is_this formals then held_unknown
    else if is_this formal then held_by_type own formal.of formal.exit
    else record { entry = Some as_unowned; exit = Some as_unowned }

-- The same type, parameter and transaction, as far as they are known: what has a fault of its own differs from nothing.

-- a test of the contract to which references of both kinds refer
abbrev pub where_both_refer : Program → InferredKind → InferredKind → (Contract → Bool) → Bool
where_both_refer program (a_reference m) (a_reference n) test = option_map_or test (declared_contract program m) true
where_both_refer program a b test = true

-- the same kind, and permissions that agree
abbrev pub same_type : Program → TypeExpr → TypeExpr → Bool
same_type program s t =
    let a = kind_of_type program s in
    let b = kind_of_type program t in
    same_kind a b && where_both_refer program a b (λ c. agree c (permission_in s) (permission_in t))

-- the permission at the end of a parameter of this type
abbrev pub exit_in : Contract → TypeExpr → Option PermNode → Option WrittenPermission
exit_in c (ref_type (ref_with of perm)) exit = known_exit c perm exit
exit_in c type exit = None

-- the same type, and the same permission at the end; names don't count
abbrev pub same_param : Program → Param → Param → Bool
same_param program p q =
    same_type program p.of q.of
    && where_both_refer program (kind_of_type program p.of) (kind_of_type program q.of)
    (λ c. agree_if_known c (exit_in c p.of p.exit) (exit_in c q.of q.exit))

-- the same type of result, or none in both
abbrev pub same_result : Program → Option TypeExpr → Option TypeExpr → Bool
same_result program None None = true
same_result program (Some s) (Some t) = same_type program s t
same_result program s t = false

-- the same permissions of `this`; states go by name between a contract and its interface
abbrev pub same_held : Contract → EntryAndExit → EntryAndExit → Bool
same_held own a b = agree_if_known own a.entry b.entry && agree_if_known own a.exit b.exit

-- whether a contract's transaction is as its interface asks
abbrev pub answers : Program → Contract → Contract → Transaction → Transaction → Bool
answers program interface own asked t =
    not t.private
    && pointwise (same_param program) (params_of t.params) (params_of asked.params)
    && same_result program t.result asked.result
    && same_held own (held_of_this own t.params) (held_of_this interface asked.params)

-- whether a contract has a transaction of the name, as its interface asks
abbrev pub has_answer : Program → Contract → Contract → Transaction → Bool
has_answer program interface own asked =
    option_map_or (answers program interface own asked) (transaction_named own asked.name.name) false

-- whether a contract has what its interface asks: an asset only behind an asset interface, each of the states, and each of
-- the transactions
abbrev pub meets : Program → Contract → Contract → Bool
meets program interface own =
    (not own.asset || interface.asset)
    && list_all (λ state. is_among state (state_names own)) (state_names interface)
    && list_all (has_answer program interface own) (firsts (λ t. t.name.name) (transactions_of interface))
