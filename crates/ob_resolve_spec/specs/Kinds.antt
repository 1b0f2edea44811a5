-- Kinds: what a written type denotes, without its permission (Coblenz et al., TOPLAS 42(3), 2020, "Types"; the Obsidian
-- language documentation, "Types").
use Rattle.std.specs.Prelude.{ℕ, Bool, true, false, not, ◌||◌, nat_eq, List, map, Option, None, option_and_then, if◌then◌else◌}
use Rattle.std.specs.Option.{option_map_or}
use Rattle.ob_tree.specs.Names.{Ref, ref_with, TypeExpr, int_type, bool_type, text_type, ref_type}
use Rattle.ob_tree.specs.Stmts.{Local, int_local, bool_local, text_local, named_local}
use Rattle.ob_tree.specs.Members.{Contract, Formal}
use Rattle.ob_resolve_spec.specs.declared.kind.InferredKind.{InferredKind}
use Rattle.ob_resolve_spec.specs.declared.kind.InferredKind.TheVariants.{Int as an_int, Bool as a_bool, Text as a_text, Reference as a_reference, Nothing as nothing, Unknown as unknown}
use Rattle.ob_table_spec.specs.Names.{Name}
use Rattle.ob_resolve_spec.specs.Declarations.{Program, part_of_named, number_of_contract, declared_contract, params_of}
use Rattle.ob_resolve_spec.specs.Permissions.{WrittenPermission, as_unowned, written_permission, is_of}

-- the contract of this name
abbrev pub contract_of_name : Program → Name → Option Contract
contract_of_name program name = option_and_then (declared_contract program) (number_of_contract program name)

-- the contract to which references of this kind refer
abbrev pub contract_of_kind : Program → InferredKind → Option Contract
contract_of_kind program (a_reference n) = declared_contract program n
contract_of_kind program kind = None

-- a reference to the contract of this name
abbrev pub kind_of_name : Program → Name → InferredKind
kind_of_name program name = option_map_or a_reference (number_of_contract program name) unknown

-- a reference to the contract of this name, with a permission of that contract
abbrev pub kind_of_ref : Program → Ref → InferredKind
kind_of_ref program (ref_with of perm) =
    if option_map_or (λ c. is_of c perm) (contract_of_name program (part_of_named of).name) false
    then kind_of_name program (part_of_named of).name
    else unknown

-- the kind of a type
abbrev pub kind_of_type : Program → TypeExpr → InferredKind
kind_of_type program (int_type span) = an_int
kind_of_type program (bool_type span) = a_bool
kind_of_type program (text_type span) = a_text
kind_of_type program (ref_type of) = kind_of_ref program of

-- the kind of a local variable's type
abbrev pub kind_of_local : Program → Local → InferredKind
kind_of_local program (int_local span) = an_int
kind_of_local program (bool_local span) = a_bool
kind_of_local program (text_local span) = a_text
kind_of_local program (named_local of) = kind_of_name program (part_of_named of).name

-- the kind of a result, which may be missing
abbrev pub kind_of_result : Program → Option TypeExpr → InferredKind
kind_of_result program result = option_map_or (kind_of_type program) result nothing

-- the kinds of the parameters beside `this`
abbrev pub kinds_of_params : Program → List Formal → List InferredKind
kinds_of_params program formals = map (λ p. kind_of_type program p.of) (params_of formals)

-- the permission in a type
abbrev pub permission_in : TypeExpr → WrittenPermission
permission_in (ref_type (ref_with of perm)) = written_permission perm
permission_in type = as_unowned

-- whether a type is `int`, `bool` or `string`
abbrev pub is_value_type : TypeExpr → Bool
is_value_type (ref_type of) = false
is_value_type type = true

-- the number of the interface of this name
abbrev pub interface_named : Program → Name → Option ℕ
interface_named program name =
    if option_map_or (λ c. c.interface) (contract_of_name program name) false then number_of_contract program name else None

-- the number of the interface that a contract implements
abbrev pub interface_of : Program → Contract → Option ℕ
interface_of program c = option_and_then (λ named. interface_named program (part_of_named named).name) c.implements

-- whether the contract of the first number implements the interface of the second
abbrev pub implements : Program → ℕ → ℕ → Bool
implements program n m = option_map_or (nat_eq m) (option_and_then (interface_of program) (declared_contract program n)) false

-- whether a value of the second kind can't stand where one of the first is needed: a reference fits its own contract and
-- the interface that this implements; of what isn't known nothing is said
abbrev pub differs : Program → InferredKind → InferredKind → Bool
differs program unknown has = false
differs program wanted unknown = false
differs program an_int an_int = false
differs program a_bool a_bool = false
differs program a_text a_text = false
differs program (a_reference m) (a_reference n) = not (nat_eq m n || implements program n m)
differs program wanted has = true

-- whether it is known to be no reference
abbrev pub is_no_reference : InferredKind → Bool
is_no_reference (a_reference n) = false
is_no_reference unknown = false
is_no_reference kind = true

-- whether it is known to be no int, bool or string
abbrev pub is_no_value : InferredKind → Bool
is_no_value (a_reference n) = true
is_no_value nothing = true
is_no_value kind = false

-- whether two written types have one kind, as far as it is known
abbrev pub same_kind : InferredKind → InferredKind → Bool
same_kind unknown b = true
same_kind a unknown = true
same_kind an_int an_int = true
same_kind a_bool a_bool = true
same_kind a_text a_text = true
same_kind nothing nothing = true
same_kind (a_reference m) (a_reference n) = nat_eq m n
same_kind a b = false
