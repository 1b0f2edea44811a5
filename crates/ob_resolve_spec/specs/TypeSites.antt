-- The sites of declared names, types and permissions.
use Rattle.std.specs.Prelude.{ℕ, List, [], ◌∷◌, ◌++◌, map, length, Option, Some, None}
use Rattle.std.specs.Option.{option_map_or}
use Rattle.ob_base.specs.declared.fault.Span.{Span}
use Rattle.ob_tree.specs.Names.{Ref, ref_with, TypeExpr, int_type, bool_type, text_type, ref_type}
use Rattle.ob_tree.specs.Stmts.{Local, int_local, bool_local, text_local, named_local}
use Rattle.ob_tree.specs.Members.{Contract}
use Rattle.ob_tree.specs.declared.name.NamePart.{NamePart}
use Rattle.ob_tree.specs.declared.name.PermNode.{PermNode}
use Rattle.ob_tree.specs.declared.name.PermNode.TheVariants.{Mode, States}
use Rattle.ob_table_spec.specs.Names.{Name, in_order, firsts}
use Rattle.ob_resolve_spec.specs.Declarations.{part_of_named}
use Rattle.ob_resolve_spec.specs.Permissions.{known_permission}
use Rattle.ob_resolve_spec.specs.Kinds.{contract_of_name}
use Rattle.ob_resolve_spec.specs.Visible.{a_contract, Visible}
use Rattle.ob_resolve_spec.specs.Sites.{Site, declares_name, counts_against_limit, names_thing, names_state, leaves_permission}

-- things get names, each beside those before it and the names that are taken already
abbrev pub declared_sites : {A : Type 0} → (A → NamePart) → List Name → List A → List Site
declared_sites name_of taken xs =
    in_order (λ before x. declares_name (map (λ y. (name_of y).name) before ++ taken) (name_of x) ∷ []) xs

-- there are so many things at most; a second thing of one name doesn't count
abbrev pub limit_sites : {A : Type 0} → (A → NamePart) → ℕ → List A → List Site
limit_sites name_of most xs =
    in_order (λ before x. counts_against_limit (length before) most (name_of x).span ∷ []) (firsts (λ x. (name_of x).name) xs)

-- the states of a permission on a contract
abbrev pub perm_sites : Contract → PermNode → List Site
perm_sites c (Mode mode span) = []
perm_sites c (States states) = map (names_state c) states

-- the place of a permission: its first word
abbrev pub span_of_perm : Span → PermNode → Span
span_of_perm otherwise (Mode mode span) = span
span_of_perm otherwise (States []) = otherwise
span_of_perm otherwise (States (state ∷ states)) = state.span

-- the permission at the end, on a contract
abbrev pub exit_sites : Contract → PermNode → Option PermNode → Span → List Site
exit_sites c entry None span = []
exit_sites c entry (Some exit) span =
    perm_sites c exit ++ leaves_permission (known_permission c entry) (known_permission c exit) (span_of_perm span exit) ∷ []

-- a reference's type, and what may stand after `>>`: of an unknown contract nothing more is asked
abbrev pub ref_sites : Visible → Ref → Option PermNode → List Site
ref_sites v (ref_with of perm) exit =
    names_thing a_contract v (part_of_named of)
    ∷ option_map_or (λ c. perm_sites c perm ++ exit_sites c perm exit (part_of_named of).span)
    (contract_of_name v.program (part_of_named of).name) []

-- a type
abbrev pub type_sites : Visible → TypeExpr → List Site
type_sites v (int_type span) = []
type_sites v (bool_type span) = []
type_sites v (text_type span) = []
type_sites v (ref_type of) = ref_sites v of None

-- the type of a result, if there is one
abbrev pub result_sites : Visible → Option TypeExpr → List Site
result_sites v result = option_map_or (type_sites v) result []

-- the type of a local variable
abbrev pub local_sites : Visible → Local → List Site
local_sites v (int_local span) = []
local_sites v (bool_local span) = []
local_sites v (text_local span) = []
local_sites v (named_local of) = names_thing a_contract v (part_of_named of) ∷ []
