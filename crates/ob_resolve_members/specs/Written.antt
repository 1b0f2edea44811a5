-- Permissions as they are written, and what compares them.
use Rattle.std.specs.Prelude.{ℕ, Bool, false, not, ◌&&◌, ◌||◌, List, Option, Some, None, is_some}
use Rattle.std.specs.List.{list_all}
use Rattle.ob_base.specs.declared.permission.Mode.{Mode}
use Rattle.ob_base.specs.declared.permission.Mode.TheVariants.{Owned, Shared, Unowned}
use Rattle.ob_tree.specs.Names.{Ref, TypeExpr, ref_with, ref_type}
use Rattle.ob_tree.specs.Members.{Contract}
use Rattle.ob_tree.specs.declared.name.NamePart.{NamePart}
use Rattle.ob_table_spec.specs.Names.{Name, same}
use Rattle.ob_resolve_spec.specs.Declarations.{part_of_named}
use Rattle.ob_resolve_spec.specs.Permissions.{WrittenPermission, as_shared, as_unowned, as_owner, as_owner_in, written_permission, situations, allows, is_of}
use Rattle.ob_resolve_scope.specs.Numbered.{find}

-- the permission of a mode
abbrev pub written_mode : Mode → WrittenPermission
written_mode Owned = as_owner
written_mode Shared = as_shared
written_mode Unowned = as_unowned

-- whether a mode says the same as an owner with states of these names
abbrev pub agree_with_mode : Contract → Mode → List Name → Bool
agree_with_mode c Owned names = list_all (allows (as_owner_in names)) (situations c)
agree_with_mode c Shared names = false
agree_with_mode c Unowned names = false

-- whether a state is one of the others, if it is one of the contract's own
abbrev pub is_kept : List (Name × ℕ) → List (Name × ℕ) → NamePart → Bool
is_kept own others state = not (is_some (find state.name own)) || is_some (find state.name others)

-- the permission in a type, if it has one
abbrev pub written_in : TypeExpr → Option WrittenPermission
written_in (ref_type (ref_with of perm)) = Some (written_permission perm)
written_in type = None

-- whether a type is that of the contract, with a permission without fault
abbrev pub is_own : Contract → Ref → Bool
is_own c (ref_with of perm) = same c.name (part_of_named of).name && is_of c perm
