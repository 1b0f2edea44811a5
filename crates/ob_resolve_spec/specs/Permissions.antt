-- Permissions as they are written, by the names of states (Coblenz et al., TOPLAS 42(3), 2020, "Permissions"; what an
-- interface's `Owned` denotes is this project's own).
use Rattle.std.specs.Prelude.{Bool, true, false, not, ◌&&◌, List, [], ◌∷◌, ◌++◌, map, Option, Some, None, if◌then◌else◌}
use Rattle.std.specs.List.{list_all}
use Rattle.ob_base.specs.declared.permission.Mode.TheVariants.{Owned, Shared, Unowned}
use Rattle.ob_tree.specs.Members.{Contract}
use Rattle.ob_tree.specs.declared.name.PermNode.{PermNode}
use Rattle.ob_tree.specs.declared.name.PermNode.TheVariants.{Mode, States}
use Rattle.ob_table_spec.specs.Names.{Name, is_among}
use Rattle.ob_resolve_spec.specs.Declarations.{state_names}

-- how a reference holds its object: with others, without a say, as its owner, or as its owner in one of these states
pub data WrittenPermission : Type 0 where
  as_shared : WrittenPermission
  as_unowned : WrittenPermission
  as_owner : WrittenPermission
  as_owner_in : List Name → WrittenPermission

-- the permission that is written
abbrev pub written_permission : PermNode → WrittenPermission
written_permission (Mode Owned span) = as_owner
written_permission (Mode Shared span) = as_shared
written_permission (Mode Unowned span) = as_unowned
written_permission (States states) = as_owner_in (map (λ s. s.name) states)

-- whether a permission says nothing of a contract that isn't so: each state that it names is one of the contract's
abbrev pub is_of : Contract → PermNode → Bool
is_of c (Mode mode span) = true
is_of c (States states) = list_all (λ s. is_among s.name (state_names c)) states

-- the permission that is written of a contract, or nothing where it has a fault
abbrev pub known_permission : Contract → PermNode → Option WrittenPermission
known_permission c perm = if is_of c perm then Some (written_permission perm) else None

-- the permission at the end: without `>>` it is the one at the start
abbrev pub known_exit : Contract → PermNode → Option PermNode → Option WrittenPermission
known_exit c entry None = known_permission c entry
known_exit c entry (Some exit) = known_permission c exit

-- whether the holder owns the object
abbrev pub is_owning : WrittenPermission → Bool
is_owning as_shared = false
is_owning as_unowned = false
is_owning as_owner = true
is_owning (as_owner_in states) = true

-- where an object may be found: in a state of this name, in one that its interface doesn't name, or in no state
pub data Situation : Type 0 where
  in_state : Name → Situation
  in_other_state : Situation
  in_no_state : Situation

-- where an object may be found beside these states of its contract
abbrev pub other_situations : Contract → List Name → List Situation
other_situations c [] = (if c.interface then in_other_state ∷ [] else []) ++ in_no_state ∷ []
other_situations c (state ∷ states) = if c.interface then in_other_state ∷ [] else []

-- where an object of a contract may be found: in one of its states, or in no state if it has none; an object behind an
-- interface also in a state that the interface doesn't name
abbrev pub situations : Contract → List Situation
situations c = map in_state (state_names c) ++ other_situations c (state_names c)

-- whether an owner with this permission may find its object so
abbrev pub allows : WrittenPermission → Situation → Bool
allows as_owner s = true
allows (as_owner_in states) (in_state state) = is_among state states
allows (as_owner_in states) s = false
allows p s = false

-- whether both share, both have no say, or both own
abbrev pub same_mode : WrittenPermission → WrittenPermission → Bool
same_mode as_shared as_shared = true
same_mode as_shared p = false
same_mode as_unowned as_unowned = true
same_mode as_unowned p = false
same_mode p q = is_owning q

-- whether two answers are the same
abbrev pub same_answer : Bool → Bool → Bool
same_answer true b = b
same_answer false b = not b

-- whether two permissions say the same of objects of a contract: owners find them in the same situations
abbrev pub agree : Contract → WrittenPermission → WrittenPermission → Bool
agree c p q = same_mode p q && list_all (λ s. same_answer (allows p s) (allows q s)) (situations c)

-- the same, where both are known
abbrev pub agree_if_known : Contract → Option WrittenPermission → Option WrittenPermission → Bool
agree_if_known c (Some p) (Some q) = agree c p q
agree_if_known c None q = true
agree_if_known c p None = true

-- whether what was held so at the start may be held so at the end: an owner may give up what it has, no other reference
-- becomes one of another kind
abbrev pub may_leave : WrittenPermission → WrittenPermission → Bool
may_leave as_shared exit = same_mode as_shared exit
may_leave as_unowned exit = same_mode as_unowned exit
may_leave entry exit = true
