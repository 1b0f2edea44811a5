-- What is known where two branches join (Coblenz et al., TOPLAS 42(3), 2020, "Silica"; the premises and their order are
-- this project's own).
use Rattle.std.specs.Prelude.{ℕ, Bool, true, false, not, ◌&&◌, ◌||◌, nat_eq, List, ◌++◌, Option, Some, None, Result, Ok, if◌then◌else◌}
use Rattle.ob_base.specs.Faults.{branch_loses, this_differs, field_mismatch}
use Rattle.ob_base.specs.declared.fault.ProgramFault.{ProgramFault}
use Rattle.ob_base.specs.declared.fault.Span.{Span}
use Rattle.ob_perm.specs.Permissions.{Permission, owned, shared, unowned, owns, is_shared, is_unowned, joined}
use Rattle.ob_table.specs.Tables.{ClassTable}
use Rattle.ob_table.specs.declared.seen.Kind.{Kind}
use Rattle.ob_table.specs.declared.seen.Kind.TheVariants.{Int, Bool as BoolKind, Text, Reference}
use Rattle.ob_silica_places.specs.Known.{Known, known}
use Rattle.ob_silica_places.specs.Places.{slot, field, this}
use Rattle.ob_flow_spec.specs.Premises.{Premise, one, each, checked}
use Rattle.ob_flow_spec.specs.Contexts.{BodyFrame, field_count, declared_permission, Context, permission_at, is_held_as, is_owned_asset, accessible_under, accessible}

-- whether two kinds are the same
abbrev pub same_kind : Kind → Kind → Bool
same_kind Int Int = true
same_kind BoolKind BoolKind = true
same_kind Text Text = true
same_kind (Reference c) (Reference d) = nat_eq c.0 d.0
same_kind kind other = false

-- whether two permissions are an owner's, or both Shared, or both Unowned
abbrev pub same_mode : Permission → Permission → Bool
same_mode (owned a) q = owns q
same_mode shared q = is_shared q
same_mode unowned q = is_unowned q

-- what is known of a place after two branches: it is set where both set it with one kind
abbrev pub joined_known : Option Known → Option Known → Option Known
joined_known None y = None
joined_known (Some x) None = None
joined_known (Some x) (Some y) =
    if same_kind x.kind y.kind then Some (known x.kind (joined x.permission y.permission)) else None

-- whether a place is held in the same way in both branches
abbrev pub agrees_with : Known → Known → Bool
agrees_with x y = same_kind x.kind y.kind && same_mode x.permission y.permission

-- whether an owner of an asset is lost at the join: one branch has it and the other doesn't hold it so
abbrev pub join_loses : ClassTable → Option Known → Option Known → Bool
join_loses table None y = is_owned_asset table y
join_loses table (Some x) None = is_owned_asset table (Some x)
join_loses table (Some x) (Some y) =
    not (agrees_with x y) && (is_owned_asset table (Some x) || is_owned_asset table (Some y))

-- the context after two branches
abbrev pub joined_context : Context → Context → Context
joined_context g h = λ p. joined_known (g p) (h p)

-- a slot of which no owner of an asset is lost
abbrev pub joins_slot : BodyFrame → Context → Context → Span → ℕ → List Premise
joins_slot b g h at k = one branch_loses at (not (join_loses b.table (g (slot k)) (h (slot k))))

-- a field that is accessible in a branch, where `this` has this permission, and not after it is held there as declared
abbrev pub hands_field_on : BodyFrame → Permission → Context → Context → Span → ℕ → List Premise
hands_field_on b under g after at f =
    one field_mismatch at
    (not (accessible_under b under f) || (accessible b after f || is_held_as (g (field f)) (declared_permission b f)))

-- a field, which each branch hands on, and of which no owner of an asset is lost
abbrev pub joins_field : BodyFrame → Permission → Context → Context → Span → ℕ → List Premise
joins_field b under g h at f =
    hands_field_on b under g (joined_context g h) at f
    ++ hands_field_on b (permission_at h this) h (joined_context g h) at f
    ++ one branch_loses at (not (join_loses b.table (g (field f)) (h (field f))))

-- Joining two branches: `this` is held in the same way, and each slot and each field joins. `under` is the permission on
-- `this` in the first branch, before a `this` under test is Shared again.
abbrev pub joins_branches : BodyFrame → Permission → Context → Context → Span → List Premise
joins_branches b under g h at =
    one this_differs at (same_mode (permission_at g this) (permission_at h this))
    ++ each b.slots (joins_slot b g h at)
    ++ each (field_count b) (joins_field b under g h at)

-- what is known after two branches; where one ended it is what the other leaves
abbrev pub joined_branches : BodyFrame → Permission → Option Context → Option Context → Span
    → Result (Option Context) ProgramFault
joined_branches b under None h at = Ok h
joined_branches b under (Some g) None at = Ok (Some g)
joined_branches b under (Some g) (Some h) at = checked (joins_branches b under g h at) (Some (joined_context g h))
