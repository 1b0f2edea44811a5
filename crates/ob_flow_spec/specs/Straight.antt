-- The rules of the forms without branches and calls (Coblenz et al., TOPLAS 42(3), 2020, "Silica"; the premises and their
-- order are this project's own).
use Rattle.std.specs.Prelude.{ℕ, not, List, ◌++◌, Option, Some}
use Rattle.std.specs.Option.{option_map_or}
use Rattle.ob_base.specs.Faults.{not_owning, asset_lost, asset_overwritten, not_accessible, under_test, view_changes, assert_fails}
use Rattle.ob_base.specs.declared.fault.Span.{Span}
use Rattle.ob_base.specs.declared.id.ContractId.{ContractId}
use Rattle.ob_base.specs.declared.permission.Perm.{Perm}
use Rattle.ob_perm.specs.Permissions.{unowned, owns, is_unowned, kept, matches}
use Rattle.ob_perm.specs.Masks.{permission_of}
use Rattle.ob_table.specs.declared.seen.Kind.{Kind}
use Rattle.ob_table.specs.declared.seen.Kind.TheVariants.{Reference}
use Rattle.ob_table_spec.specs.WellFormed.{kind_of_resolved}
use Rattle.ob_silica.specs.declared.place.Operand.{Operand}
use Rattle.ob_silica_places.specs.Known.{known}
use Rattle.ob_silica_places.specs.Places.{Location, slot, field, this, located}
use Rattle.ob_silica_places.specs.Converting.{converted}
use Rattle.ob_flow_spec.specs.Premises.{Premise, one}
use Rattle.ob_flow_spec.specs.Contexts.{BodyFrame, Context, put, now, permission_at, counted, type_of_field, accessible, owns_asset, TestedPlaces, is_tested}
use Rattle.ob_flow_spec.specs.Uses.{kind_known, reads_place, uses_place}
use Rattle.ob_flow_spec.specs.Binding.{read_of}
use Rattle.ob_flow_spec.specs.Filling.{fills_field, after_fill, got}

-- a value that is no reference in a slot
abbrev pub put_value : Context → ℕ → Kind → Context
put_value g k kind = put g (slot k) (Some (known kind unowned))

-- an operator's operands are used
abbrev pub operates_on : BodyFrame → Context → Operand → Operand → List Premise
operates_on b g x y = uses_place b g (read_of x) ++ uses_place b g (read_of y)

-- copying a value: it is used, and a field is set only where `this` lets its fields change and the field is accessible
abbrev pub copies_place : BodyFrame → Context → Span → Location → Operand → List Premise
copies_place b g at (slot k) from = uses_place b g (read_of from)
copies_place b g at (field f) from =
    uses_place b g (read_of from) ++ one view_changes at (not (is_unowned (permission_at g this)))
    ++ one not_accessible at (accessible b g f)

-- the context after a copy
abbrev pub after_copy : BodyFrame → Context → Location → Operand → Context
after_copy b g (slot k) from = put_value g k (kind_known (g (located from)))
after_copy b g (field f) from = put g (field f) (Some (known (kind_of_resolved (type_of_field b f)) unowned))

-- Moving a reference into a slot: it is used, neither place is under test, and the slot owns no asset.
abbrev pub moves_to_slot : BodyFrame → TestedPlaces → Context → Span → ℕ → Operand → List Premise
moves_to_slot b ts g at k from =
    uses_place b g (read_of from)
    ++ one under_test from.span (not (is_tested ts (located from)))
    ++ one under_test at (not (is_tested ts (slot k)))
    ++ one asset_overwritten at (not (owns_asset b g (slot k)))

-- the kind of a slot of this contract, or else of the place from which it is set
abbrev pub moved_kind : Context → Operand → Option ContractId → Kind
moved_kind g from contract = option_map_or Reference contract (kind_known (g (located from)))

-- the context after a move into a slot: an owner's permission goes over
abbrev pub moved_to_slot : BodyFrame → Context → ℕ → Operand → Option ContractId → Context
moved_to_slot b g k from contract =
    put (now g (located from) (kept (permission_at g (located from)) (counted g (located from)))) (slot k)
    (Some (known (moved_kind g from contract)
    (converted b.table (kind_known (g (located from))) (moved_kind g from contract) (counted g (located from)))))

-- Moving a reference into a field: the field is accessible and not under test, it is filled, and then it owned no asset.
abbrev pub moves_to_field : BodyFrame → TestedPlaces → Context → Span → ℕ → Operand → List Premise
moves_to_field b ts g at f from =
    one not_accessible at (accessible b g f)
    ++ one under_test at (not (is_tested ts (field f)))
    ++ fills_field b ts g at f (read_of from)
    ++ one asset_overwritten at (not (owns_asset b (after_fill b g f (located from)) (field f)))

-- the context after a move into a field
abbrev pub moved_to_field : BodyFrame → Context → ℕ → Operand → Context
moved_to_field b g f from = put (after_fill b g f (located from)) (field f) (got b g f (located from))

-- the premises of a move
abbrev pub moves_place : BodyFrame → TestedPlaces → Context → Span → Location → Operand → List Premise
moves_place b ts g at (slot k) from = moves_to_slot b ts g at k from
moves_place b ts g at (field f) from = moves_to_field b ts g at f from

-- the context after a move
abbrev pub after_move : BodyFrame → Context → Location → Operand → Option ContractId → Context
after_move b g (slot k) from contract = moved_to_slot b g k from contract
after_move b g (field f) from contract = moved_to_field b g f from

-- saying what a place holds: it is read, also `this` in a constructor, and held so
abbrev pub asserts_permission : BodyFrame → Context → Operand → Perm → List Premise
asserts_permission b g o w =
    reads_place b g (located o) o.span ++ one assert_fails o.span (matches (counted g (located o)) (permission_of w))

-- giving ownership up: the place is used, owns, and isn't under test
abbrev pub disowns_place : BodyFrame → TestedPlaces → Context → Operand → List Premise
disowns_place b ts g o =
    uses_place b g (read_of o) ++ one not_owning o.span (owns (counted g (located o)))
    ++ one under_test o.span (not (is_tested ts (located o)))

-- ending a slot: it owns no asset, and isn't under test
abbrev pub drops_slot : BodyFrame → TestedPlaces → Context → Span → ℕ → List Premise
drops_slot b ts g at k =
    one asset_lost at (not (owns_asset b g (slot k))) ++ one under_test at (not (is_tested ts (slot k)))
