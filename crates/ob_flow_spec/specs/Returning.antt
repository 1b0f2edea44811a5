-- The rule of a return, at which the body must leave what its signature says (Coblenz et al., TOPLAS 42(3), 2020, "Silica";
-- the premises and their order are this project's own).
use Rattle.std.specs.Prelude.{ℕ, ◌+◌, not, ◌||◌, nat_eq, nat_le, List, [], ◌∷◌, ◌++◌, length, Option, Some, None, if◌then◌else◌}
use Rattle.ob_base.specs.Faults.{asset_lost, field_mismatch, unset, exit_mismatch, under_test}
use Rattle.ob_base.specs.declared.fault.Span.{Span}
use Rattle.ob_perm.specs.States.{stateless}
use Rattle.ob_perm.specs.Permissions.{Permission, owned, shared, unowned, owns, fits}
use Rattle.ob_perm.specs.Masks.{permission_of, perm_of}
use Rattle.ob_table.specs.declared.contract.ResolvedType.{ResolvedType}
use Rattle.ob_table.specs.declared.contract.Param.{Param}
use Rattle.ob_silica.specs.declared.place.Operand.{Operand}
use Rattle.ob_silica_places.specs.Parameters.{Parameter}
use Rattle.ob_silica_places.specs.Places.{Location, slot, field, this, located}
use Rattle.ob_flow_spec.specs.Premises.{Premise, one, each, for_all}
use Rattle.ob_flow_spec.specs.Contexts.{BodyFrame, constructs, field_count, exit_of_field, Context, with_permission, permission_at, is_set, is_held_as, owns_asset, possible_under, accessible, maybe_there, TestedPlaces, is_tested}
use Rattle.ob_flow_spec.specs.Uses.{uses_place, gives_place, given_to}
use Rattle.ob_flow_spec.specs.Binding.{read_of}

-- a result as a parameter that gives nothing back
abbrev pub result_parameter : ResolvedType → Parameter
result_parameter of = record { of = of; exit = perm_of unowned }

-- giving the value that is returned
abbrev pub returns_value : BodyFrame → TestedPlaces → Context → Option Operand → Option ResolvedType → List Premise
returns_value b ts g None result = []
returns_value b ts g (Some o) None = uses_place b g (read_of o)
returns_value b ts g (Some o) (Some of) = gives_place b ts g (read_of o) (result_parameter of)

-- the context once it was given
abbrev pub value_returned : Context → Option Operand → Option ResolvedType → Context
value_returned g None result = g
value_returned g (Some o) None = g
value_returned g (Some o) (Some of) = given_to g (located o) (result_parameter of)

-- a place under test still owns
abbrev pub still_owns : Context → Span → Location → List Premise
still_owns g at p = one under_test at (owns (permission_at g p))

-- the context in which each place under test is Shared again
abbrev pub tests_ended : TestedPlaces → Context → Context
tests_ended ts g = λ p. if is_tested ts p then with_permission shared (g p) else g p

-- a slot that is no parameter's owns no asset
abbrev pub is_let_go : BodyFrame → Context → Span → ℕ → List Premise
is_let_go b g at k =
    one asset_lost at (nat_le k (length b.signature.params) || not (owns_asset b g (slot k)))

-- a place is left with an exit: where it has no say it owns no asset, and else it is held as the exit says
abbrev pub leaves_as : BodyFrame → Context → Span → Location → Permission → List Premise
leaves_as b g at p (owned a) = one exit_mismatch at (is_held_as (g p) (owned a))
leaves_as b g at p shared = one exit_mismatch at (is_held_as (g p) shared)
leaves_as b g at p unowned = one asset_lost at (not (owns_asset b g p))

-- the parameters from this number on are left with their exits
abbrev pub leaves_params : BodyFrame → Context → Span → ℕ → List Param → List Premise
leaves_params b g at k [] = []
leaves_params b g at k (p ∷ ps) =
    leaves_as b g at (slot k) (permission_of p.exit) ++ leaves_params b g at (k + 1) ps

-- a constructor leaves an object that serves as what it gives, and that is in a state if there are any
abbrev pub gives_object : BodyFrame → Context → Span → List Premise
gives_object b g at =
    one exit_mismatch at (fits (permission_at g this) (permission_of b.signature.exit))
    ++ one exit_mismatch at
    (nat_eq (length b.own.states) 0 || not (possible_under b (permission_at g this) stateless))

-- `this` is left with its exit
abbrev pub leaves_this : BodyFrame → Context → Span → List Premise
leaves_this b g at =
    if constructs b then gives_object b g at
    else leaves_as b g at this (permission_of b.signature.exit)

-- a constructor has set each accessible field
abbrev pub sets_field : BodyFrame → Context → Span → ℕ → List Premise
sets_field b g at f = one unset at (not (constructs b) || (not (accessible b g f) || is_set (g (field f))))

-- a field that may be there is left as it is declared or listed
abbrev pub leaves_field : BodyFrame → Context → Span → ℕ → List Premise
leaves_field b g at f =
    one field_mismatch at (not (maybe_there b g f) || is_held_as (g (field f)) (exit_of_field b b.signature f))

-- what must hold once each place under test is Shared again
abbrev pub leaves_all : BodyFrame → Context → Span → List Premise
leaves_all b g at =
    each b.slots (is_let_go b g at)
    ++ leaves_params b g at 1 b.signature.params
    ++ leaves_this b g at
    ++ each (field_count b) (sets_field b g at)
    ++ each (field_count b) (leaves_field b g at)

-- Returning: the value is given; each place under test still owns and is then Shared; no local or temporary owns an asset;
-- the parameters and `this` are left with their exits; a constructor has set each field; and the fields are as declared.
abbrev pub returns_result : BodyFrame → TestedPlaces → Context → Span → Option Operand → List Premise
returns_result b ts g at value =
    returns_value b ts g value b.signature.result
    ++ for_all ts (still_owns (value_returned g value b.signature.result) at)
    ++ leaves_all b (tests_ended ts (value_returned g value b.signature.result)) at
