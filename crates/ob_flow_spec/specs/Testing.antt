-- The rule of a test of state: what is known in its branches (Coblenz et al., TOPLAS 42(3), 2020, "Silica"; the test of a
-- shared object is this project's own).
use Rattle.std.specs.Prelude.{not, List, ◌∷◌, ◌++◌, Option, Some, None, Result, Ok}
use Rattle.ob_base.specs.Faults.{test_unowned, test_twice, under_test}
use Rattle.ob_base.specs.declared.fault.ProgramFault.{ProgramFault}
use Rattle.ob_base.specs.declared.id.StateId.{StateId}
use Rattle.ob_perm.specs.States.{only, within, without}
use Rattle.ob_perm.specs.Permissions.{Permission, owned, shared, unowned, owns, is_unowned}
use Rattle.ob_silica.specs.declared.place.Operand.{Operand}
use Rattle.ob_silica_places.specs.Places.{Location, this, located}
use Rattle.ob_flow_spec.specs.Premises.{Premise, one, checked}
use Rattle.ob_flow_spec.specs.Contexts.{BodyFrame, Context, now, permission_at, counted, TestedPlaces, is_tested}
use Rattle.ob_flow_spec.specs.Uses.{uses_place}
use Rattle.ob_flow_spec.specs.Binding.{read_of}

-- testing a place: it is used, it has a say, and it isn't under test already
abbrev pub tests_state : BodyFrame → TestedPlaces → Context → Operand → List Premise
tests_state b ts g o =
    uses_place b g (read_of o)
    ++ one test_unowned o.span (not (is_unowned (counted g (located o))))
    ++ one test_twice o.span (not (is_tested ts (located o)))

-- the context in which the first branch begins: an owner knows the state, and a place that shares owns in it for a while
abbrev pub in_tested_state : Permission → StateId → Location → Context → Context
in_tested_state (owned a) s p g = now g p (owned (within a s.0))
in_tested_state shared s p g = now g p (owned (only s.0))
in_tested_state unowned s p g = g

-- the context in which the second branch begins
abbrev pub in_other_state : Permission → StateId → Location → Context → Context
in_other_state (owned a) s p g = now g p (owned (without a s.0))
in_other_state shared s p g = g
in_other_state unowned s p g = g

-- the places under test in the first branch
abbrev pub tested_with : Permission → Location → TestedPlaces → TestedPlaces
tested_with (owned a) p ts = ts
tested_with shared p ts = p ∷ ts
tested_with unowned p ts = ts

-- where the first branch of a shared object's test ends, the place still owns and is Shared again
abbrev pub ends_test : Operand → Option Context → Result (Option Context) ProgramFault
ends_test o None = Ok None
ends_test o (Some g) =
    checked (one under_test o.span (owns (permission_at g (located o)))) (Some (now g (located o) shared))

-- what is left where the first branch ends
abbrev pub first_branch_ended : Permission → Operand → Option Context → Result (Option Context) ProgramFault
first_branch_ended (owned a) o left = Ok left
first_branch_ended shared o left = ends_test o left
first_branch_ended unowned o left = Ok left

-- the permission on `this` where a branch ends
abbrev pub this_left : Option Context → Permission
this_left None = unowned
this_left (Some g) = permission_at g this
