-- What holds where a test of state derives.
use Rattle.std.proofs.Common.{◌≡◌, ◌++◌, Option, Some, None, Ok, sym}
use Rattle.std.specs.Prelude.{not}
use Rattle.ob_base.specs.Faults.{test_unowned}
use Rattle.ob_perm.specs.Permissions.{Permission, owned, shared, unowned, owns, is_unowned}
use Rattle.ob_silica.specs.declared.place.Operand.{Operand}
use Rattle.ob_silica_places.specs.Places.{located}
use Rattle.ob_flow_spec.specs.Premises.{one}
use Rattle.ob_flow_spec.specs.Contexts.{BodyFrame, Context, now, permission_at, counted, TestedPlaces, is_tested}
use Rattle.ob_flow_spec.specs.Uses.{uses_place}
use Rattle.ob_flow_spec.specs.Binding.{read_of}
use Rattle.ob_flow_spec.specs.Testing.{tests_state, ends_test, first_branch_ended}
use Rattle.ob_flow_laws.specs.Premises.{Hold}
use Rattle.ob_flow_laws.specs.Testing.{CanTest, EndsTest, EndsFirstBranch}
use Rattle.ob_flow_laws.proofs.Tests.{isnt}
use Rattle.ob_flow_laws.proofs.Premises.{both_hold, checked_holds, ok_same}
use Rattle.ob_flow_laws.proofs.Uses.{can_use}

pub can_test : (b : BodyFrame) (ts : TestedPlaces) (g : Context) (o : Operand) → Hold (tests_state b ts g o)
    → CanTest b ts g o
can_test b ts g o h =
    let last = both_hold (uses_place b g (read_of o) ++ one test_unowned o.span
    (not (is_unowned (counted g (located o))))) _ h in
    let first = both_hold (uses_place b g (read_of o)) _ last.0 in
    record {
      usable = can_use b g (read_of o) first.0;
      has_say = isnt (is_unowned (counted g (located o))) first.1.0;
      untested = isnt (is_tested ts (located o)) last.1.0;
    }

pub test_ended : (o : Operand) (first left : Option Context) → ends_test o first ≡ Ok left → EndsTest o first left
test_ended o None left e = sym (ok_same None left e)
test_ended o (Some g) left e =
    let r = checked_holds (one _ o.span (owns (permission_at g (located o)))) (Some (now g (located o) shared)) left
    e in
    (r.0.0, sym r.1)

pub branch_ended : (w : Permission) (o : Operand) (first left : Option Context)
    → first_branch_ended w o first ≡ Ok left → EndsFirstBranch w o first left
branch_ended (owned a) o first left e = sym (ok_same first left e)
branch_ended shared o first left e = test_ended o first left e
branch_ended unowned o first left e = sym (ok_same first left e)
