-- By computing.
use Rattle.std.proofs.Common.{refl}
use Rattle.ob_perm.specs.Masks as masks
use Rattle.ob_machine_laws.proofs.examples.steps_worked_out.Goals as goal

pub returns : goal.returns
unfolding masks.states_of
returns c = record {
  test_locks = refl;
  test_fails = refl;
  test_aborts = refl;
  test_of_this = refl;
  test_of_this_aborts = refl;
  test_ends = refl;
  change_keeps = refl;
  change_aborts = refl;
  no_field = refl;
  no_value = refl;
  call_aborts = refl;
  call_without_fuel = refl;
}
