-- By computing.
use Rattle.std.proofs.Common.{refl}
use Rattle.ob_perm.specs.Masks as masks
use Rattle.ob_machine_laws.proofs.examples.runs_worked_out.Goals as goal

pub returns : goal.returns
unfolding masks.states_of
returns c = record {
  add_gives = refl;
  add_overflows = refl;
  add_without_fuel = refl;
  new_gives = refl;
  round_aborts = refl;
  slice_waits = refl;
}
