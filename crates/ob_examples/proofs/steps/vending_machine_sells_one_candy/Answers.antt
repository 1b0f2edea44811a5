-- The runs are computed.
use Rattle.std.proofs.Common.{refl}
use Rattle.ob_perm.specs.States.{states_max}
use Rattle.ob_perm.specs.Masks.{states_of}
use Rattle.ob_examples.proofs.steps.vending_machine_sells_one_candy.Goals as goal

pub returns : goal.returns
unfolding states_max states_of
returns c = record {
  enough = refl;
  too_few = refl;
}
