-- The runs are computed.
use Rattle.std.proofs.Common.{refl}
use Rattle.ob_perm.specs.States.{states_max}
use Rattle.ob_perm.specs.Masks.{states_of}
use Rattle.ob_examples.proofs.steps.lent_places_come_back.Goals as goal

pub returns : goal.returns
unfolding states_max states_of
returns c = record {
  lent = refl;
  back = refl;
}
