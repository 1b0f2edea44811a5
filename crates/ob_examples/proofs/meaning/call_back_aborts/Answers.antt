-- Each answer is computed.
use Rattle.std.proofs.Common.{refl}
use Rattle.ob_perm.specs.States.{states_max}
use Rattle.ob_perm.specs.Masks.{states_of}
use Rattle.ob_examples.proofs.meaning.call_back_aborts.Goals as goal

pub returns : goal.returns
unfolding states_max states_of
returns c = record {
  round = refl;
  direct = refl;
}
