-- Each answer is computed.
use Rattle.std.proofs.Common.{refl}
use Rattle.ob_perm.specs.States.{states_max}
use Rattle.ob_perm.specs.Masks.{states_of}
use Rattle.ob_examples.proofs.meaning.division_overflows.Goals as goal

pub returns : goal.returns
unfolding states_max states_of
returns c = record {
  least_by_minus_one = refl;
  by_zero = refl;
  quotient = refl;
  remainder = refl;
  least_remainder = refl;
  left_first = refl;
}
