-- Each answer is computed.
use Rattle.std.proofs.Common.{refl}
use Rattle.ob_perm.specs.States.{states_max}
use Rattle.ob_examples.proofs.source.small_programs.Goals as goal

pub returns : goal.returns
unfolding states_max
returns c = record {
  asset_behind_interface = refl;
  plain_owner = refl;
  no_return = refl;
  unknown_type = refl;
  two_of_a_name = refl;
  no_fault = refl;
  table = refl;
}
