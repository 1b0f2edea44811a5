-- Each answer is computed.
use Rattle.std.proofs.Common.{refl}
use Rattle.ob_perm.specs.States.{states_max}
use Rattle.ob_perm.specs.Masks.{states_of}
use Rattle.ob_examples.proofs.meaning.interface_calls_by_name.Goals as goal

pub returns : goal.returns
unfolding states_max states_of
returns c = refl
