use Rattle.ob_perm.proofs.MaskLemmas.{states_of-bit}
use Rattle.ob_perm.proofs.states.bit.Goals as goal

pub returns : goal.returns
returns c = states_of-bit c.args.number c.requires
