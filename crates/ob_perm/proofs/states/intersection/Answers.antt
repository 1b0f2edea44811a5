use Rattle.ob_perm.proofs.MaskLemmas.{states_of-and}
use Rattle.ob_perm.proofs.states.intersection.Goals as goal

pub returns : goal.returns
returns c = states_of-and c.args.a c.args.b
