use Rattle.ob_perm.proofs.MaskLemmas.{states_of-or}
use Rattle.ob_perm.proofs.states.union.Goals as goal

pub returns : goal.returns
returns c = states_of-or c.args.a c.args.b
