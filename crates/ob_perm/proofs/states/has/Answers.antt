use Rattle.ob_perm.proofs.MaskLemmas.{states_of_bit}
use Rattle.ob_perm.proofs.states.has.Goals as goal

pub returns : goal.returns
returns c = states_of_bit c.args.states c.args.number
