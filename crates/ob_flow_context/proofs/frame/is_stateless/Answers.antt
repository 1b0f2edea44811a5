use Rattle.ob_perm.proofs.MaskLemmas.{states_of_bit}
use Rattle.ob_flow_context.proofs.frame.is_stateless.Goals as goal

pub returns : goal.returns
returns c = states_of_bit c.args.states 32
