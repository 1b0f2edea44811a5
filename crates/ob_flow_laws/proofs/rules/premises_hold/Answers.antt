use Rattle.ob_flow_laws.proofs.Premises.{none_fails, all_hold}
use Rattle.ob_flow_laws.proofs.rules.premises_hold.Goals as goal

pub returns : goal.returns
returns c = λ ps. (all_hold ps, none_fails ps)
