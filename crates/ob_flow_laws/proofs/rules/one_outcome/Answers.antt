use Rattle.ob_flow_laws.proofs.Outcomes.{one_outcome}
use Rattle.ob_flow_laws.proofs.rules.one_outcome.Goals as goal

pub returns : goal.returns
returns c = one_outcome
