use Rattle.ob_flow_laws.proofs.Outcomes.{in_turn}
use Rattle.ob_flow_laws.proofs.rules.terms_in_turn.Goals as goal

pub returns : goal.returns
returns c = in_turn
