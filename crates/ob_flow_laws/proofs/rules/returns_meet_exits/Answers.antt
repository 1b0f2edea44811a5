use Rattle.ob_flow_laws.proofs.Returning.{at_exits}
use Rattle.ob_flow_laws.proofs.rules.returns_meet_exits.Goals as goal

pub returns : goal.returns
returns c = at_exits
