use Rattle.ob_flow_laws.proofs.Deriving.{passes}
use Rattle.ob_flow_laws.proofs.rules.forms_pass.Goals as goal

pub returns : goal.returns
returns c = passes
