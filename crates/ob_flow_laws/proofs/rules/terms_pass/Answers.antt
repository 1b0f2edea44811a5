use Rattle.ob_flow_laws.proofs.Deriving.{passes_all}
use Rattle.ob_flow_laws.proofs.rules.terms_pass.Goals as goal

pub returns : goal.returns
returns c = passes_all
