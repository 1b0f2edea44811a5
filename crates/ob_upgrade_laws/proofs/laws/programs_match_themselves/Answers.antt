use Rattle.ob_upgrade_laws.proofs.Itself.{match_itself}
use Rattle.ob_upgrade_laws.proofs.laws.programs_match_themselves.Goals as goal

pub returns : goal.returns
returns c = match_itself
