use Rattle.ob_upgrade_laws.proofs.Mismatching.{namesakes_there}
use Rattle.ob_upgrade_laws.proofs.laws.namesakes_are_there.Goals as goal

pub returns : goal.returns
returns c = namesakes_there
