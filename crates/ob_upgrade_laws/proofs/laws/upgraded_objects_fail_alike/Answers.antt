use Rattle.ob_upgrade_laws.proofs.Storing.{objects_alike}
use Rattle.ob_upgrade_laws.proofs.laws.upgraded_objects_fail_alike.Goals as goal

pub returns : goal.returns
returns c = objects_alike
