use Rattle.ob_upgrade_laws.proofs.Storing.{stores_at_rest}
use Rattle.ob_upgrade_laws.proofs.laws.upgraded_stores_are_at_rest.Goals as goal

pub returns : goal.returns
returns c = stores_at_rest
