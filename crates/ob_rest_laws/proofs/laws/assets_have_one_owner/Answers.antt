use Rattle.ob_rest_laws.proofs.OneOwner.{one_owner}
use Rattle.ob_rest_laws.proofs.laws.assets_have_one_owner.Goals as goal

pub returns : goal.returns
returns c = one_owner
