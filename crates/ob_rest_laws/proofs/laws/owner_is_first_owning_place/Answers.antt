use Rattle.ob_rest_laws.proofs.Owner.{owner_is_first}
use Rattle.ob_rest_laws.proofs.laws.owner_is_first_owning_place.Goals as goal

pub returns : goal.returns
returns c = owner_is_first
