use Rattle.ob_rest_laws.proofs.Ways.{each_way}
use Rattle.ob_rest_laws.proofs.laws.at_rest_is_asked_way_by_way.Goals as goal

pub returns : goal.returns
returns c = each_way
