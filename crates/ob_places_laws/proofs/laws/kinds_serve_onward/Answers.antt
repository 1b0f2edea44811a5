use Rattle.ob_places_laws.proofs.Conversions.{serves_onward}
use Rattle.ob_places_laws.proofs.laws.kinds_serve_onward.Goals as goal

pub returns : goal.returns
returns c = serves_onward
