-- By the same request on the same store, in which the object has the mark of a disowned one.
use Rattle.ob_lanes_laws.proofs.Unowned.{unowned_stay_so}
use Rattle.ob_lanes_laws.proofs.laws.objects_stay_unowned.Goals as goal

pub returns : goal.returns
returns c = unowned_stay_so
