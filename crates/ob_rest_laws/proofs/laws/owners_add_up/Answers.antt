use Rattle.ob_rest_laws.proofs.Counting.{owners_add_up}
use Rattle.ob_rest_laws.proofs.laws.owners_add_up.Goals as goal

pub returns : goal.returns
returns c = owners_add_up
