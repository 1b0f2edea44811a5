use Rattle.ob_generic_laws.proofs.Rounds.{instances_found}
use Rattle.ob_generic_laws.proofs.instances_are_found.Goals as goal

pub returns : goal.returns
returns c = instances_found
