use Rattle.ob_generic_laws.proofs.Rounds.{one_list}
use Rattle.ob_generic_laws.proofs.one_list_of_instances.Goals as goal

pub returns : goal.returns
returns c = one_list
