use Rattle.ob_lower_formed.proofs.NamesStates.{lowered_terms_name_states_lem}
use Rattle.ob_lower_formed.proofs.lowered_terms_name_states.Goals as goal

pub returns : goal.returns
returns c = lowered_terms_name_states_lem
