use Rattle.ob_soundness_laws.proofs.Together.{none_is_wrong_by, none_is_wrong, all_meet_states}
use Rattle.ob_soundness_laws.proofs.no_request_goes_wrong.Goals as goal

pub returns-clause-by : goal.returns-clause-by
returns-clause-by c = none_is_wrong_by

pub returns-clause-requests : goal.returns-clause-requests
returns-clause-requests c = none_is_wrong

pub returns-clause-states : goal.returns-clause-states
returns-clause-states c = all_meet_states
