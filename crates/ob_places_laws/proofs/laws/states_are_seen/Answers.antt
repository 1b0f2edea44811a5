use Rattle.ob_places_laws.proofs.SeenStates.{seen_state_low, converted_allows_state, allowed_before}
use Rattle.ob_places_laws.proofs.laws.states_are_seen.Goals as goal

pub returns-clause-number : goal.returns-clause-number
returns-clause-number c = seen_state_low

pub returns-clause-allowed : goal.returns-clause-allowed
returns-clause-allowed c = converted_allows_state

pub returns-clause-before : goal.returns-clause-before
returns-clause-before c = allowed_before
