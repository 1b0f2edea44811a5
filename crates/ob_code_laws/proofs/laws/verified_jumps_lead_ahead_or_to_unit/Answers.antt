-- By what the verifier says of each jump.
use Rattle.ob_code_laws.proofs.Leading.{leads_ahead}
use Rattle.ob_code_laws.proofs.laws.verified_jumps_lead_ahead_or_to_unit.Goals as goal

pub returns : goal.returns
returns c = leads_ahead
