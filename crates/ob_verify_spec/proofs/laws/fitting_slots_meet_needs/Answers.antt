use Rattle.ob_verify_spec.proofs.Fitting.{meet_too}
use Rattle.ob_verify_spec.proofs.laws.fitting_slots_meet_needs.Goals as goal

pub returns : goal.returns
returns c = meet_too
