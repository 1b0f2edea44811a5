-- By what holds of the frames from step to step.
use Rattle.ob_code_laws.proofs.Keeping.{verified_code_keeps, verified_code_ends}
use Rattle.ob_code_laws.proofs.laws.verified_code_keeps_to_itself.Goals as goal

pub returns : goal.returns
returns c = record { runs = verified_code_keeps; ends = verified_code_ends }
