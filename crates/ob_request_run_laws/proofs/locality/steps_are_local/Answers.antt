-- By each kind of instruction.
use Rattle.ob_request_run_laws.proofs.Local.{steps_are_local, steps_stay_good}
use Rattle.ob_request_run_laws.proofs.locality.steps_are_local.Goals as goal

pub returns : goal.returns
returns c = record { local = steps_are_local; good = steps_stay_good }
