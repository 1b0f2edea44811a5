-- By each step.
use Rattle.ob_request_run_laws.proofs.Local.{runs_are_local, slices_are_local}
use Rattle.ob_request_run_laws.proofs.locality.runs_are_local.Goals as goal

pub returns : goal.returns
returns c = record { runs = runs_are_local; slices = slices_are_local }
