-- By the measure of the run, which a body with instructions bounds.
use Rattle.ob_service_laws.proofs.Bounds.{entered_runs_end}
use Rattle.ob_service_laws.proofs.laws.entered_runs_end.Goals as goal

pub returns : goal.returns
returns c = entered_runs_end
