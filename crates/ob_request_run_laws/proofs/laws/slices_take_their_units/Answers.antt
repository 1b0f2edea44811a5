-- By each step, and then by each slice.
use Rattle.ob_request_run_laws.proofs.Taken.{slices_take, paused_took}
use Rattle.ob_request_run_laws.proofs.laws.slices_take_their_units.Goals as goal

pub returns : goal.returns
returns c = record { slice = slices_take; all = paused_took }
