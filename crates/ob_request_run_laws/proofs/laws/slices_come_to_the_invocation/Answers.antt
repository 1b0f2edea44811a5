-- By each slice.
use Rattle.ob_request_run_laws.proofs.Whole.{slices_come_to}
use Rattle.ob_request_run_laws.proofs.Enough.{whole_slices_end}
use Rattle.ob_request_run_laws.proofs.laws.slices_come_to_the_invocation.Goals as goal

pub returns : goal.returns
returns c = record { comes = slices_come_to; ends = whole_slices_end }
