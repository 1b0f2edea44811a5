-- By the marks of what comes in, and then by each step.
use Rattle.ob_request_run_laws.proofs.Local.{entries_are_local, entry_slices_are_local}
use Rattle.ob_request_run_laws.proofs.locality.entries_are_local.Goals as goal

pub returns : goal.returns
returns c = record { runs = entries_are_local; slices = entry_slices_are_local }
