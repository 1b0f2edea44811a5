-- By what is neither made nor read.
use Rattle.ob_request_run_laws.proofs.Local.{changes_are_read}
use Rattle.ob_request_run_laws.proofs.locality.changes_are_read.Goals as goal

pub returns : goal.returns
returns c = changes_are_read
