-- By its checks, and by what its run has.
use Rattle.ob_request_run_laws.proofs.Changed.{requests_read_changes}
use Rattle.ob_request_run_laws.proofs.Differing.{answers_differ, requests_differ}
use Rattle.ob_request_run_laws.proofs.laws.requests_read_changes.Goals as goal

pub returns : goal.returns
returns c = record { read = requests_read_changes; differ = answers_differ; requests = requests_differ }
