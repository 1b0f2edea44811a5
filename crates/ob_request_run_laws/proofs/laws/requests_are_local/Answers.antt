-- By each kind of request, and then by each slice.
use Rattle.ob_request_run_laws.proofs.Requests.{requests_are_local}
use Rattle.ob_request_run_laws.proofs.laws.requests_are_local.Goals as goal

pub returns : goal.returns
returns c = requests_are_local
