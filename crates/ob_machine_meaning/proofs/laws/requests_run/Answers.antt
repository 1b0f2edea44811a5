-- By whether there is a receiver.
use Rattle.ob_machine_meaning.proofs.Requests.{requests_run}
use Rattle.ob_machine_meaning.proofs.laws.requests_run.Goals as goal

pub returns : goal.returns
returns c = requests_run
