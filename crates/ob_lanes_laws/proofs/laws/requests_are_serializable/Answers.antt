-- From the laws for any rules: the runs of requests are local, and each slice takes one nearer to its end.
use Rattle.ob_lanes_laws.proofs.Requests.{requests_are_serializable, request_batches_end}
use Rattle.ob_lanes_laws.proofs.laws.requests_are_serializable.Goals as goal

pub returns : goal.returns
returns g c = record { serializable = requests_are_serializable; end = request_batches_end }
