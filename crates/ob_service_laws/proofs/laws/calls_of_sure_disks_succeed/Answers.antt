use Rattle.ob_service_laws.proofs.Sure.{sure_calls_succeed}
use Rattle.ob_service_laws.proofs.laws.calls_of_sure_disks_succeed.Goals as goal

pub returns : goal.returns
returns g c = sure_calls_succeed
