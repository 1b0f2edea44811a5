use Rattle.ob_invocation_laws.proofs.Leaving.{leaves}
use Rattle.ob_invocation_laws.proofs.laws.only_done_requests_change_the_store.Goals as goal

pub returns : goal.returns
returns c = leaves
