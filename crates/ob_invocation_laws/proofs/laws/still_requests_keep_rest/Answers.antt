use Rattle.ob_invocation_laws.proofs.Still.{still_keeps}
use Rattle.ob_invocation_laws.proofs.laws.still_requests_keep_rest.Goals as goal

pub returns : goal.returns
returns c = still_keeps
