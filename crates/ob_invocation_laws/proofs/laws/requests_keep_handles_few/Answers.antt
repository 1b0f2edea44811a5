use Rattle.ob_invocation_laws.proofs.Keeping.{handles_kept}
use Rattle.ob_invocation_laws.proofs.laws.requests_keep_handles_few.Goals as goal

pub returns : goal.returns
returns c = handles_kept
