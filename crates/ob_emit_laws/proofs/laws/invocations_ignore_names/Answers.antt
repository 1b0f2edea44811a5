-- Request by request.
use Rattle.ob_emit_laws.proofs.Invoking.{invocations_ignore_names}
use Rattle.ob_emit_laws.proofs.laws.invocations_ignore_names.Goals as goal

pub returns : goal.returns
returns c = invocations_ignore_names
