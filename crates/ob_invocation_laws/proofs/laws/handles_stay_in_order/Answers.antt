use Rattle.ob_invocation_laws.proofs.Handles.{puts_keep, without_keeps}
use Rattle.ob_invocation_laws.proofs.laws.handles_stay_in_order.Goals as goal

pub returns : goal.returns
returns c = record { put = puts_keep; gone = without_keeps }
