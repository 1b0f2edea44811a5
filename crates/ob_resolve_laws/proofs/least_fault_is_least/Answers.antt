-- By the order of the list of faults.
use Rattle.ob_resolve_laws.proofs.LeastFacts.{least_fault_is}
use Rattle.ob_resolve_laws.proofs.least_fault_is_least.Goals as goal

pub returns : goal.returns
returns c = least_fault_is
