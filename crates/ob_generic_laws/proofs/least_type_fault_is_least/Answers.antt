use Rattle.ob_generic_laws.proofs.Least.{least_is}
use Rattle.ob_generic_laws.proofs.least_type_fault_is_least.Goals as goal

pub returns : goal.returns
returns c = least_is
