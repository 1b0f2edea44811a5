use Rattle.ob_resolve.proofs.ResolvingLaws.{one_first_fault_lem}
use Rattle.ob_resolve.proofs.resolving.one_first_fault.Goals as goal

pub returns : goal.returns
returns c = one_first_fault_lem
