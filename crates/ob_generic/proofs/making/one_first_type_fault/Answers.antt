use Rattle.ob_generic.proofs.MakingLaws.{one_first}
use Rattle.ob_generic.proofs.making.one_first_type_fault.Goals as goal

pub returns : goal.returns
returns c = one_first
