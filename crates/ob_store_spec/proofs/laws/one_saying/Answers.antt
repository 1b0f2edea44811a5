use Rattle.ob_store_spec.proofs.Leading.{one_saying}
use Rattle.ob_store_spec.proofs.laws.one_saying.Goals as goal

pub returns : goal.returns
returns c = one_saying
