use Rattle.ob_store_laws.proofs.Said.{differences_are_said}
use Rattle.ob_store_laws.proofs.laws.differences_are_said.Goals as goal

pub returns : goal.returns
returns c = differences_are_said
