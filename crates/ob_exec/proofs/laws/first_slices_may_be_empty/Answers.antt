-- A run that takes its first unit first waits for it, where it began.
use Rattle.ob_exec.proofs.FirstLemmas.{first_may_be_empty}
use Rattle.ob_exec.proofs.laws.first_slices_may_be_empty.Goals as goal

pub returns : goal.returns
returns c = first_may_be_empty
