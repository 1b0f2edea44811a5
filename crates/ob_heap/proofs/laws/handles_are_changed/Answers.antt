use Rattle.ob_heap.proofs.LookLemmas.{look_changes}
use Rattle.ob_heap.proofs.laws.handles_are_changed.Goals as goal

pub returns : goal.returns
returns c = look_changes
