use Rattle.ob_heap.proofs.DifferencesLemmas.{object_Decides}
use Rattle.ob_heap.proofs.laws.same_objects_are_equal.Goals as goal

pub returns : goal.returns
returns c = object_Decides
