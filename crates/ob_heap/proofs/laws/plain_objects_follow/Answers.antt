use Rattle.std.proofs.lemmas.List.{map-set}
use Rattle.ob_heap.specs.Plain.{object_of}
use Rattle.ob_heap.proofs.laws.plain_objects_follow.Goals as goal

pub returns-clause-set : goal.returns-clause-set
returns-clause-set c = λ xs n o. map-set object_of xs n o
