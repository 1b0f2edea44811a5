use Rattle.std.proofs.Common.{◌≡◌, ◌++◌}
use Rattle.ob_heap.specs.Differences.{other_objects, AreOthers}
use Rattle.ob_heap.proofs.changed.add_others.Given as goal

abbrev pub invariant-loop-id : goal.invariant-loop-id
invariant-loop-id l = (l.found ++ other_objects l.base l.id-iterator ≡ l.initial.found ++ other_objects l.base l.map.entries)
    × (AreOthers l.base l.initial.found → AreOthers l.base l.found)
