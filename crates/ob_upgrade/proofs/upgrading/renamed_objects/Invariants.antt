use Rattle.std.proofs.Common.{◌≡◌, ◌++◌, map, drop}
use Rattle.ob_heap.specs.Differences.{numbered_from}
use Rattle.ob_upgrade.specs.Renaming.{renamed_object}
use Rattle.ob_upgrade.proofs.upgrading.renamed_objects.Given as goal

abbrev pub invariant-loop-place : goal.invariant-loop-place
invariant-loop-place l = l.renamed ++ numbered_from l.place (map (renamed_object l.ids) (drop l.place l.objects)) ≡ numbered_from 0 (map (renamed_object l.ids) l.objects)
