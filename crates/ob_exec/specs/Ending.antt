-- How the code tells of the end of a run (this project's own).
use Rattle.std.specs.Prelude.{◌≡◌, List, Option, option_map, ⊤}
use Rattle.ob_heap_spec.specs.Values.{Value}
use Rattle.ob_heap_spec.specs.Worlds.{RunOutcome, gives, aborts, wrong}
use Rattle.ob_heap.specs.declared.object.Object.{Object}
use Rattle.ob_heap.specs.Overlays.{Changes, objects_over}
use Rattle.ob_heap.specs.Plain.{value_of}
use Rattle.ob_machine.specs.Shown.{cause_of}
use Rattle.ob_machine.specs.declared.progress.Progress.{Progress}
use Rattle.ob_machine.specs.declared.progress.Progress.TheVariants.{Finished, Aborted}

-- a run doesn't go wrong
abbrev pub IsRight : RunOutcome (Option Value) → Type 0
IsRight (gives result w) = ⊤
IsRight (aborts cause s) = ⊤
IsRight wrong = ⊥

-- A run ends so: it gives this result, and the objects after it are those of a base with the changes laid over them; or it aborts by
-- this cause. What it has read isn't told.
abbrev pub EndsSo : RunOutcome (Option Value) → Progress → List Object → Changes → Type 0
EndsSo (gives result w) (Finished given) base o = (result ≡ option_map value_of given) × (w.objects ≡ objects_over base o)
EndsSo (aborts cause s) (Aborted told) base o = cause ≡ cause_of told
EndsSo outcome progress base o = ⊥
