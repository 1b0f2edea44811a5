use Rattle.std.proofs.Common.{◌≡◌, ℕ, List, map, drop}
use Rattle.std.specs.Prelude.{find}
use Rattle.ob_heap.specs.Contents.{content_of}
use Rattle.ob_invocation_spec.specs.Entering.{is_outside_use}
use Rattle.ob_code_table.specs.ImageTables.{table_of_image}
use Rattle.ob_exec_entries.specs.Entering.{use_of}
use Rattle.ob_exec.proofs.outside.find_outside.Given as goal

abbrev pub invariant-loop-used : goal.invariant-loop-used
invariant-loop-used l =
    (who : List ℕ) → find (is_outside_use (table_of_image l.code) (content_of l.content).objects) (map (use_of who) l.uses)
    ≡ find (is_outside_use (table_of_image l.code) (content_of l.content).objects) (map (use_of who) (drop l.used-index l.uses))
