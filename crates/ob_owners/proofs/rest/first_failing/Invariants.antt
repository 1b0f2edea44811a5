use Rattle.std.proofs.Common.{◌≡◌, ◌-◌, length}
use Rattle.std.specs.Prelude.{find}
use Rattle.std.specs.List.{range_with_len}
use Rattle.ob_heap.specs.Contents.{content_of}
use Rattle.ob_code_table.specs.ImageTables.{table_of_image}
use Rattle.ob_rest_spec.specs.AtRest.{fails, first_failing_object}
use Rattle.ob_owners.proofs.rest.first_failing.Given as goal

-- none of the objects so far fails
abbrev pub invariant-loop-place : goal.invariant-loop-place
invariant-loop-place l =
    first_failing_object (table_of_image l.code) (content_of l.content)
    ≡ find (fails (table_of_image l.code) (content_of l.content)) (range_with_len l.place (length (content_of l.content).objects - l.place))
