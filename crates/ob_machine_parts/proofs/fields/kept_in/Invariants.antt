use Rattle.std.proofs.Common.{◌≡◌, ◌≤◌, drop, length}
use Rattle.ob_heap.specs.Plain.{fields_of}
use Rattle.ob_machine_parts.specs.Changes.{kept_in}
use Rattle.ob_machine_parts.proofs.fields.kept_in.Given as goal

abbrev pub invariant-loop-place : goal.invariant-loop-place
invariant-loop-place l = record { within : l.place ≤ length l.fields; same : fields_of l.kept ≡ kept_in l.own l.state (fields_of (drop l.place l.fields)) }

abbrev pub decreases-loop-place : goal.decreases-loop-place
decreases-loop-place l = l.place
