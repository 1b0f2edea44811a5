use Rattle.std.proofs.Common.{map, take}
use Rattle.std.specs.Prelude.{not, filter}
use Rattle.ob_heap.specs.Contents.{content_of}
use Rattle.ob_store_laws.specs.Recorded.{handle_change}
use Rattle.ob_store_spec.specs.Payloads.{handle}
use Rattle.ob_store_spec.specs.Between.{is_held_so}
use Rattle.ob_store_payload.specs.Rows.{AreRows}
use Rattle.ob_store_payload.proofs.writing.changed_handles.Given as goal

-- the rows of the handles so far
abbrev pub invariant-loop-entry : goal.invariant-loop-entry
invariant-loop-entry l = AreRows handle.bytes (filter (λ h. not (is_held_so (content_of l.content) h)) (map handle_change (take l.entry-index l.handles))) l.rows
