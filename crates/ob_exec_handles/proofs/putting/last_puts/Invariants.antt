use Rattle.std.proofs.Common.{◌≡◌, [], drop}
use Rattle.ob_heap.specs.Contents.{IsInOrder}
use Rattle.ob_heap.specs.Deltas.{with_handles}
use Rattle.ob_exec_handles.specs.Putting.{changes_by}
use Rattle.ob_exec_handles.proofs.putting.last_puts.Given as goal

-- with the puts that are left, these are them all
abbrev pub invariant-loop-put : goal.invariant-loop-put
invariant-loop-put l = record {
  puts : with_handles l.last.items (changes_by (drop l.put-index l.puts)) ≡ with_handles [] (changes_by l.puts);
  order : IsInOrder l.last.items;
}
