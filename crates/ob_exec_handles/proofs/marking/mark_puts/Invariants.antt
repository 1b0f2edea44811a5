use Rattle.std.proofs.Common.{◌≡◌, drop, map}
use Rattle.ob_heap.specs.Contents.{named_of}
use Rattle.ob_heap.specs.Overlays.{objects_over}
use Rattle.ob_exec_handles.specs.Marking.{with_put_marks}
use Rattle.ob_exec_handles.proofs.marking.mark_puts.Given as goal

-- with the marks of the puts that are left, the objects have them all
abbrev pub invariant-loop-put : goal.invariant-loop-put
invariant-loop-put l =
    with_put_marks (objects_over l.base.objects l.overlay) (map named_of (drop l.put-index l.puts))
    ≡ with_put_marks (objects_over l.base.objects l.fn.overlay) (map named_of l.puts)
