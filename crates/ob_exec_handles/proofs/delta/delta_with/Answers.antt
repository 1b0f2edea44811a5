use Rattle.std.proofs.Common.{◌≤◌, map, sym, subst}
use Rattle.ob_base.specs.Limits.{most_objects}
use Rattle.ob_heap.specs.Contents.{named_of}
use Rattle.ob_exec_handles.proofs.DeltaLemmas.{delta_leads}
use Rattle.ob_exec_handles.proofs.MarkingLemmas.{still_as_many}
use Rattle.ob_exec_handles.proofs.delta.delta_with.Goals as goal

pub changed_objects-requires : goal.changed_objects-requires
changed_objects-requires c =
    subst (λ n. n ≤ most_objects)
    (sym (still_as_many c.args.base.now.objects c.args.overlay.now c.mark_puts.new.overlay (map named_of c.as_slice.result.now) c.in_ok-mark_puts.ensures))
    c.requires

pub returns : goal.returns
returns c = λ w is.
    delta_leads c.args.base.now c.args.overlay.now c.mark_puts.new.overlay c.args.puts.now c.as_slice.result.now c.as_slice-2.result.now
    c.in_ok-objects.objects c.in_ok-handles.handles w c.as_slice.ensures c.as_slice-2.ensures c.in_ok-mark_puts.ensures
    c.in_ok-objects.ensures c.in_ok-handles.ensures is
