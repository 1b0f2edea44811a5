use Rattle.std.proofs.Common.{◌∙◌, sym, ap}
use Rattle.ob_heap.specs.Plain.{object_of}
use Rattle.ob_exec_handles.specs.Marking.{marked}
use Rattle.ob_exec_handles.proofs.ChangingLemmas.{mark_kept, mark_set}
use Rattle.ob_exec_handles.proofs.changing.marked_object.Goals as goal

pub returns-then-has_mark : goal.returns-then-has_mark
returns-then-has_mark c = λ base at.
    mark_kept c.args.mark c.args.id.0 base c.args.object.now c.new.result at (sym c.has_mark.ensures ∙ c.if-has_mark.true) c.new.ensures

pub returns : goal.returns
returns c = λ base at.
    mark_set c.args.mark c.args.id base c.args.object.now c.marked.result c.in_ok-objects.objects at (sym c.has_mark.ensures ∙ c.if-has_mark.false)
    (c.marked.ensures ∙ ap (λ o. marked c.args.mark (object_of o)) c.in_ok-copy.ensures) c.in_ok-objects.ensures
