use Rattle.ob_exec_handles.proofs.MarkingLemmas.{marked_now}
use Rattle.ob_exec_handles.proofs.marking.set_mark.Goals as goal

pub returns : goal.returns
returns c =
    marked_now c.edit.result c.args.mark c.args.base.now.objects c.args.overlay.now c.edit.new.self c.args.id.0 c.edit_of.result c.requires.within
    c.edit.ensures.objects c.edit_of.ensures c.requires.other
