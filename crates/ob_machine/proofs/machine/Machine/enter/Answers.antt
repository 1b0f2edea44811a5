use Rattle.std.proofs.Common.{sym, subst}
use Rattle.std.proofs.lemmas.Result.{IfOk-weaker}
use Rattle.ob_heap_spec.specs.Worlds.{SameWorld}
use Rattle.ob_machine_steps.specs.Entries.{marked_world}
use Rattle.ob_machine_laws.specs.Laws.{HasToldFrames}
use Rattle.ob_machine.specs.Phases.{entry_of}
use Rattle.ob_machine.specs.Shown.{world_of}
use Rattle.ob_machine.specs.declared.run.Run.{Run}
use Rattle.ob_machine.proofs.MarkingLemmas.{entered, entered_first}
use Rattle.ob_machine.proofs.machine.Machine.enter.Goals as goal

pub returns-clause-marked : goal.returns-clause-marked
returns-clause-marked c = IfOk-weaker c.start.result _ _
    (λ m h. entered c.args.code.now m c.args.entry c.args.base.now.objects c.args.overlay.now c.mark.new.overlay c.args.fuel h
    (subst (λ i. (r : Run) → SameWorld (marked_world i (entry_of c.args.entry) (world_of r c.args.base.now.objects c.args.overlay.now)) (world_of r c.args.base.now.objects c.mark.new.overlay))
    c.image.ensures.image c.in_ok-mark.ensures.world)) c.start.ensures

pub returns-clause-started : goal.returns-clause-started
returns-clause-started c = λ none. IfOk-weaker c.start.result _ _
    (λ m h. entered_first c.args.code.now m c.args.entry c.args.base.now.objects c.args.overlay.now c.mark.new.overlay c.args.fuel
    (entered c.args.code.now m c.args.entry c.args.base.now.objects c.args.overlay.now c.mark.new.overlay c.args.fuel h
    (subst (λ i. (r : Run) → SameWorld (marked_world i (entry_of c.args.entry) (world_of r c.args.base.now.objects c.args.overlay.now)) (world_of r c.args.base.now.objects c.mark.new.overlay))
    c.image.ensures.image c.in_ok-mark.ensures.world)) none) c.start.ensures

pub returns-clause-unread : goal.returns-clause-unread
returns-clause-unread c = IfOk-weaker c.start.result _ _
    (λ m h. (c.in_ok-mark.ensures.unread, subst HasToldFrames (sym (h c.args.base.now.objects c.mark.new.overlay)) tt)) c.start.ensures
