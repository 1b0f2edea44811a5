use Rattle.std.proofs.lemmas.Result.{on_ok_weaker}
use Rattle.ob_machine.specs.Shown.{world_of}
use Rattle.ob_machine.proofs.MarkingLemmas.{reference_in}
use Rattle.ob_heap.specs.Overlays.{no_object}
use Rattle.ob_heap.proofs.UnreadLemmas.{unread_itself}
use Rattle.ob_machine.proofs.marking.arg_comes_in.Goals as goal

pub returns-in-Reference-Object-clause-world : goal.returns-in-Reference-Object-clause-world
returns-in-Reference-Object-clause-world c = on_ok_weaker c.come_in.result
    (λ h m. reference_in c.args.param.now c.args.arg.now c.in-Reference-Object.field-0-0 c.in-Reference-Object.entry c.in-Reference-Object.field-2-0 c.in-Reference-Object.id
    (world_of m c.args.base.now.objects c.args.overlay.now) (world_of m c.args.base.now.objects c.come_in.new.overlay)
    c.in-Reference-Object.is-0 c.in-Reference-Object.is-1 (h c.in-Reference-Object.field-0-0 m)) c.come_in.ensures.world

pub returns-in_default-clause-unread : goal.returns-in_default-clause-unread
returns-in_default-clause-unread c = unread_itself no_object c.args.overlay.now
