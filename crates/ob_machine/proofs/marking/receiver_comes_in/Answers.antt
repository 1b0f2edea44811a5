use Rattle.std.proofs.lemmas.Result.{on_ok_weaker}
use Rattle.ob_machine.specs.Shown.{world_of}
use Rattle.ob_machine.proofs.MarkingLemmas.{receiver_in}
use Rattle.ob_heap.specs.Overlays.{no_object}
use Rattle.ob_heap.proofs.UnreadLemmas.{unread_itself}
use Rattle.ob_machine.proofs.marking.receiver_comes_in.Goals as goal

pub returns-in-Some-clause-world : goal.returns-in-Some-clause-world
returns-in-Some-clause-world c = on_ok_weaker c.come_in.result
    (λ h of m. receiver_in of c.args.body.now c.args.receiver c.in-Some.id (world_of m c.args.base.now.objects c.args.overlay.now)
    (world_of m c.args.base.now.objects c.come_in.new.overlay) c.in-Some.is (h of m)) c.come_in.ensures.world

pub returns-in-None-clause-unread : goal.returns-in-None-clause-unread
returns-in-None-clause-unread c = unread_itself no_object c.args.overlay.now
