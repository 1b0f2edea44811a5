use Rattle.std.specs.Prelude.{Ok}
use Rattle.ob_heap.specs.Overlays.{no_object}
use Rattle.ob_heap.proofs.UnreadLemmas.{unread_itself}
use Rattle.ob_machine.proofs.UnreadLemmas.{begun_read}
use Rattle.ob_machine.proofs.machine.Machine.later_turn.Goals as goal

pub returns-in-None-clause-unread : goal.returns-in-None-clause-unread
returns-in-None-clause-unread c = λ known. unread_itself no_object c.args.overlay.now

pub returns-in_ok-progress-in-Some-clause-unread : goal.returns-in_ok-progress-in-Some-clause-unread
returns-in_ok-progress-in-Some-clause-unread c = λ known.
    begun_read {E = Unit {0}} (Ok c.in_ok-progress-in-Some.progress) c.args.self.now c.args.base.now.objects c.args.overlay.now c.act.new.overlay c.requires known
    c.in_ok-progress-in-Some.ensures.unread
