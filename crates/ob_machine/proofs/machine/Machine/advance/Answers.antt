use Rattle.ob_machine.proofs.UnreadLemmas.{begun_read}
use Rattle.ob_machine.proofs.machine.Machine.advance.Goals as goal

pub returns-in_ok-progress-in-Some-clause-unread : goal.returns-in_ok-progress-in-Some-clause-unread
returns-in_ok-progress-in-Some-clause-unread c = λ known. c.in_ok-progress-in-Some.ensures.unread

pub returns-in-None-clause-unread : goal.returns-in-None-clause-unread
returns-in-None-clause-unread c = λ known.
    begun_read c.tried.result c.args.self.now c.args.base.now.objects c.args.overlay.now c.tried.new.overlay c.in-None.is known c.tried.ensures.unread
