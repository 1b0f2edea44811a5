use Rattle.ob_machine.specs.Phases.{phase_of}
use Rattle.ob_machine.proofs.UnreadLemmas.{step_leaves}
use Rattle.ob_machine.proofs.machine.Machine.try_step.Goals as goal

pub returns-in-Ok-clause-unread : goal.returns-in-Ok-clause-unread
returns-in-Ok-clause-unread c = λ known.
    let base = c.args.base.now.objects in
    step_leaves c.image.result.now (phase_of c.args.self.now base c.args.overlay.now) c.advance.result c.in-Ok.progress c.advance.new.self base c.args.overlay.now
    c.advance.new.overlay known c.advance.ensures.told c.advance.ensures.begun (c.advance.ensures.unread known) c.in-Ok.is
