use Rattle.ob_exec_handles.proofs.PartsLemmas.{differing_lead}
use Rattle.ob_exec_handles.proofs.changing.changed_objects.Goals as goal

pub returns : goal.returns
returns c =
    differing_lead c.args.base.now.objects c.args.overlay.now c.in_ok-delta.delta.objects c.in_ok-delta.ensures.objects
    c.in_ok-delta.ensures.applied c.in_ok-delta.ensures.order c.in_ok-delta.ensures.others
