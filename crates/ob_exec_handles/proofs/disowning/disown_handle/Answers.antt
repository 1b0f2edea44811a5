use Rattle.ob_exec_handles.proofs.InvokingLemmas.{disowns}
use Rattle.ob_exec_handles.proofs.disowning.disown_handle.Goals as goal

pub returns : goal.returns
returns c = λ reads.
    disowns c.args.base.now (c.args.who.now, c.args.on.now) c.args.handle c.in_ok-objects.objects c.in_ok-handles.handles reads c.requires
    c.in_ok-objects.ensures c.in_ok-handles.ensures
