use Rattle.ob_exec_handles.proofs.InvokingLemmas.{given_leads}
use Rattle.ob_exec_handles.proofs.giving.given.Goals as goal

pub returns : goal.returns
returns c =
    given_leads c.args.base.now c.args.mode c.args.object.0 c.args.puts.now c.as_slice.result.now c.in_ok-objects.objects c.in_ok-handles.handles
    c.as_slice.ensures c.in_ok-objects.ensures c.in_ok-handles.ensures
