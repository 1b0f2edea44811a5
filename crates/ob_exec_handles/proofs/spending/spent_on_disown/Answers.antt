use Rattle.std.proofs.lemmas.Result.{IfOk-weaker}
use Rattle.ob_invocation_spec.specs.Handles.{handle_name}
use Rattle.ob_exec_handles.proofs.SpendingLemmas.{disown_spends}
use Rattle.ob_exec_handles.proofs.spending.spent_on_disown.Goals as goal

pub returns : goal.returns
returns c =
    IfOk-weaker c.spent_on_handle.result _ _ (λ s h. disown_spends c.args.base.now (handle_name c.args.who.now c.args.on.now) s h) c.spent_on_handle.ensures
