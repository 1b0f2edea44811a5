use Rattle.std.proofs.Common.{◌++◌, ap, ◌∙◌}
use Rattle.std.proofs.lemmas.Result.{on_ok_weaker}
use Rattle.ob_invocation_spec.specs.Handles.{handle_name}
use Rattle.ob_exec_handles.specs.Spending.{name_reads}
use Rattle.ob_exec_handles.proofs.spending.read_give.Goals as goal

pub returns : goal.returns
returns c =
    on_ok_weaker c.read_new_name.result
    (λ e. e ∙ ap (λ m. m ++ name_reads (handle_name c.args.to.now c.args.into.now) c.args.why) c.in_ok-read_handle.ensures.reads)
    c.read_new_name.ensures
