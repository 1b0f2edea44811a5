use Rattle.std.proofs.Common.{[], ◌∷◌, ◌++◌, map, ap, ◌∙◌}
use Rattle.std.proofs.lemmas.Result.{on_ok_weaker}
use Rattle.ob_exec_handles.specs.Spending.{item_of}
use Rattle.ob_exec_handles.proofs.spent.read_name.Goals as goal

pub returns : goal.returns
returns c =
    on_ok_weaker c.read_item.result (λ e. e ∙ ap (λ x. map item_of c.args.reads.now ++ x ∷ []) c.in_ok-item.ensures) c.read_item.ensures
