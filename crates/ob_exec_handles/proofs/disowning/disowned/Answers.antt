use Rattle.std.proofs.Common.{◌∙◌, sym}
use Rattle.std.proofs.lemmas.Result.{IfOk-weaker}
use Rattle.ob_exec_handles.proofs.InvokingLemmas.{disowned_owned, disowned_other}
use Rattle.ob_exec_handles.proofs.disowning.disowned.Goals as goal

pub returns-then-is_owned : goal.returns-then-is_owned
returns-then-is_owned c =
    IfOk-weaker c.marked_objects.result _ _
    (λ changes leads. disowned_owned c.args.base.now c.args.handle changes (sym c.is_owned.ensures ∙ c.if-is_owned.true) leads)
    c.marked_objects.ensures

pub returns : goal.returns
returns c = disowned_other c.args.base.now c.args.handle c.new.result (sym c.is_owned.ensures ∙ c.if-is_owned.false) c.new.ensures
