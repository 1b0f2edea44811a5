use Rattle.std.proofs.Common.{◌∙◌, sym}
use Rattle.std.proofs.lemmas.Result.{IfOk-weaker}
use Rattle.ob_exec_handles.proofs.InvokingLemmas.{given_shared, given_other}
use Rattle.ob_exec_handles.proofs.giving.given_objects.Goals as goal

pub returns-then-is_shared : goal.returns-then-is_shared
returns-then-is_shared c =
    IfOk-weaker c.marked_objects.result _ _
    (λ changes leads. given_shared c.args.base.now.objects c.args.object.0 c.args.mode changes (sym c.is_shared.ensures ∙ c.if-is_shared.true) leads)
    c.marked_objects.ensures

pub returns : goal.returns
returns c = given_other c.args.base.now.objects c.args.object.0 c.args.mode c.new.result (sym c.is_shared.ensures ∙ c.if-is_shared.false) c.new.ensures
