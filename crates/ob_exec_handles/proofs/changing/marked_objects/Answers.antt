use Rattle.std.proofs.Common.{◌∙◌, sym, ap}
use Rattle.std.specs.Option.{option_copied}
use Rattle.std.proofs.lemmas.Result.{IfOk-weaker}
use Rattle.ob_exec_handles.proofs.ChangingLemmas.{mark_missing}
use Rattle.ob_exec_handles.proofs.changing.marked_objects.Goals as goal

pub returns-in-Some : goal.returns-in-Some
returns-in-Some c =
    IfOk-weaker c.marked_object.result _ _
    (λ changes leads. leads c.args.base.now.objects (sym c.object.ensures ∙ ap option_copied c.in-Some.is)) c.marked_object.ensures

pub returns-in-None : goal.returns-in-None
returns-in-None c =
    mark_missing c.args.mark c.args.id.0 c.args.base.now.objects c.new.result (sym c.object.ensures ∙ ap option_copied c.in-None.is) c.new.ensures
