use Rattle.std.proofs.Common.{◌∙◌, sym}
use Rattle.std.proofs.lemmas.Result.{IfOk-weaker}
use Rattle.ob_heap.specs.Contents.{content_of}
use Rattle.ob_invocation_spec.specs.Handles.{handle_name}
use Rattle.ob_invocation_spec.specs.Invocation.{disown_handle}
use Rattle.ob_exec_handles.proofs.InvokingLemmas.{comes_with, comes_without}
use Rattle.ob_exec_handles.proofs.disowning.disown.Goals as goal

pub returns-in-Some : goal.returns-in-Some
returns-in-Some c =
    let base = c.args.base.now in
    let name = handle_name c.args.who.now c.args.on.now in
    IfOk-weaker c.disown_handle.result _ _
    (λ a comes. comes_with base name (disown_handle (content_of base) name) c.in-Some.handle a.answer a.delta (sym c.handle.ensures ∙ c.in-Some.is) comes)
    c.disown_handle.ensures

pub returns-in-None : goal.returns-in-None
returns-in-None c =
    let base = c.args.base.now in
    let name = handle_name c.args.who.now c.args.on.now in
    comes_without base name (disown_handle (content_of base) name) c.refused.result.answer c.refused.result.delta (sym c.handle.ensures ∙ c.in-None.is)
    c.refused.ensures.told (c.refused.ensures.same base)
