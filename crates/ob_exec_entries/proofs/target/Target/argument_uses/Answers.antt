use Rattle.std.proofs.Common.{◌≡◌, List, map, sym, ap, subst, ◌∙◌}
use Rattle.std.specs.Prelude.{option_map, IfOk}
use Rattle.ob_code.specs.declared.image.ParamCode.{ParamCode}
use Rattle.ob_heap.specs.Contents.{content_of}
use Rattle.ob_invocation_spec.specs.Entries.{Entry, HandleUse as Use, argument_uses}
use Rattle.ob_wire.specs.declared.request.Arg.{Arg}
use Rattle.ob_exec_entries.specs.Arguments.{uses_of}
use Rattle.ob_exec_entries.specs.Entering.{use_of}
use Rattle.ob_exec_entries.proofs.TargetLemmas.{uses_seen}
use Rattle.ob_exec_entries.proofs.target.Target.argument_uses.Goals as goal

pub returns : goal.returns
returns c =
    let t = c.self.inside in
    let content = content_of c.args.content.now in
    let same : uses_of content t.who.now c.as_slice.result.now c.as_slice-2.result.now
    ≡ argument_uses content (c.args.self.now) =
    ap (λ (ps : List ParamCode). uses_of content t.who.now ps c.as_slice-2.result.now) c.as_slice.ensures
    ∙ ap (λ (args : List Arg). uses_of content t.who.now t.body.now.params args) c.as_slice-2.ensures
    ∙ sym (uses_seen content t.who.now t.contract t.tx t.body.now (option_map (λ r. (r.0.now, r.1)) t.receiver) t.given t.args.now t.into.now)
    ∙ ap (argument_uses content) c.self.view_is in
    subst (λ (e : Entry). IfOk c.uses_of.result (λ uses. map (use_of e.who) uses ≡ argument_uses content c.args.self.now)) c.self.view_is
    (subst (λ (us : List Use). IfOk c.uses_of.result (λ uses. map (use_of t.who.now) uses ≡ us)) same c.uses_of.ensures)
