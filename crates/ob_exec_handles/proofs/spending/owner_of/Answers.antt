use Rattle.std.proofs.Common.{Option, sym, ap, ◌∙◌}
use Rattle.std.proofs.lemmas.Result.{IfOk-weaker}
use Rattle.std.specs.Option.{option_and_then}
use Rattle.ob_heap.specs.declared.object.Handle.{Handle}
use Rattle.ob_exec_handles.proofs.spending.owner_of.Goals as goal

pub returns-in-Some : goal.returns-in-Some
returns-in-Some g c =
    IfOk-weaker c.find.result _ _
    (λ spot e. e
    ∙ sym (ap (λ (r : Option Handle). option_and_then (λ (h : Handle). g.I.Index.owner c.args.index.now h.object.0) r) (sym c.handle.ensures ∙ c.in-Some.is)))
    c.find.ensures

pub returns-in-None : goal.returns-in-None
returns-in-None g c =
    sym (ap (λ (r : Option Handle). option_and_then (λ (h : Handle). g.I.Index.owner c.args.index.now h.object.0) r) (sym c.handle.ensures ∙ c.in-None.is))
