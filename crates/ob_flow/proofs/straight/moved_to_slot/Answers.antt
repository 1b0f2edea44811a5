use Rattle.std.proofs.Common.{◌≡◌, subst}
use Rattle.std.specs.Prelude.{OnOk}
use Rattle.ob_flow_context.specs.View.{context_of}
use Rattle.ob_flow.proofs.FormsLemmas.{moved_is}
use Rattle.ob_flow.proofs.straight.moved_to_slot.Goals as goal

pub returns : goal.returns
returns c =
    subst (λ x. OnOk c.put.result (context_of c.put.new.self ≡ x))
    (moved_is c.args.frame.now (context_of c.args.context.now) (context_of c.set_permission.new.self) c.args.slot c.args.from
    c.args.contract c.kind.result c.moved_kind-kind.result c.counted-counted.result c.permission.result c.give-kept.result
    c.in_ok-permission.permission c.kind.ensures c.moved_kind-kind.ensures c.counted-counted.ensures c.permission.ensures
    c.give-kept.ensures.is c.in_ok-permission.ensures c.set_permission.ensures)
    c.put.ensures
