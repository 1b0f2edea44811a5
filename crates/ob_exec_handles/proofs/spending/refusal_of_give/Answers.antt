use Rattle.std.proofs.Common.{Some, None, sym, ap, ◌∙◌}
use Rattle.std.specs.Prelude.{option_map}
use Rattle.ob_invocation_spec.specs.Requests.{GiveRequest}
use Rattle.ob_wire.specs.Refusals.{refusal_told}
use Rattle.ob_exec_handles.proofs.SpendingLemmas.{give_why}
use Rattle.ob_exec_handles.proofs.spending.refusal_of_give.Goals as goal

pub returns-in-Some : goal.returns-in-Some
returns-in-Some c =
    let r : GiveRequest = record { on = c.args.on.now; to = c.args.to.now; into = c.args.into.now; mode = c.args.mode } in
    c.refusal.ensures c.args.on.now
    ∙ sym (ap (option_map refusal_told) (give_why c.args.base.now c.args.who.now r (Some c.in-Some.handle) (sym c.handle.ensures ∙ c.in-Some.is)))

pub returns-in-None : goal.returns-in-None
returns-in-None c =
    let r : GiveRequest = record { on = c.args.on.now; to = c.args.to.now; into = c.args.into.now; mode = c.args.mode } in
    sym (ap (option_map refusal_told) (give_why c.args.base.now c.args.who.now r None (sym c.handle.ensures ∙ c.in-None.is)))
