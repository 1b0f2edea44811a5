use Rattle.std.proofs.Common.{◌∙◌, map, sym, ap}
use Rattle.ob_heap.specs.Contents.{content_of, named_of}
use Rattle.ob_heap.specs.Plain.{handle_of}
use Rattle.ob_invocation_spec.specs.Checks.{refusal_of}
use Rattle.ob_invocation_spec.specs.Requests.{GiveRequest}
use Rattle.ob_wire.specs.declared.reply.Answer.TheVariants as answer
use Rattle.ob_wire.specs.declared.reply.Outcome.TheVariants as outcome
use Rattle.ob_exec_handles.specs.Giving.{left_checks}
use Rattle.ob_exec_handles.proofs.InvokingLemmas.{gives_without, gives_refused, gives_done, gives, told_refusal, no_refusal, named_puts}
use Rattle.ob_exec_handles.proofs.giving.give.Goals as goal

pub returns-in_default : goal.returns-in_default
returns-in_default c =
    gives_without c.args.base.now c.args.who.now (record { on = c.args.on.now; to = c.args.to.now; into = c.args.into.now; mode = c.args.mode })
    c.refused.result.answer c.refused.result.delta (sym c.handle.ensures ∙ c.in_default.is) c.refused.ensures.told (c.refused.ensures.same c.args.base.now)

pub returns-in-Some-refusal : goal.returns-in-Some-refusal
returns-in-Some-refusal c =
    let r : GiveRequest = record { on = c.args.on.now; to = c.args.to.now; into = c.args.into.now; mode = c.args.mode } in
    let why = told_refusal (refusal_of (left_checks (content_of c.args.base.now) (handle_of c.in-Some.handle) r)) c.in-Some-refusal.refusal
    (sym (c.refusal.ensures c.args.on.now) ∙ c.in-Some-refusal.is) in
    gives_refused c.args.base.now c.args.who.now r c.in-Some.handle c.refused-in-Some-refusal.result.answer c.refused-in-Some-refusal.result.delta why.0
    (sym c.handle.ensures ∙ c.in-Some.is) why.1 (c.refused-in-Some-refusal.ensures.told ∙ ap answer.Refused (sym why.2))
    (c.refused-in-Some-refusal.ensures.same c.args.base.now)

pub returns : goal.returns
returns c =
    let r : GiveRequest = record { on = c.args.on.now; to = c.args.to.now; into = c.args.into.now; mode = c.args.mode } in
    gives_done c.args.base.now c.args.who.now r c.in-Some.handle (answer.Ok outcome.Nothing) c.in_ok-delta.delta (sym c.handle.ensures ∙ c.in-Some.is)
    (no_refusal (refusal_of (left_checks (content_of c.args.base.now) (handle_of c.in-Some.handle) r))
    (sym c.in_default-refusal.is ∙ c.refusal.ensures c.args.on.now))
    (λ reads. gives c.args.base.now c.args.who.now r c.in-Some.handle c.in_ok-delta.delta (map named_of c.in_ok-puts.puts) reads
    (named_puts c.args.who.now r (handle_of c.in-Some.handle) c.in_ok-left.left c.in_ok-puts.puts c.in_ok-put.put c.in_ok-puts.ensures c.in_ok-left.ensures
    c.in_ok-put.ensures)
    c.in_ok-delta.ensures)
