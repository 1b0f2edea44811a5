use Rattle.std.proofs.Common.{ap, ◌∙◌}
use Rattle.ob_flow_context.proofs.BeginningLemmas.{slots_made}
use Rattle.ob_flow_context.proofs.start.slots_known.Goals as goal

pub returns : goal.returns
returns c = slots_made c.args.frame.now c.add_params.new.known c.push.new.self c.new-slots.result c.this_known.result
    c.as_slice.result.now c.new-slots.ensures c.in_ok-push.ensures.ok c.this_known.ensures
    (c.as_slice.ensures ∙ ap (λ s. s.params) c.signature.ensures) c.in_ok-add_params.ensures
