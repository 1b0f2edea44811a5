use Rattle.std.proofs.Common.{ap, ◌∙◌}
use Rattle.ob_flow_context.specs.View.{context_of}
use Rattle.ob_flow_premises.proofs.JoinLemmas.{fields_are}
use Rattle.ob_flow_premises.proofs.calling.leave_fields.Goals as goal

pub returns : goal.returns
returns c = ap context_of c.of.ensures
    ∙ fields_are c.args.frame.now c.args.signature.now c.args.context.now c.in_ok-slots.slots c.in_ok-fields.fields
    c.in_ok-slots.ensures c.in_ok-fields.ensures
