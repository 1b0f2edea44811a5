use Rattle.std.proofs.Common.{ap, ◌∙◌}
use Rattle.ob_flow_context.specs.View.{context_of}
use Rattle.ob_flow_premises.proofs.JoinLemmas.{joined_is}
use Rattle.ob_flow_premises.proofs.joining.joined_context.Goals as goal

pub returns : goal.returns
returns c = ap context_of c.of.ensures
    ∙ joined_is c.args.a.now c.args.b.now c.in_ok-slots.slots c.in_ok-fields.fields c.in_ok-slots.ensures c.in_ok-fields.ensures
