use Rattle.std.proofs.Common.{ap, ◌∙◌}
use Rattle.ob_flow_context.specs.View.{context_of}
use Rattle.ob_flow_context.proofs.BeginningLemmas.{begins}
use Rattle.ob_flow_context.proofs.start.beginning.Goals as goal

pub returns : goal.returns
returns c = ap context_of c.of.ensures ∙ begins c.args.frame.now c.in_ok-slots.slots c.in_ok-fields.fields c.in_ok-slots.ensures c.in_ok-fields.ensures
