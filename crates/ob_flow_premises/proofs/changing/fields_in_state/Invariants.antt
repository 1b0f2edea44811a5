use Rattle.std.proofs.Common.{◌≡◌}
use Rattle.ob_flow_context.specs.View.{context_of}
use Rattle.ob_flow_premises.specs.Changes.{fields_in_state}
use Rattle.ob_flow_premises.proofs.changing.fields_in_state.Given as goal

abbrev pub invariant-loop-number : goal.invariant-loop-number
invariant-loop-number l = context_of l.context ≡ fields_in_state l.frame l.state l.number (context_of l.fn.context)
