use Rattle.std.proofs.Common.{◌≡◌, None}
use Rattle.ob_flow_spec.specs.Premises.{each, first_failing}
use Rattle.ob_flow_spec.specs.Changing.{has_value}
use Rattle.ob_flow_context.specs.View.{context_of}
use Rattle.ob_flow_premises.proofs.changing.all_have_values.Given as goal

abbrev pub invariant-loop-number : goal.invariant-loop-number
invariant-loop-number l = first_failing (each l.number (has_value l.frame (context_of l.context) l.at l.state l.given)) ≡ None
