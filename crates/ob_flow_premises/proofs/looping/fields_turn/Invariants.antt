use Rattle.std.proofs.Common.{◌≡◌, None}
use Rattle.ob_flow_spec.specs.Premises.{each, first_failing}
use Rattle.ob_flow_context.specs.View.{context_of}
use Rattle.ob_flow_premises.specs.Loops.{field_is_as_at_head}
use Rattle.ob_flow_premises.proofs.looping.fields_turn.Given as goal

abbrev pub invariant-loop-number : goal.invariant-loop-number
invariant-loop-number l = first_failing (each l.number (field_is_as_at_head l.frame (context_of l.head) (context_of l.context) l.end)) ≡ None
