use Rattle.std.proofs.Common.{◌≡◌, None}
use Rattle.ob_flow_spec.specs.Premises.{each, first_failing}
use Rattle.ob_flow_spec.specs.Returning.{is_let_go}
use Rattle.ob_flow_context.specs.View.{context_of}
use Rattle.ob_flow_premises.proofs.returning.all_let_go.Given as goal

abbrev pub invariant-loop-slot : goal.invariant-loop-slot
invariant-loop-slot l = first_failing (each l.slot (is_let_go l.frame (context_of l.context) l.at)) ≡ None
