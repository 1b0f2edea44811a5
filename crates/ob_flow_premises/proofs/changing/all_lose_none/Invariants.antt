use Rattle.std.proofs.Common.{◌≡◌, None}
use Rattle.ob_flow_spec.specs.Premises.{each, first_failing}
use Rattle.ob_flow_spec.specs.Changing.{loses_none}
use Rattle.ob_flow_context.specs.View.{context_of}
use Rattle.ob_flow_premises.proofs.changing.all_lose_none.Given as goal

abbrev pub invariant-loop-number : goal.invariant-loop-number
invariant-loop-number l = first_failing (each l.number (loses_none l.frame (context_of l.context) l.at l.state)) ≡ None
