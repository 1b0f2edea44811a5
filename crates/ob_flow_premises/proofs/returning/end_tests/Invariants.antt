use Rattle.std.proofs.Common.{◌≡◌, take}
use Rattle.ob_flow_spec.specs.Returning.{tests_ended}
use Rattle.ob_flow_context.specs.View.{context_of, tested_of}
use Rattle.ob_flow_premises.proofs.returning.end_tests.Given as goal

abbrev pub invariant-loop-place : goal.invariant-loop-place
invariant-loop-place l = context_of l.context ≡ tests_ended (tested_of (take l.place-index l.tested)) (context_of l.fn.context)
