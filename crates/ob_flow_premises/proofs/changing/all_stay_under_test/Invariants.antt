use Rattle.std.proofs.Common.{◌≡◌, None}
use Rattle.ob_flow_spec.specs.Premises.{each, first_failing}
use Rattle.ob_flow_spec.specs.Changing.{stays_under_test}
use Rattle.ob_flow_context.specs.View.{tested_of}
use Rattle.ob_flow_premises.proofs.changing.all_stay_under_test.Given as goal

abbrev pub invariant-loop-number : goal.invariant-loop-number
invariant-loop-number l = first_failing (each l.number (stays_under_test l.frame (tested_of l.tested) l.at l.state l.given)) ≡ None
