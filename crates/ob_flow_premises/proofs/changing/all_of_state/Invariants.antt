use Rattle.std.proofs.Common.{◌≡◌, drop}
use Rattle.ob_flow_spec.specs.Premises.{for_all, first_failing}
use Rattle.ob_flow_spec.specs.Changing.{is_of_state}
use Rattle.ob_flow_premises.proofs.changing.all_of_state.Given as goal

abbrev pub invariant-loop-one : goal.invariant-loop-one
invariant-loop-one l = first_failing (for_all l.given (is_of_state l.frame l.state)) ≡ first_failing (for_all (drop l.one-index l.given) (is_of_state l.frame l.state))
