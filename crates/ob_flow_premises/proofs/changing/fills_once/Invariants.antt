use Rattle.std.proofs.Common.{◌≡◌, []}
use Rattle.ob_flow_spec.specs.Premises.{first_failing}
use Rattle.ob_flow_spec.specs.Changing.{fills_once}
use Rattle.ob_flow_premises.proofs.GivenLemmas.{once_from}
use Rattle.ob_flow_premises.proofs.changing.fills_once.Given as goal

abbrev pub invariant-loop-number : goal.invariant-loop-number
invariant-loop-number l = first_failing (fills_once l.frame [] l.given) ≡ first_failing (once_from l.frame l.given l.number)
