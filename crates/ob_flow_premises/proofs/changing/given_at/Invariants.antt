use Rattle.std.proofs.Common.{◌≡◌, drop}
use Rattle.ob_flow_spec.specs.Changing.{given_at}
use Rattle.ob_flow_premises.proofs.changing.given_at.Given as goal

abbrev pub invariant-loop-one : goal.invariant-loop-one
invariant-loop-one l = given_at l.field.0 l.given ≡ given_at l.field.0 (drop l.one-index l.given)
