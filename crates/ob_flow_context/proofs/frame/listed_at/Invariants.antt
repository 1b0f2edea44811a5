use Rattle.std.proofs.Common.{◌≡◌, drop}
use Rattle.ob_flow_spec.specs.Contexts.{listed_at}
use Rattle.ob_flow_context.proofs.frame.listed_at.Given as goal

abbrev pub invariant-loop-one : goal.invariant-loop-one
invariant-loop-one l = listed_at l.listed l.field.0 ≡ listed_at (drop l.one-index l.listed) l.field.0
