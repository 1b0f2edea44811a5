use Rattle.std.proofs.Common.{◌≡◌, length}
use Rattle.ob_flow_spec.specs.Contexts.{field_known}
use Rattle.ob_flow_context.specs.View.{known_at}
use Rattle.ob_flow_context.proofs.BeginningLemmas.{first}
use Rattle.ob_flow_context.proofs.start.fields_known.Given as goal

abbrev pub invariant-loop-number : goal.invariant-loop-number
invariant-loop-number l = (length l.fields ≡ l.number) × (known_at l.fields ≡ first l.number (field_known l.frame))
