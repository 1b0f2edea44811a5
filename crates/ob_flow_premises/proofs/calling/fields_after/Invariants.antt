use Rattle.std.proofs.Common.{◌≡◌, length}
use Rattle.ob_flow_context.specs.View.{known_at}
use Rattle.ob_flow_context.proofs.BeginningLemmas.{first}
use Rattle.ob_flow_premises.specs.Calls.{field_after}
use Rattle.ob_flow_premises.proofs.calling.fields_after.Given as goal

abbrev pub invariant-loop-number : goal.invariant-loop-number
invariant-loop-number l = (length l.fields ≡ l.number) × (known_at l.fields ≡ first l.number (field_after l.frame l.signature))
