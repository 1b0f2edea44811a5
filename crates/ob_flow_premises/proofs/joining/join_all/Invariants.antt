use Rattle.std.proofs.Common.{◌≡◌, length}
use Rattle.ob_flow_context.specs.View.{known_at}
use Rattle.ob_flow_context.proofs.BeginningLemmas.{first}
use Rattle.ob_flow_premises.specs.Joins.{joined_numbers}
use Rattle.ob_flow_premises.proofs.joining.join_all.Given as goal

abbrev pub invariant-loop-number : goal.invariant-loop-number
invariant-loop-number l = (length l.joined ≡ l.number) × (known_at l.joined ≡ first l.number (joined_numbers (known_at l.a) (known_at l.b)))
