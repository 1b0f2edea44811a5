use Rattle.std.proofs.Common.{◌≤◌}
use Rattle.ob_store_payload.proofs.ConditionLemmas.{RiseTo}
use Rattle.ob_store_payload.proofs.conditions.are_in_order.Given as goal

-- each name so far comes before the next
abbrev pub invariant-loop-place : goal.invariant-loop-place
invariant-loop-place l = record {
  some : 1 ≤ l.place;
  rise : RiseTo l.place l.handles;
}
