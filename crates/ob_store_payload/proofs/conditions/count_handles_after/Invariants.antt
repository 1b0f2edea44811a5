use Rattle.ob_store_payload.proofs.TallyLemmas.{AreCounted}
use Rattle.ob_store_payload.proofs.conditions.count_handles_after.Given as goal

-- the handles so far are counted
abbrev pub invariant-loop-entry : goal.invariant-loop-entry
invariant-loop-entry l = AreCounted l.content.handles l.handles l.entry-index l.count
