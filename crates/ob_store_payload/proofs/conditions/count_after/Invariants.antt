use Rattle.ob_store_payload.proofs.ConditionLemmas.{AreLeft}
use Rattle.ob_store_payload.proofs.conditions.count_after.Given as goal

-- the objects from here on follow just where all do
abbrev pub invariant-loop-entry : goal.invariant-loop-entry
invariant-loop-entry l = AreLeft l.content.objects l.objects l.entry-index l.least l.count
