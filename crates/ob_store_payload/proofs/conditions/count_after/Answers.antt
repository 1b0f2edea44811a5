use Rattle.std.proofs.Common.{length, subst, sym}
use Rattle.ob_store_payload.proofs.ConditionLemmas.{AreLeft, all_left}
use Rattle.ob_store_payload.proofs.conditions.count_after.Goals as goal

pub loop-entry-init : goal.loop-entry-init
loop-entry-init c =
    subst (λ l. AreLeft c.args.content.now.objects c.args.objects.now 0 0 (length l)) (sym c.objects-count.ensures) (all_left c.args.content.now.objects c.args.objects.now)
