use Rattle.ob_heap.proofs.OthersLemmas.{other_turn}
use Rattle.ob_heap.proofs.changed.add_others.Goals as goal

pub loop-id-preserved : goal.loop-id-preserved
loop-id-preserved c = (
  other_turn c.args.base.now (c.in-Some.id.now, c.in-Some.object.now) c.next.new.self c.loop-id.found c.add_other.new.found _ c.in_ok-add_other.ensures.found
      (rw c.in-Some.ensures.steps at c.loop-id.invariant.0),
  λ h. c.in_ok-add_other.ensures.others (c.loop-id.invariant.1 h),
)
