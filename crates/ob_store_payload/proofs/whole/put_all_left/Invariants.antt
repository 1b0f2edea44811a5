use Rattle.std.proofs.Common.{[], drop}
use Rattle.ob_store_payload.specs.Whole.{GoesOn, course}
use Rattle.ob_store_payload.proofs.whole.put_all_left.Given as goal

-- what the changes so far leave is written
abbrev pub invariant-loop-change : goal.invariant-loop-change
invariant-loop-change l = GoesOn (course l.fn.out.items [] l.changes) (course l.out.items [] (drop l.change-index l.changes))
