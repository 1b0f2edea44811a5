use Rattle.std.proofs.Common.{drop}
use Rattle.ob_heap.specs.Blocks.{joined}
use Rattle.ob_store_payload.specs.Whole.{GoesOn, course}
use Rattle.ob_store_payload.proofs.whole.put_handles_with.Given as goal

-- the handles of the blocks so far are written
abbrev pub invariant-loop-block : goal.invariant-loop-block
invariant-loop-block l = GoesOn (course l.fn.out.items (joined l.blocks) l.changes) (course l.out.items (joined (drop l.block-index l.blocks)) l.rest)
