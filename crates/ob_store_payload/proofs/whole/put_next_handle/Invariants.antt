use Rattle.std.proofs.Common.{List, ◌∷◌, drop}
use Rattle.ob_store_payload.specs.Whole.{GoesOn, KeptHandle, course}
use Rattle.ob_store_payload.proofs.whole.put_next_handle.Given as goal

-- what the changes so far leave is written, and the handle is to come
abbrev pub invariant-loop-place : goal.invariant-loop-place
invariant-loop-place l =
    (hs : List KeptHandle) → GoesOn (course l.fn.out.items (l.handle ∷ hs) l.changes) (course l.out.items (l.handle ∷ hs) (drop l.place l.changes))
