use Rattle.std.proofs.Common.{List, ◌++◌, drop}
use Rattle.ob_store_payload.specs.Whole.{GoesOn, KeptHandle, course}
use Rattle.ob_store_payload.proofs.whole.put_some_handles.Given as goal

-- the handles so far are written
abbrev pub invariant-loop-handle : goal.invariant-loop-handle
invariant-loop-handle l =
    (hs : List KeptHandle) → GoesOn (course l.fn.out.items (l.handles ++ hs) l.changes) (course l.out.items (drop l.handle-index l.handles ++ hs) l.rest)
