use Rattle.std.proofs.Common.{◌≡◌, drop, map}
use Rattle.ob_heap.specs.Contents.{named_of}
use Rattle.ob_owners.specs.Noting.{holding_of_handle, after_holdings}
use Rattle.ob_owners.proofs.tally.note_handles.Given as goal

-- the rest of the handles leads to where all of them lead
abbrev pub invariant-loop-handle : goal.invariant-loop-handle
invariant-loop-handle l =
    after_holdings (map holding_of_handle (map named_of (drop l.handle-index l.handles))) l.tallies
    ≡ after_holdings (map holding_of_handle (map named_of l.handles)) l.fn.tallies
