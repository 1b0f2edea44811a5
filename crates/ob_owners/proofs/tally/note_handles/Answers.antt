use Rattle.std.proofs.Common.{◌+◌, ap, sym, ◌∙◌, drop, map}
use Rattle.ob_heap.specs.Contents.{name_of, named_of}
use Rattle.ob_owners.specs.Noting.{holding_of_handle, after_holdings, tallies_with}
use Rattle.ob_owners.proofs.NotingLemmas.{handle_turn}
use Rattle.ob_owners.proofs.tally.note_handles.Goals as goal

pub loop-handle-preserved : goal.loop-handle-preserved
loop-handle-preserved c =
    let i = c.loop-handle.handle-index in
    ap (after_holdings (map holding_of_handle (map named_of (drop (i + 1) c.args.handles.now))))
    (c.note.ensures ∙ ap (λ h. tallies_with h c.loop-handle.tallies) (c.holding_of_handle.ensures (name_of c.handle-item.result.0)))
    ∙ sym (handle_turn c.args.handles.now i c.handle-item.result c.loop-handle.tallies c.loop-handle-test.true c.handle-item.is)
    ∙ c.loop-handle.invariant
