use Rattle.std.proofs.Common.{ap, ◌∙◌, map}
use Rattle.ob_heap.specs.Contents.{named_of}
use Rattle.ob_owners.specs.Noting.{holding_of_handle, after_holdings}
use Rattle.ob_owners.proofs.NotingLemmas.{block_turn}
use Rattle.ob_owners.proofs.tally.note_blocks.Goals as goal

pub loop-block-preserved : goal.loop-block-preserved
loop-block-preserved c =
    block_turn c.args.blocks.now c.loop-block.block-index c.block-item.result c.loop-block.tallies c.note_handles.new.tallies c.loop-block-test.true c.block-item.is
    (c.note_handles.ensures ∙ ap (λ hs. after_holdings (map holding_of_handle (map named_of hs)) c.loop-block.tallies) c.as_slice.ensures)
    ∙ c.loop-block.invariant
