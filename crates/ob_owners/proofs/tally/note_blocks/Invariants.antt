use Rattle.std.proofs.Common.{◌≡◌, drop, map}
use Rattle.ob_heap.specs.Blocks.{joined}
use Rattle.ob_heap.specs.Contents.{named_of}
use Rattle.ob_owners.specs.Noting.{holding_of_handle, after_holdings}
use Rattle.ob_owners.proofs.tally.note_blocks.Given as goal

-- the rest of the blocks leads to where all of them lead
abbrev pub invariant-loop-block : goal.invariant-loop-block
invariant-loop-block l =
    after_holdings (map holding_of_handle (map named_of (joined (drop l.block-index l.blocks)))) l.tallies
    ≡ after_holdings (map holding_of_handle (map named_of (joined l.blocks))) l.fn.tallies
