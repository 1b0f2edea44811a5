use Rattle.std.proofs.Common.{◌++◌, map, refl, ap, ◌∙◌}
use Rattle.std.specs.Prelude.{flat_map}
use Rattle.ob_heap.specs.Blocks.{joined}
use Rattle.ob_heap.specs.Contents.{named_of}
use Rattle.ob_owners.specs.Owning.{owning_of, owning_by_handle}
use Rattle.ob_owners.proofs.GatherLemmas.{block_added, at_end}
use Rattle.ob_owners.proofs.gathering.add_blocks.Goals as goal

pub loop-block-preserved : goal.loop-block-preserved
loop-block-preserved c =
    block_added c.args.blocks.now c.loop-block.block-index c.block-item.result (map owning_of c.loop-block.found.items)
    (map owning_of c.add_handles.new.found.items) c.loop-block-test.true c.block-item.is
    (c.in_ok-add_handles.ensures ∙ ap (λ hs. map owning_of c.loop-block.found.items ++ flat_map owning_by_handle (map named_of hs)) c.as_slice.ensures)
    ∙ c.loop-block.invariant

pub returns : goal.returns
returns c =
    at_end (λ bs. flat_map owning_by_handle (map named_of (joined bs))) c.args.blocks.now c.loop-block.block-index (map owning_of c.loop-block.found.items) _ refl
    c.loop-block-test.false c.loop-block.invariant
