use Rattle.std.proofs.Common.{◌≡◌, ◌++◌, drop, map}
use Rattle.std.specs.Prelude.{flat_map}
use Rattle.ob_heap.specs.Blocks.{joined}
use Rattle.ob_heap.specs.Contents.{named_of}
use Rattle.ob_owners.specs.Owning.{owning_of, owning_by_handle}
use Rattle.ob_owners.proofs.gathering.add_blocks.Given as goal

-- what is gathered, and the rest, are what all lead to
abbrev pub invariant-loop-block : goal.invariant-loop-block
invariant-loop-block l = map owning_of l.found.items ++ flat_map owning_by_handle (map named_of (joined (drop l.block-index l.blocks))) ≡ map owning_of l.fn.found.items ++ flat_map owning_by_handle (map named_of (joined l.blocks))
