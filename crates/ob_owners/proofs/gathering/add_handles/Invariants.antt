use Rattle.std.proofs.Common.{◌≡◌, ◌++◌, drop, map}
use Rattle.std.specs.Prelude.{flat_map}
use Rattle.ob_heap.specs.Contents.{named_of}
use Rattle.ob_owners.specs.Owning.{owning_of, owning_by_handle}
use Rattle.ob_owners.proofs.gathering.add_handles.Given as goal

-- what is gathered, and the rest, are what all lead to
abbrev pub invariant-loop-handle : goal.invariant-loop-handle
invariant-loop-handle l = map owning_of l.found.items ++ flat_map owning_by_handle (map named_of (drop l.handle-index l.handles)) ≡ map owning_of l.fn.found.items ++ flat_map owning_by_handle (map named_of l.handles)
