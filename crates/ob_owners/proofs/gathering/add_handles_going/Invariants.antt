use Rattle.std.proofs.Common.{◌≡◌, ◌++◌, drop, map}
use Rattle.std.specs.Prelude.{flat_map}
use Rattle.ob_owners.specs.Owning.{owning_of, owning_by_handle, handles_going}
use Rattle.ob_owners.proofs.gathering.add_handles_going.Given as goal

-- what is gathered, and the rest, are what all lead to
abbrev pub invariant-loop-change : goal.invariant-loop-change
invariant-loop-change l = map owning_of l.found.items ++ flat_map owning_by_handle (handles_going l.content (drop l.change-index l.changes)) ≡ map owning_of l.fn.found.items ++ flat_map owning_by_handle (handles_going l.content l.changes)
