use Rattle.std.proofs.Common.{◌≡◌, ◌++◌, map, drop}
use Rattle.ob_heap_spec.specs.Worlds.{object_item}
use Rattle.ob_exec_handles.specs.Spending.{item_of}
use Rattle.ob_exec.proofs.spending.read_numbers.Given as goal

-- with the numbers that are left, this is all
abbrev pub invariant-loop-number : goal.invariant-loop-number
invariant-loop-number l =
    map item_of l.reads ++ map object_item (drop l.number-index l.numbers) ≡ map item_of l.fn.reads ++ map object_item l.numbers
