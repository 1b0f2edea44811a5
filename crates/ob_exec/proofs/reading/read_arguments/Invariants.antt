use Rattle.std.proofs.Common.{◌≡◌, ◌++◌, List, map, drop}
use Rattle.ob_heap.specs.Contents.{content_of}
use Rattle.ob_heap_spec.specs.Worlds.{ReadItem}
use Rattle.ob_exec_handles.specs.Spending.{item_of}
use Rattle.ob_exec.specs.Reading.{read_then}
use Rattle.ob_exec.proofs.reading.read_arguments.Given as goal

-- with what is read of the arguments that are left, this is all
abbrev pub invariant-loop-arg : goal.invariant-loop-arg
invariant-loop-arg l =
    (rest : List ReadItem) → map item_of l.reads ++ read_then (content_of l.content) l.who (drop l.arg-index l.args) rest
    ≡ map item_of l.fn.reads ++ read_then (content_of l.content) l.who l.args rest
