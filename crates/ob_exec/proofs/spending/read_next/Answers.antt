use Rattle.std.proofs.Common.{[], ◌∷◌, map}
use Rattle.ob_heap_spec.specs.Worlds.{next_item}
use Rattle.ob_exec_handles.specs.Spending.{item_of}
use Rattle.ob_exec_handles.proofs.SpendingLemmas.{where_held, where_not}
use Rattle.ob_exec.proofs.spending.read_next.Goals as goal

pub returns-then-is_read : goal.returns-then-is_read
returns-then-is_read c =
    where_held c.read_item.result c.args.is_read (map item_of c.args.reads.now) (map item_of c.read_item.new.reads) (next_item ∷ []) c.if-is_read.true
    c.read_item.ensures

pub returns-else-is_read : goal.returns-else-is_read
returns-else-is_read c = where_not c.args.is_read (map item_of c.args.reads.now) (next_item ∷ []) c.if-is_read.false
