use Rattle.std.proofs.Common.{[], ◌∷◌, map}
use Rattle.ob_heap_spec.specs.Worlds.{handles_full_item}
use Rattle.ob_exec_handles.specs.Spending.{item_of}
use Rattle.ob_exec_handles.proofs.SpendingLemmas.{where_held, where_not}
use Rattle.ob_exec_handles.proofs.spent.read_counted.Goals as goal

pub returns-then-is_counted : goal.returns-then-is_counted
returns-then-is_counted c =
    where_held c.read_item.result c.args.is_counted (map item_of c.args.reads.now) (map item_of c.read_item.new.reads) (handles_full_item ∷ []) c.if-is_counted.true
    c.read_item.ensures

pub returns-else-is_counted : goal.returns-else-is_counted
returns-else-is_counted c = where_not c.args.is_counted (map item_of c.args.reads.now) (handles_full_item ∷ []) c.if-is_counted.false
