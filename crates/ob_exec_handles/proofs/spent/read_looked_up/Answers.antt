use Rattle.std.proofs.Common.{[], ◌∷◌, map}
use Rattle.ob_heap_spec.specs.Worlds.{handle_item}
use Rattle.ob_invocation_spec.specs.Handles.{handle_name}
use Rattle.ob_exec_handles.specs.Spending.{item_of}
use Rattle.ob_exec_handles.proofs.SpendingLemmas.{where_held, where_not}
use Rattle.ob_exec_handles.proofs.spent.read_looked_up.Goals as goal

pub returns-then-is_looked_up : goal.returns-then-is_looked_up
returns-then-is_looked_up c =
    where_held c.read_name.result c.args.is_looked_up (map item_of c.args.reads.now) (map item_of c.read_name.new.reads)
    (handle_item (handle_name c.args.who.now c.args.name.now) ∷ []) c.if-is_looked_up.true c.read_name.ensures

pub returns-else-is_looked_up : goal.returns-else-is_looked_up
returns-else-is_looked_up c =
    where_not c.args.is_looked_up (map item_of c.args.reads.now) (handle_item (handle_name c.args.who.now c.args.name.now) ∷ []) c.if-is_looked_up.false
