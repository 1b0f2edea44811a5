use Rattle.std.proofs.Common.{map}
use Rattle.ob_exec_handles.specs.Spending.{item_of}
use Rattle.ob_exec.specs.Reading.{into_reads}
use Rattle.ob_exec_handles.proofs.SpendingLemmas.{where_held, where_not}
use Rattle.ob_exec.proofs.reading.read_into.Goals as goal

pub returns-then-there : goal.returns-then-there
returns-then-there c =
    where_held c.read_name.result c.args.there (map item_of c.args.reads.now) (map item_of c.read_name.new.reads)
    (into_reads c.args.who.now c.args.into.now c.args.why) c.if-there.true c.read_name.ensures

pub returns-else-there : goal.returns-else-there
returns-else-there c =
    where_not c.args.there (map item_of c.args.reads.now) (into_reads c.args.who.now c.args.into.now c.args.why) c.if-there.false
