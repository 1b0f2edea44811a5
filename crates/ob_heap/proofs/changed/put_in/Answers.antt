use Rattle.std.proofs.Common.{Some}
use Rattle.ob_heap.proofs.OverlaysLemmas.{updated}
use Rattle.ob_heap.proofs.changed.put_in.Goals as goal

pub returns-in-Ok-clause-ok : goal.returns-in-Ok-clause-ok
returns-in-Ok-clause-ok c = updated c.args.id (Some c.args.object) c.args.map.now.entries c.insert.new.self.entries c.in-Ok.ensures.updates.0
