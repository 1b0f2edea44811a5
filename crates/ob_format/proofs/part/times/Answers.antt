use Rattle.std.proofs.Common.{rules}
use Rattle.ob_format.proofs.Loops.{times_step}
use Rattle.ob_format.proofs.part.times.Goals as goal

pub items-preserved : goal.items-preserved
items-preserved g c = times_step g.T.Part.format.read c.args.count c.items.counter c.items.items c.push.new.self c.in_ok-item.item c.items.rest.now c.in_ok-item.after.now _ (search rules) c.items.invariant c.in_ok-item.ensures c.in_ok-push.ensures.ok
