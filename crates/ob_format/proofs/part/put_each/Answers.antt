use Rattle.std.proofs.Common.{rules, sym, length, ◌<◌}
use Rattle.ob_format.proofs.Loops.{put_step}
use Rattle.ob_format.proofs.part.put_each.Goals as goal

pub items-preserved : goal.items-preserved
items-preserved g c =
    let less : c.items.item-index < length c.args.items.now = search rules in
    put_step g.T.Part.format.bytes c.args.items.now c.items.item-index c.item-item.result c.args.out.now.items c.items.out.items c.put.new.out.items less (sym c.item-item.is) c.items.invariant c.in_ok-put.ensures
