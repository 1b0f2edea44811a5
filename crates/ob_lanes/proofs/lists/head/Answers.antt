use Rattle.std.proofs.Common.{sym}
use Rattle.ob_owners.proofs.PlacesLemmas.{headed}
use Rattle.ob_lanes.proofs.ListLemmas.{head_is}
use Rattle.ob_lanes.proofs.lists.head.Goals as goal

pub item-requires : goal.item-requires
item-requires g c = (headed c.args.links.now.lists c.args.list c.in-Some.node c.requires.list (sym c.in-Some.ensures.node)).has

pub returns-in-Some : goal.returns-in-Some
returns-in-Some g c = head_is c.args.links.now c.args.list c.in-Some.node c.item.result c.requires.list c.in-Some.ensures.node c.item.ensures.apart c.item.ensures.item
