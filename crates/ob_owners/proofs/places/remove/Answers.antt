use Rattle.std.proofs.Common.{◌∙◌, suc, map, length, sym, ap, subst, arith}
use Rattle.std.proofs.lemmas.List.{length-map}
use Rattle.ob_links.specs.Lists.{joined, without_node}
use Rattle.ob_owners.specs.Places.{AreKeyed, spots_of}
use Rattle.ob_owners.proofs.TakingLemmas.{item_filled, keyed_gone, listed_gone, count_gone}
use Rattle.ob_owners.proofs.places.remove.Goals as goal

pub remove-spot-requires : goal.remove-spot-requires
remove-spot-requires c = item_filled c.args.spots.now c.args.node c.remove-key.result (joined c.args.links.now.lists) c.requires.keyed c.remove-key.ensures.item

pub returns-clause-keyed : goal.returns-clause-keyed
returns-clause-keyed c =
    subst (λ ls. AreKeyed c.remove-spot.new.self (joined ls)) (sym c.remove-key.ensures.lists)
    (keyed_gone c.args.spots.now c.remove-spot.new.self c.args.node c.remove-key.result c.args.links.now.lists c.requires.keyed c.remove-key.ensures.item c.remove-spot.ensures.updates)

pub returns-clause-places : goal.returns-clause-places
returns-clause-places c =
    ap (map (spots_of c.remove-spot.new.self)) c.remove-key.ensures.lists
    ∙ listed_gone c.args.spots.now c.remove-spot.new.self c.args.node c.remove-key.result c.args.links.now.lists c.requires.keyed c.remove-key.ensures.item c.remove-spot.ensures.updates

pub returns-clause-lists : goal.returns-clause-lists
returns-clause-lists c = ap length c.remove-key.ensures.lists ∙ length-map c.args.links.now.lists (without_node c.args.node)

pub returns-clause-count : goal.returns-clause-count
returns-clause-count c =
    ap (λ ls. suc (length (joined ls))) c.remove-key.ensures.lists ∙ count_gone c.args.node c.args.links.now.lists c.requires.apart c.requires.node

pub returns-clause-room : goal.returns-clause-room
returns-clause-room c = λ more h. omega (arith, h, c.remove-spot.ensures.len, c.remove-spot.ensures.capacity)
