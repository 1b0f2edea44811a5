use Rattle.std.proofs.Common.{◌<◌, ◌∙◌, [], Some, length, get_or, sym, ap, subst}
use Rattle.ob_owners.specs.Places.{Listed}
use Rattle.ob_owners.proofs.PlacesLemmas.{kept_less, lists_length}
use Rattle.ob_owners.proofs.WalkLemmas.{same, has_at, node_inside, taken_from, taken_none}
use Rattle.ob_owners.proofs.places.Places.take.Goals as goal

pub remove-requires-clause-node : goal.remove-requires-clause-node
remove-requires-clause-node g c =
    let links = c.self.inside.links in
    let within : c.args.list < length links.lists =
    subst (λ k. c.args.list < k) (lists_length c.self.inside.spots links c.args.self.now.lists (ap (λ (v : Listed). v.lists) c.self.view_is)) c.requires.list in
    has_at links.lists c.args.list c.in-Some.node within
    (node_inside (same c.args.spot.now) c.self.inside.spots (get_or links.lists c.args.list []) (Some c.in-Some.node) c.in-Some.ensures.node)

pub invariant_of-self : goal.invariant_of-self
invariant_of-self g c =
    kept_less c.self.inside.links c.remove.new.links c.self.inside.spots c.remove.new.spots c.self.inside.lists c.self.inside.count c.self.inside.room c.self.invariant
    c.remove.ensures.keyed c.remove.ensures.lists c.remove.ensures.count c.remove.ensures.spare c.remove.ensures.room

pub returns-in-Some-clause-lists : goal.returns-in-Some-clause-lists
returns-in-Some-clause-lists g c =
    let links = c.self.inside.links in
    let seen = ap (λ (v : Listed). v.lists) c.self.view_is in
    let within : c.args.list < length links.lists = subst (λ k. c.args.list < k) (lists_length c.self.inside.spots links c.args.self.now.lists seen) c.requires.list in
    taken_from c.self.inside.spots c.remove.new.spots links c.remove.new.links c.args.list c.in-Some.node c.args.spot.now c.args.self.now.lists seen within
    c.in-Some.ensures.node c.in-Some.ensures.apart c.remove.ensures.places

pub returns-in_default-clause-lists : goal.returns-in_default-clause-lists
returns-in_default-clause-lists g c =
    taken_none c.self.inside.spots c.self.inside.links c.args.list c.args.spot.now c.args.self.now.lists (ap (λ (v : Listed). v.lists) c.self.view_is)
    (sym c.in_default.is ∙ c.node_of.ensures.node)
