use Rattle.std.proofs.Common.{◌<◌, [], get_or, sym, ap, subst}
use Rattle.ob_owners.specs.Places.{Listed}
use Rattle.ob_owners.proofs.PlacesLemmas.{kept_more}
use Rattle.ob_owners.proofs.WalkLemmas.{past, node_inside, put_among}
use Rattle.ob_owners.proofs.places.Places.put.Goals as goal

pub insert-requires-clause-before : goal.insert-requires-clause-before
insert-requires-clause-before g c =
    node_inside (past c.args.spot) c.self.inside.spots (get_or c.self.inside.links.lists c.args.list []) c.node_past-before.result c.node_past-before.ensures.node

pub invariant_of-self : goal.invariant_of-self
invariant_of-self g c =
    kept_more c.self.inside.links c.insert.new.links c.self.inside.spots c.insert.new.spots c.self.inside.lists c.self.inside.count c.self.inside.room c.self.invariant
    (subst (λ (v : Listed). 0 < v.room) (sym c.self.view_is) c.requires.room) c.insert.ensures.keyed c.insert.ensures.lists c.insert.ensures.count c.insert.ensures.spare
    c.insert.ensures.room

pub returns-clause-lists : goal.returns-clause-lists
returns-clause-lists g c =
    put_among c.self.inside.spots c.insert.new.spots c.self.inside.links c.insert.new.links c.args.list c.node_past-before.result c.args.spot c.args.self.now.lists
    (ap (λ (v : Listed). v.lists) c.self.view_is) c.node_past-before.ensures.node c.node_past-before.ensures.apart c.insert.ensures.places
