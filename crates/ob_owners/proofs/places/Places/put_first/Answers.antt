use Rattle.std.proofs.Common.{◌<◌, sym, ap, subst}
use Rattle.ob_owners.specs.Places.{Listed}
use Rattle.ob_owners.proofs.PlacesLemmas.{kept_more}
use Rattle.ob_owners.proofs.WalkLemmas.{put_before}
use Rattle.ob_owners.proofs.places.Places.put_first.Goals as goal

pub invariant_of-self : goal.invariant_of-self
invariant_of-self g c =
    kept_more c.self.inside.links c.insert.new.links c.self.inside.spots c.insert.new.spots c.self.inside.lists c.self.inside.count c.self.inside.room c.self.invariant
    (subst (λ (v : Listed). 0 < v.room) (sym c.self.view_is) c.requires.room) c.insert.ensures.keyed c.insert.ensures.lists c.insert.ensures.count c.insert.ensures.spare
    c.insert.ensures.room

pub returns-clause-lists : goal.returns-clause-lists
returns-clause-lists g c =
    put_before c.self.inside.spots c.insert.new.spots c.self.inside.links c.insert.new.links c.args.list c.first-before.result c.args.spot c.args.self.now.lists
    (ap (λ (v : Listed). v.lists) c.self.view_is) c.first-before.ensures.node c.insert.ensures.places
