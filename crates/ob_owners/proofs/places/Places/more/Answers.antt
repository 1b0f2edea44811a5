use Rattle.std.proofs.Common.{◌++◌, ◌∙◌, [], map, replicate, ap}
use Rattle.ob_owners.specs.Places.{Listed, places_of, spots_of}
use Rattle.ob_owners.proofs.PlacesLemmas.{kept_longer, placed_more}
use Rattle.ob_owners.proofs.places.Places.more.Goals as goal

pub invariant_of-self-2 : goal.invariant_of-self-2
invariant_of-self-2 c =
    kept_longer c.self.inside.links c.more.new.self c.self.inside.spots c.self.inside.lists c.self.inside.count c.self.inside.room c.args.lists c.self.invariant
    c.in_ok-more.ensures.ok c.more.ensures.spare

pub returns-clause-ok : goal.returns-clause-ok
returns-clause-ok c =
    ap (λ ls. places_of (map (spots_of c.self.inside.spots) ls)) c.in_ok-more.ensures.ok ∙ placed_more c.self.inside.spots c.self.inside.links.lists c.args.lists
    ∙ ap (λ (v : Listed). v.lists ++ replicate c.args.lists []) c.self.view_is
