use Rattle.std.proofs.Common.{◌∙◌, sym}
use Rattle.std.specs.Option.{option_copied}
use Rattle.ob_owners.proofs.PlacesLemmas.{headed, first_listed, nothing_first}
use Rattle.ob_owners.proofs.places.first.Goals as goal

pub item-requires : goal.item-requires
item-requires g c = (headed c.args.links.now.lists c.args.list c.in-Some.node c.requires.list (sym c.first.ensures.node ∙ c.in-Some.is)).has

pub returns-in-Some-clause-place : goal.returns-in-Some-clause-place
returns-in-Some-clause-place g c =
    first_listed c.args.spots.now c.args.links.now.lists c.args.list c.in-Some.node c.item.result (option_copied c.get.result)
    (headed c.args.links.now.lists c.args.list c.in-Some.node c.requires.list (sym c.first.ensures.node ∙ c.in-Some.is)) c.requires.keyed c.item.ensures.apart
    c.item.ensures.item c.get.ensures

pub returns-in-None-clause-place : goal.returns-in-None-clause-place
returns-in-None-clause-place g c = sym (nothing_first c.args.spots.now c.args.links.now.lists c.args.list (sym c.first.ensures.node ∙ c.in-None.is))
