use Rattle.std.proofs.Common.{◌∙◌, ap, map}
use Rattle.ob_owners.specs.Places.{places_of, spots_of}
use Rattle.ob_owners.proofs.PlacesLemmas.{start_kept, none_placed}
use Rattle.ob_owners.proofs.places.Places.new.Goals as goal

pub invariant_of-result : goal.invariant_of-result
invariant_of-result c = start_kept c.in_ok-links.links c.new-spots.result c.args.lists c.in_ok-links.ensures c.new-spots.ensures.empty

pub returns : goal.returns
returns c = ap (λ ls. places_of (map (spots_of c.new-spots.result) ls)) c.in_ok-links.ensures ∙ none_placed c.new-spots.result c.args.lists
