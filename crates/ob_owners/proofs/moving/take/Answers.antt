use Rattle.std.proofs.Common.{◌<◌, ◌≤◌, ◌∙◌, length, subst}
use Rattle.ob_owners.specs.Order.{without_place}
use Rattle.ob_owners.specs.Spots.{place_of}
use Rattle.ob_owners.proofs.OwnersLemmas.{changed_at}
use Rattle.ob_owners.proofs.TallyLaws.{changed_past}
use Rattle.ob_owners.proofs.moving.take.Goals as goal

pub returns-then-owning-count-clause-lists : goal.returns-then-owning-count-clause-lists
returns-then-owning-count-clause-lists g c =
    let lists = c.args.places.now.lists in
    let within : c.args.owning.now.object.0 < length lists = subst (λ k. c.args.owning.now.object.0 < k) c.count_lists-count.ensures c.if-owning-count.true in
    c.take.ensures.lists ∙ changed_at (without_place (place_of c.args.owning.now.spot)) lists c.args.owning.now.object.0 within

pub returns-else-owning-count-clause-lists : goal.returns-else-owning-count-clause-lists
returns-else-owning-count-clause-lists g c =
    let lists = c.args.places.now.lists in
    let past : length lists ≤ c.args.owning.now.object.0 = subst (λ k. k ≤ c.args.owning.now.object.0) c.count_lists-count.ensures c.if-owning-count.false in
    changed_past (without_place (place_of c.args.owning.now.spot)) lists c.args.owning.now.object.0 past
